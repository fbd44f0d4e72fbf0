-- The requests of the lines of a script (this project's own).
use Rattle.std.specs.Prelude.{ℕ, ◌==◌, ◌&&◌, ◌++◌, Bool, List, [], drop, get_or, if◌then◌else◌, codes, decimal, Option, Some, None, Result, Ok, Err}
use Rattle.std.specs.Borrow.{Bor}
use Rattle.std.specs.List.{slice_split}
use Rattle.play_line.specs.Time.{TimedView, timed}
use Rattle.play_line.specs.declared.fault.SyntaxError.{SyntaxError}
use Rattle.play_script.specs.Lines.{Reading, Nothing, TooLong, Faulty, Asks, reading_part}

-- the lines of a text, without the byte 10 that ends each but the last
abbrev pub lines_in : List ℕ → List (List ℕ)
lines_in text = slice_split (λ byte. byte == 10) text

abbrev pub lines_left : Option (Bor (List ℕ)) → List (List ℕ)
lines_left None = []
lines_left (Some text) = lines_in text.now

-- a question to the student is a comment that begins with `#?`
abbrev pub is_question : List ℕ → Bool
is_question line = (get_or line 0 0 == 35) && (get_or line 1 0 == 63)

abbrev pub unmarked : List ℕ → List ℕ
unmarked line = if is_question line then drop 2 line else line

-- the ticks that pass before a line
abbrev pub ticks_front : ℕ → List ℕ
ticks_front ticks = if ticks == 0 then [] else codes "+" ++ decimal ticks ++ codes " "

abbrev pub with_ticks : ℕ → Reading → Reading
with_ticks ticks Nothing = Nothing
with_ticks ticks TooLong = TooLong
with_ticks ticks (Faulty error) = Faulty error
with_ticks ticks (Asks shown plain wanted) = Asks shown (ticks_front ticks ++ plain) wanted

-- a line with its time
abbrev pub timed_on : List ℕ → Result TimedView SyntaxError → Reading
timed_on line (Err error) = Faulty error
timed_on line (Ok t) = with_ticks t.ticks (reading_part line t.part)

-- a question is read like a line: the text after its `=>` is the answer
abbrev pub asked_on : List ℕ → Reading
asked_on line = timed_on (unmarked line) (timed (unmarked line))
