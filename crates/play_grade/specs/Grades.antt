-- The marks for a hand-in, by a key (this project's own).
use Rattle.std.specs.Prelude.{ℕ, Bool, true, false, List, [], ◌∷◌, if◌then◌else◌, bytes_eq, Option, Some, None}
use Rattle.flat_model.specs.Machine.Count.{more_by}
use Rattle.flat_model.specs.Scripts.Grammar.{words}
use Rattle.play_script.specs.Lines.{Reading, Nothing, TooLong, Faulty, Asks}
use Rattle.play_grade.specs.Asked.{lines_in, asked_on}
use Rattle.play_grade.specs.Answers.{all_open, mark_of}
use Rattle.play_grade.specs.Marks.{counted, no_marks}
use Rattle.play_grade.specs.declared.marks.Mark.TheVariants.{Missing}
use Rattle.play_grade.specs.declared.marks.Marks.{Marks}

-- ---- a line of the hand-in

-- its answer, and the lines after it
pub record Found : Type 0 where
  pub answer : Option (List ℕ)
  pub rest : List (List ℕ)

abbrev pub found_if : Bool → Option (List ℕ) → List (List ℕ) → Option Found → Option Found
found_if true answer rest later = Some (record { answer = answer; rest = rest })
found_if false answer rest later = later

abbrev pub found_on : List ℕ → Reading → List (List ℕ) → Option Found → Option Found
found_on asked Nothing rest later = later
found_on asked TooLong rest later = later
found_on asked (Faulty error) rest later = later
found_on asked (Asks shown plain answer) rest later = found_if (bytes_eq asked plain) answer rest later

-- the first of these lines with exactly this request
abbrev pub found_in : List ℕ → List (List ℕ) → Option Found
found_in asked [] = None
found_in asked (line ∷ lines) = found_on asked (asked_on line) lines (found_in asked lines)

-- ---- the lines of the key

-- The state after some lines of the key: the marks, and the remaining lines of the hand-in. Lines of a hand-in that the
-- key doesn't have are skipped. So each line of the hand-in is used for at most one line of the key, in order.
pub record Standing : Type 0 where
  pub number : ℕ
  pub marks : Marks
  pub left : List (List ℕ)

abbrev pub marked : List ℕ → Option Found → Standing → Standing
marked wanted None s = record s { marks = counted Missing s.number s.marks }
marked wanted (Some found) s =
    record s { marks = counted (mark_of wanted found.answer) s.number s.marks; left = found.rest }

-- a line of the key counts if it has an answer that isn't open
abbrev pub after_asked : List ℕ → Option (List ℕ) → Standing → Standing
after_asked asked None s = s
after_asked asked (Some wanted) s =
    if all_open (words wanted) then s else marked wanted (found_in asked s.left) s

abbrev pub after_reading : Reading → Standing → Standing
after_reading Nothing s = s
after_reading TooLong s = s
after_reading (Faulty error) s = s
after_reading (Asks shown plain wanted) s = after_asked plain wanted s

abbrev pub after_line : List ℕ → Standing → Standing
after_line line s = after_reading (asked_on line) (record s { number = more_by 1 s.number })

abbrev pub marks_after : List (List ℕ) → Standing → Marks
marks_after [] s = s.marks
marks_after (line ∷ lines) s = marks_after lines (after_line line s)

abbrev pub begun : List ℕ → Standing
begun hand = record { number = 0; marks = no_marks; left = lines_in hand }

-- the marks of a hand-in by a key
abbrev pub marks_by : List ℕ → List ℕ → Marks
marks_by key hand = marks_after (lines_in key) (begun hand)
