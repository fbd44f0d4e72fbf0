-- Lines without an expectation (this project's own).
use Rattle.std.specs.Prelude.{ℕ, ◌||◌, not, Bool, false, List, [], ◌∷◌, if◌then◌else◌, codes, bytes_eq, Option, Some, None}
use Rattle.flat_model.specs.Machine.Count.{more_by}
use Rattle.flat_model.specs.Scripts.Grammar.{words}
use Rattle.play_script.specs.Settings.{has_dashes}
use Rattle.play_script.specs.Lines.{Reading, Nothing, TooLong, Faulty, Asks}
use Rattle.play_grade.specs.Asked.{lines_in, asked_on}
use Rattle.play_grade.specs.Answers.{is_answer}
use Rattle.play_grade.specs.Marks.{counted, no_marks}
use Rattle.play_grade.specs.declared.marks.Mark.TheVariants.{Right, Missing}
use Rattle.play_grade.specs.declared.marks.Marks.{Marks}

-- the line names a host, or the wire
abbrev pub names_hosts : List (List ℕ) → Bool
names_hosts [] = false
names_hosts (word ∷ words) = bytes_eq word (codes "host") || bytes_eq word (codes "wire")

-- a line that sets up hosts, which needs no expectation
abbrev pub is_setup : List ℕ → Bool
is_setup plain = has_dashes plain || names_hosts (words plain)

abbrev pub lacks_answer : Reading → Bool
lacks_answer Nothing = false
lacks_answer TooLong = false
lacks_answer (Faulty error) = false
lacks_answer (Asks shown plain wanted) = if is_setup plain then false else not (is_answer wanted)

-- a line makes a request and has no expectation, or it is a question without an answer
abbrev pub lacks : List ℕ → Bool
lacks line = lacks_answer (asked_on line)

-- the answer is the placeholder of an exercise
abbrev pub is_placeholder : Option (List ℕ) → Bool
is_placeholder None = false
is_placeholder (Some text) = bytes_eq text (codes "?")

abbrev pub awaits_answer : Reading → Bool
awaits_answer Nothing = false
awaits_answer TooLong = false
awaits_answer (Faulty error) = false
awaits_answer (Asks shown plain wanted) = is_placeholder wanted

-- a line or a question expects `?`
abbrev pub awaits : List ℕ → Bool
awaits line = awaits_answer (asked_on line)

-- ---- a script's own marks: each line that makes a request is right if it has an answer, and otherwise missing

abbrev pub own_counted : Reading → ℕ → Marks → Marks
own_counted Nothing number marks = marks
own_counted TooLong number marks = marks
own_counted (Faulty error) number marks = marks
own_counted (Asks shown plain wanted) number marks =
    if is_setup plain then marks
    else if is_answer wanted then counted Right number marks
    else counted Missing number marks

abbrev pub own_after : ℕ → List (List ℕ) → Marks → Marks
own_after number [] marks = marks
own_after number (line ∷ lines) marks =
    own_after (more_by 1 number) lines (own_counted (asked_on line) (more_by 1 number) marks)

abbrev pub own_marks : List ℕ → Marks
own_marks script = own_after 0 (lines_in script) no_marks
