-- A key's lines as they appear in an exercise (this project's own).
use Rattle.std.specs.Prelude.{ℕ, ◌==◌, ◌&&◌, ◌≡◌, Bool, true, false, if◌then◌else◌, Some}
use Rattle.std.specs.Prelude.{List, [], ◌++◌, get_or, length, take, codes}
use Rattle.play_script.specs.Lines.{Reading, Asks}
use Rattle.play_grade.specs.Asked.{is_question, asked_on}

-- a private comment of the key begins with `##`
abbrev pub is_private : List ℕ → Bool
is_private line = (get_or line 0 0 == 35) && (get_or line 1 0 == 35)

-- what is before the request of a line
abbrev pub front_of : List ℕ → List ℕ
front_of line = if is_question line then codes "#? " else []

-- a line in which `?` replaces an expectation or an answer, or any other line
abbrev pub blank_if : Bool → List ℕ → List ℕ → List ℕ
blank_if true line shown = front_of line ++ shown ++ codes " => ?\n"
blank_if false line shown = line ++ codes "\n"

abbrev pub blank_reading : List ℕ → Reading → List ℕ
blank_reading line (Asks shown plain (Some wanted)) = blank_if true line shown
blank_reading line _ = blank_if false line []

-- a line without its answer; a private line of the key becomes empty
abbrev pub blank_line : List ℕ → List ℕ
blank_line line = if is_private line then [] else blank_reading line (asked_on line)

-- a text is the beginning of another
abbrev pub Starts : List ℕ → List ℕ → Type 0
Starts part whole = take (length part) whole ≡ part
