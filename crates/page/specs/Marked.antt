-- The marks of a hand-in as the page gets them (this project's own).
use Rattle.std.specs.Prelude.{◌≡◌, ◌⊎◌, ℕ, List, Option, Some, None, Err}
use Rattle.page.specs.Served.{outcome_number}
use Rattle.page.specs.declared.marks.PageMarks.{PageMarks}
use Rattle.play_grade.specs.Grades.{marks_by}
use Rattle.play_grade.specs.declared.marks.Marks.{Marks}
use Rattle.script_loop.specs.declared.fault.RunFault.TheVariants.{Memory}

-- a line's number, counted from 1; 0 means none
abbrev pub line_number : Option ℕ → ℕ
line_number None = 0
line_number (Some number) = number

abbrev pub marks_struct : Marks → PageMarks
marks_struct m = record { right = m.right; wrong = m.wrong; missing = m.missing; first = line_number m.first }

-- The hand-in was marked by the key; or memory ran out, and nothing was written.
abbrev pub Marked : List ℕ → List ℕ → ℕ → PageMarks → PageMarks → Type 0
Marked key hand_in answer before after =
    ((answer ≡ 0) × (after ≡ marks_struct (marks_by key hand_in)))
    ⊎ ((answer ≡ outcome_number (Err Memory)) × (after ≡ before))
