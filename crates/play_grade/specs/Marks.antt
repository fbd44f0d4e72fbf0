-- How many answers are right, wrong and missing (this project's own).
use Rattle.std.specs.Prelude.{ℕ, ◌==◌, ◌&&◌, Bool, nat_lt, Option, Some, None}
use Rattle.flat_model.specs.Machine.Count.{more_by}
use Rattle.play_grade.specs.declared.marks.Mark.{Mark}
use Rattle.play_grade.specs.declared.marks.Mark.TheVariants.{Right, Wrong, Missing}
use Rattle.play_grade.specs.declared.marks.Marks.{Marks}

abbrev pub no_marks : Marks
no_marks = record { right = 0; wrong = 0; missing = 0; first = None }

abbrev pub first_of : Option ℕ → ℕ → Option ℕ
first_of (Some first) number = Some first
first_of None number = Some number

-- with one more answer, for the key's line of this number
abbrev pub counted : Mark → ℕ → Marks → Marks
counted Right number marks = record marks { right = more_by 1 marks.right }
counted Wrong number marks =
    record marks { wrong = more_by 1 marks.wrong; first = first_of marks.first number }
counted Missing number marks =
    record marks { missing = more_by 1 marks.missing; first = first_of marks.first number }

-- there is an answer, and all answers are right
abbrev pub are_full : Marks → Bool
are_full marks = nat_lt 0 marks.right && (marks.wrong == 0 && marks.missing == 0)
