-- The verdict on a hand-in (this project's own).
use Rattle.std.specs.Prelude.{◌&&◌, Bool, is_ok}
use Rattle.play_grade.specs.Marks.{are_full}
use Rattle.play_grade.specs.declared.verdict.Verdict.{Verdict}

-- It was played to its end, all of its lines could be read and all of its expectations were met; it has an answer, and
-- no answer is wrong or missing.
abbrev pub is_passed : Verdict → Bool
is_passed v = is_ok v.played.outcome && (v.played.sound && are_full v.marks)
