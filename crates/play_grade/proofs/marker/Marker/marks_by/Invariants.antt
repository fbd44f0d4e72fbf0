use Rattle.std.proofs.Common.{◌≡◌, length}
use Rattle.play_grade.specs.Asked.{lines_in}
use Rattle.play_grade.specs.Grades.{marks_after, marks_by}
use Rattle.play_grade.specs.Inside.{standing_of}
use Rattle.play_grade.proofs.marker.Marker.marks_by.Given as goal

abbrev pub invariant-lines : goal.invariant-lines
invariant-lines l = marks_by l.key l.hand ≡ marks_after (lines_in l.left) (standing_of l.standing)

abbrev pub decreases-lines : goal.decreases-lines
decreases-lines l = length (lines_in l.left)
