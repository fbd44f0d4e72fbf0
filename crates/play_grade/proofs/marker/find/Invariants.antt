use Rattle.std.proofs.Common.{◌≡◌, length}
use Rattle.play_grade.specs.Asked.{lines_in}
use Rattle.play_grade.specs.Grades.{found_in}
use Rattle.play_grade.proofs.marker.find.Given as goal

abbrev pub invariant-lines : goal.invariant-lines
invariant-lines l = found_in l.asked (lines_in l.hand) ≡ found_in l.asked (lines_in l.left)

abbrev pub decreases-lines : goal.decreases-lines
decreases-lines l = length (lines_in l.left)
