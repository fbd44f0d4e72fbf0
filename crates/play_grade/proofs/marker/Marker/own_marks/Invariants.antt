use Rattle.std.proofs.Common.{◌≡◌, length}
use Rattle.play_grade.specs.Asked.{lines_in}
use Rattle.play_grade.specs.Lacks.{own_after, own_marks}
use Rattle.play_grade.proofs.marker.Marker.own_marks.Given as goal

abbrev pub invariant-lines : goal.invariant-lines
invariant-lines l = own_marks l.script ≡ own_after l.number (lines_in l.left) l.marks

abbrev pub decreases-lines : goal.decreases-lines
decreases-lines l = length (lines_in l.left)
