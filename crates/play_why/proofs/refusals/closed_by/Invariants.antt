use Rattle.std.proofs.Common.{◌≡◌, length}
use Rattle.play_why.specs.Refusals.{closed_by}
use Rattle.play_why.proofs.refusals.closed_by.Given as goal

abbrev pub invariant-closed : goal.invariant-closed
invariant-closed l = closed_by l.host l.port l.rest ≡ closed_by l.host l.port l.fn.closed

abbrev pub decreases-closed : goal.decreases-closed
decreases-closed l = length l.rest
