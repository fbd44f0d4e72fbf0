use Rattle.std.proofs.Common.{◌≡◌, length}
use Rattle.play_why.specs.Objects.{first_found}
use Rattle.play_why.proofs.object.first_of.Given as goal

abbrev pub invariant-findings : goal.invariant-findings
invariant-findings l = first_found l.rest ≡ first_found l.fn.findings

abbrev pub decreases-findings : goal.decreases-findings
decreases-findings l = length l.rest
