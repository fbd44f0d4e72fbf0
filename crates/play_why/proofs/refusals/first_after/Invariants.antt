use Rattle.std.proofs.Common.{◌≡◌, length}
use Rattle.play_why.specs.Refusals.{first_after}
use Rattle.play_why.proofs.refusals.first_after.Given as goal

abbrev pub invariant-heard : goal.invariant-heard
invariant-heard l = first_after l.number l.packet l.rest ≡ first_after l.number l.packet l.fn.heard

abbrev pub decreases-heard : goal.decreases-heard
decreases-heard l = length l.rest
