use Rattle.std.proofs.Common.{◌≡◌}
use Rattle.capture.specs.Bodies.{ticks_by}
use Rattle.capture.proofs.pcapng.body.ticks_in.Given as goal

abbrev pub invariant-options : goal.invariant-options
invariant-options l = ticks_by l.left l.order l.rest ≡ ticks_by l.most l.order l.options

abbrev pub decreases-options : goal.decreases-options
decreases-options l = l.left
