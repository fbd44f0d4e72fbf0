use Rattle.segment.specs.Inside.{view}
use Rattle.play_wire.specs.Acts.{AreLedTo}
use Rattle.play_wire.proofs.carries.carry.Given as goal

abbrev pub invariant-loop : goal.invariant-loop
invariant-loop g l = AreLedTo (view l.fn.segment) (view l.segment)
