use Rattle.segment.specs.Inside.{view}
use Rattle.play_wire.proofs.ActLemmas.{moves_on}
use Rattle.play_wire.proofs.carries.carry.Goals as goal

pub loop-init : goal.loop-init
loop-init g c = c.settle.ensures

pub loop-preserved : goal.loop-preserved
loop-preserved g c =
    moves_on (view c.args.segment.now) (view c.loop.segment) (view c.carry_once.new.segment) c.loop.invariant
    c.carry_once.ensures
