use Rattle.std.proofs.Common.{refl}
use Rattle.segment.specs.Inside.{view}
use Rattle.play_wire.proofs.ActLemmas.{moves_not, moves_on}
use Rattle.play_wire.proofs.summary.report_summary.Goals as goal

pub loop-place-init : goal.loop-place-init
loop-place-init c = moves_not (view c.args.segment.now) (view c.args.segment.now) refl

pub loop-place-preserved : goal.loop-place-preserved
loop-place-preserved c =
    moves_on (view c.args.segment.now) (view c.loop-place.segment) (view c.report_host.new.segment) c.loop-place.invariant
    c.report_host.ensures
