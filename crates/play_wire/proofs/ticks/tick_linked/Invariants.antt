use Rattle.std.proofs.Common.{◌≤◌, ◌-◌}
use Rattle.segment.specs.Inside.{view}
use Rattle.play_wire.proofs.ActLemmas.{AreTicked}
use Rattle.play_wire.proofs.ticks.tick_linked.Given as goal

abbrev pub invariant-loop-ticked : goal.invariant-loop-ticked
invariant-loop-ticked l = record {
  ticked : AreTicked l.place l.ticked (view l.fn.segment) (view l.segment);
  most : l.ticked ≤ l.count;
}

abbrev pub decreases-loop-ticked : goal.decreases-loop-ticked
decreases-loop-ticked l = l.count - l.ticked
