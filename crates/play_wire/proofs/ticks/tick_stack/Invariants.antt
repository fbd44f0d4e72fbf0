use Rattle.std.proofs.Common.{◌≤◌, ◌-◌, replicate}
use Rattle.flat_model.specs.Machine.Event.{Tick, Done}
use Rattle.net_stack.specs.Runs.{AreCalls}
use Rattle.play_wire.specs.Acts.{call_turn}
use Rattle.play_wire.proofs.ticks.tick_stack.Given as goal

abbrev pub invariant-loop-passed : goal.invariant-loop-passed
invariant-loop-passed l = record {
  ticks : AreCalls l.fn.stack (replicate l.passed (call_turn Tick Done)) l.stack;
  most : l.passed ≤ l.count;
}

abbrev pub decreases-loop-passed : goal.decreases-loop-passed
decreases-loop-passed l = l.count - l.passed
