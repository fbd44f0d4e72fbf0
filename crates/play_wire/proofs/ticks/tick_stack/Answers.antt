use Rattle.std.proofs.Common.{arith}
use Rattle.play_wire.proofs.ActLemmas.{one_tick_later}
use Rattle.play_wire.proofs.ticks.tick_stack.Goals as goal

pub loop-passed-preserved : goal.loop-passed-preserved
loop-passed-preserved c = record {
  ticks =
      one_tick_later c.loop-passed.passed c.args.stack.now c.loop-passed.stack c.tick.new.self
      c.loop-passed.invariant.ticks c.tick.ensures;
  most = omega (arith, c.loop-passed-test.true);
}
