use Rattle.std.proofs.Common.{arith}
use Rattle.play_why.proofs.Steps.{Led-tick}
use Rattle.stack_call.specs.Moves.{StackSteps}
use Rattle.play_why.proofs.judge.tick_all.Goals as goal

pub loop-left-preserved : goal.loop-left-preserved
unfolding StackSteps
loop-left-preserved c = λ end rest.
    c.loop-left.invariant end (Led-tick _ _ _ _ end (omega arith) (omega arith) c.tick.ensures rest)
