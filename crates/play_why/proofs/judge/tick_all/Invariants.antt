use Rattle.std.proofs.Common.{replicate}
use Rattle.flat_model.specs.Machine.Event.{Tick}
use Rattle.flat_model.specs.Machine.State.{State}
use Rattle.net_stack.specs.Stack.{state_of}
use Rattle.play_why.specs.Judged.{IsTick, Led}
use Rattle.play_why.proofs.judge.tick_all.Given as goal

abbrev pub invariant-loop-left : goal.invariant-loop-left
invariant-loop-left l = (end : State) → Led IsTick (replicate l.left Tick) (state_of l.machine) end
    → Led IsTick (replicate l.fn.count Tick) (state_of l.fn.machine) end

abbrev pub decreases-loop-left : goal.decreases-loop-left
decreases-loop-left l = l.left
