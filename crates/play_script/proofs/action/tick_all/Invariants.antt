use Rattle.std.proofs.Common.{replicate}
use Rattle.flat_model.specs.Machine.Event.{Done, Tick}
use Rattle.flat_model.specs.Machine.State.{State}
use Rattle.net_stack.specs.Stack.{state_of}
use Rattle.stack_call.specs.Moves.{StackSteps}
use Rattle.play_script.specs.Actions.{Does}
use Rattle.play_script.proofs.action.tick_all.Given as goal

abbrev pub invariant-loop-left : goal.invariant-loop-left
invariant-loop-left l = (end : State) → Does StackSteps (state_of l.stack) (replicate l.left Tick) Done end
    → Does StackSteps (state_of l.fn.stack) (replicate l.fn.count Tick) Done end

abbrev pub decreases-loop-left : goal.decreases-loop-left
decreases-loop-left l = l.left
