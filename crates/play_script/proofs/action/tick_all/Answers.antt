use Rattle.std.proofs.Common.{ℕ, ◌-◌, refl, arith}
use Rattle.net_stack.specs.Stack.{state_of}
use Rattle.stack_call.specs.Moves.{StackSteps}
use Rattle.play_script.proofs.ActionLemmas.{Does-no_ticks, Does-ticks}
use Rattle.play_script.proofs.action.tick_all.Goals as goal

pub loop-left-preserved : goal.loop-left-preserved
unfolding StackSteps
loop-left-preserved c = λ end rest.
    let left : ℕ = c.loop-left.left in
    c.loop-left.invariant end
    (Does-ticks StackSteps left (left - 1) (state_of c.loop-left.stack) (state_of c.tick.new.self) end (omega arith)
    refl
    c.tick.ensures rest)

pub returns : goal.returns
returns c =
    c.loop-left.invariant (state_of c.loop-left.stack)
    (Does-no_ticks StackSteps c.loop-left.left (state_of c.loop-left.stack) (omega arith))
