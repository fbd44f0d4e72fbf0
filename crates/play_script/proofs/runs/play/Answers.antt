use Rattle.play_script.proofs.RunLemmas.{Serves-booted, Serves-untraced}
use Rattle.stack_call.specs.Moves.{StackSteps}
use Rattle.net_stack.specs.Stack.{state_of}
use Rattle.play_script.proofs.runs.play.Goals as goal

pub returns-in-Err-clause-served : goal.returns-in-Err-clause-served
unfolding StackSteps
returns-in-Err-clause-served g c =
    rw c.unplayed.ensures
    (Serves-untraced StackSteps c.args.config c.in-Err.fault c.args.style.form _ _ _ c.in-Err.ensures)

pub returns-in-Ok-clause-served : goal.returns-in-Ok-clause-served
unfolding StackSteps
returns-in-Ok-clause-served g c =
    Serves-booted StackSteps (state_of c.in-Ok.machine) _ _ _ _ _ _ _ _ _ _ c.in-Ok.ensures.1
    c.play_untraced.ensures.served
