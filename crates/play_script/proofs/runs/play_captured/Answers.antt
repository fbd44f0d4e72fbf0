use Rattle.play_script.proofs.RunLemmas.{Serves-captured, Serves-unbooted}
use Rattle.stack_call.specs.Moves.{StackSteps}
use Rattle.net_stack.specs.Stack.{state_of}
use Rattle.play_script.proofs.runs.play_captured.Goals as goal

pub returns-in-Err-clause-served : goal.returns-in-Err-clause-served
unfolding StackSteps
returns-in-Err-clause-served g c =
    rw c.unplayed-played.ensures
    (Serves-unbooted StackSteps g.F.Folder.may_have c.args.start.config c.in-Err.fault c.args.start.trace
    c.args.style.form _ _ _ c.in-Err.ensures)

pub returns-in-Ok-clause-served : goal.returns-in-Ok-clause-served
unfolding StackSteps
returns-in-Ok-clause-served g c =
    Serves-captured StackSteps g.F.Folder.may_have (state_of c.in-Ok.machine) _ _ _ _ _ _ _ _ _ _ _ _ c.in-Ok.ensures.1
    c.play_machine.ensures.served
