use Rattle.std.proofs.lemmas.Result.{err_from_is_err_and}
use Rattle.net_stack.specs.Stack.{state_of}
use Rattle.stack_call.specs.Moves.{StackSteps}
use Rattle.page.proofs.Lines.{served_from, unbooted}
use Rattle.page.proofs.caller.run_lines.Goals as goal

pub returns-in_err-machine-clause-served : goal.returns-in_err-machine-clause-served
returns-in_err-machine-clause-served g c =
    let p = err_from_is_err_and c.from_residual.result c.from_residual.ensures.1 in
    rw (p.1, p.2) (unbooted _ _ _ _ c.in_err-machine.ensures)

pub returns-clause-served : goal.returns-clause-served
unfolding StackSteps
returns-clause-served g c =
    served_from (state_of c.in_ok-machine.machine) _ _ _ _ _ _ _ c.in_ok-machine.ensures.1
    c.serve_lines-machine.ensures.served
