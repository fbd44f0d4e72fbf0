use Rattle.std.specs.Prelude.{Err}
use Rattle.net_stack.specs.Stack.{state_of}
use Rattle.stack_call.specs.Moves.{StackSteps}
use Rattle.std.proofs.lemmas.Result.{err_from_is_err_and}
use Rattle.page.proofs.Lines.{served_as, unbooted}
use Rattle.page.proofs.state.picture.Goals as goal

pub returns-in_err-machine-clause-drawn : goal.returns-in_err-machine-clause-drawn
returns-in_err-machine-clause-drawn g c =
    let p = err_from_is_err_and c.from_residual.result c.from_residual.ensures.1 in
    let s = unbooted _ _ _ _ c.in_err-machine.ensures in
    rw (p.1, p.2) (s.0, s.1, tt)

pub returns-in-Err-clause-drawn : goal.returns-in-Err-clause-drawn
unfolding StackSteps
returns-in-Err-clause-drawn g c =
    let h =
    served_as (state_of c.in_ok-machine.machine) _ _ _ _ _ _ _ (Err c.in-Err.fault) c.in_ok-machine.ensures.1
    c.in-Err.is c.serve_lines-machine.ensures.served in
    (h.0, h.1, tt)
