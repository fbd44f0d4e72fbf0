use Rattle.std.proofs.lemmas.Result.{err_from_is_err_and}
use Rattle.link_script.proofs.ProgramLemmas.{Ran-none}
use Rattle.link_script.proofs.command_line.serve.Goals as goal

pub returns-in_err-task : goal.returns-in_err-task
returns-in_err-task g c =
    let p = err_from_is_err_and c.from_residual.result c.from_residual.ensures.1 in
    rw (p.1, p.2) (Ran-none _ _ _ _ c.in_err-task.ensures)
