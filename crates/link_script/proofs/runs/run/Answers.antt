use Rattle.std.proofs.lemmas.Result.{err_from_is_err_and}
use Rattle.link_script.proofs.BootLemmas.{Serves-unbooted}
use Rattle.flat_model.specs.Machine.Step.{Step}
use Rattle.link_script.proofs.runs.run.Goals as goal

pub returns-in_err-machine-clause-served : goal.returns-in_err-machine-clause-served
returns-in_err-machine-clause-served g c =
    let p = err_from_is_err_and c.from_residual.result c.from_residual.ensures.1 in
    rw (p.1, p.2) (Serves-unbooted Step _ _ _ _ c.in_err-machine.ensures)
