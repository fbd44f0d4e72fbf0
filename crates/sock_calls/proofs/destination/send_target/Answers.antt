use Rattle.std.proofs.lemmas.Result.{err_from_is_err_and}
use Rattle.sock_calls.proofs.destination.send_target.Goals as goal

pub returns-in_err-target-clause-few : goal.returns-in_err-target-clause-few
returns-in_err-target-clause-few c = rw (err_from_is_err_and c.from_residual.result c.from_residual.ensures.1).1 tt

pub returns-in_err-target-clause-uncut : goal.returns-in_err-target-clause-uncut
returns-in_err-target-clause-uncut c = rw (err_from_is_err_and c.from_residual.result c.from_residual.ensures.1).1 tt
