use Rattle.std.proofs.lemmas.Result.{err_from_is_err_and}
use Rattle.capture.proofs.pcapng.block.first_block.Goals as goal

pub returns-in_err-order-clause-spelled : goal.returns-in_err-order-clause-spelled
returns-in_err-order-clause-spelled c = rw (err_from_is_err_and c.from_residual.result c.from_residual.ensures.1).1 tt

pub returns-in_err-order-clause-sized : goal.returns-in_err-order-clause-sized
returns-in_err-order-clause-sized c = rw (err_from_is_err_and c.from_residual.result c.from_residual.ensures.1).1 tt

pub returns-in_err-order-clause-headed : goal.returns-in_err-order-clause-headed
returns-in_err-order-clause-headed c = rw (err_from_is_err_and c.from_residual.result c.from_residual.ensures.1).1 tt
