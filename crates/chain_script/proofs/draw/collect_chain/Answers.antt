use Rattle.std.proofs.lemmas.Result.{err_from_is_err_and}
use Rattle.chain_script.proofs.draw.collect_chain.Goals as goal

pub returns-in_err-collect : goal.returns-in_err-collect
returns-in_err-collect c = rw (err_from_is_err_and c.from_residual.result c.from_residual.ensures.1).1 tt
