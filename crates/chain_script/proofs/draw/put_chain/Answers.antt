use Rattle.std.proofs.lemmas.Result.{err_from_is_err_and}
use Rattle.chain_script.proofs.draw.put_chain.Goals as goal

pub returns-in_err-put_mbuf : goal.returns-in_err-put_mbuf
returns-in_err-put_mbuf c = rw (err_from_is_err_and c.from_residual.result c.from_residual.ensures.1).1 tt
