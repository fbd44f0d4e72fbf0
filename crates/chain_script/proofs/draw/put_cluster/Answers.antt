use Rattle.std.proofs.lemmas.Result.{err_from_is_err_and}
use Rattle.chain_script.proofs.draw.put_cluster.Goals as goal

pub returns-in_err-extend_from_slice : goal.returns-in_err-extend_from_slice
returns-in_err-extend_from_slice c = rw (err_from_is_err_and c.from_residual.result c.from_residual.ensures.1).1 tt

pub returns-in_err-extend_from_slice-2 : goal.returns-in_err-extend_from_slice-2
returns-in_err-extend_from_slice-2 c =
    rw (err_from_is_err_and c.from_residual-in_err-extend_from_slice-2.result
    c.from_residual-in_err-extend_from_slice-2.ensures.1).1 tt
