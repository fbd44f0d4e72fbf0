use Rattle.std.proofs.lemmas.Result.{err_from_is_err_and}
use Rattle.chain_script.proofs.draw.put_mbuf.Goals as goal

pub returns-in_err-extend_from_slice : goal.returns-in_err-extend_from_slice
returns-in_err-extend_from_slice c = rw (err_from_is_err_and c.from_residual.result c.from_residual.ensures.1).1 tt

pub returns-in_err-put_cluster : goal.returns-in_err-put_cluster
returns-in_err-put_cluster c =
    rw (err_from_is_err_and c.from_residual-in_err-put_cluster.result c.from_residual-in_err-put_cluster.ensures.1).1 tt

pub returns-in_err-put_u32 : goal.returns-in_err-put_u32
returns-in_err-put_u32 c =
    rw (err_from_is_err_and c.from_residual-in_err-put_u32.result c.from_residual-in_err-put_u32.ensures.1).1 tt

pub returns-in_err-extend_from_slice-2 : goal.returns-in_err-extend_from_slice-2
returns-in_err-extend_from_slice-2 c =
    rw (err_from_is_err_and c.from_residual-in_err-extend_from_slice-2.result
    c.from_residual-in_err-extend_from_slice-2.ensures.1).1 tt

pub returns-in_err-put_bytes : goal.returns-in_err-put_bytes
returns-in_err-put_bytes c =
    rw (err_from_is_err_and c.from_residual-in_err-put_bytes.result c.from_residual-in_err-put_bytes.ensures.1).1 tt
