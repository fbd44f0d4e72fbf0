use Rattle.std.proofs.lemmas.Result.{err_from_is_err_and}
use Rattle.flat_plain.proofs.needs.need_bcast.Goals as goal

pub returns-in_err-rooms : goal.returns-in_err-rooms
returns-in_err-rooms c = rw (err_from_is_err_and c.from_residual.result c.from_residual.ensures.1).1 tt
