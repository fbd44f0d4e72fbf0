use Rattle.std.proofs.lemmas.Result.{err_from_is_err_and}
use Rattle.flat_plain.proofs.needs.need.Goals as goal

pub returns-in_err-rooms : goal.returns-in_err-rooms
returns-in_err-rooms c = rw (err_from_is_err_and c.from_residual.result c.from_residual.ensures.1).1 tt

pub returns-in_err-parts : goal.returns-in_err-parts
returns-in_err-parts c =
    rw (err_from_is_err_and c.from_residual-in_err-parts.result c.from_residual-in_err-parts.ensures.1).1 tt
