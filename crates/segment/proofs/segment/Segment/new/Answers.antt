use Rattle.std.proofs.lemmas.Result.{err_from_is_err_and}
use Rattle.segment.proofs.segment.Segment.new.Goals as goal

pub returns-in_err-flight : goal.returns-in_err-flight
returns-in_err-flight c = rw (err_from_is_err_and c.from_residual.result c.from_residual.ensures.1).1 tt
