use Rattle.flat_model.proofs.Laws.{in_range}
use Rattle.request.proofs.EventLemmas.{one_event}
use Rattle.request.proofs.laws.lines_law.Goals as goal

pub returns-clause-one : goal.returns-clause-one
returns-clause-one c = one_event

pub returns-clause-ranges : goal.returns-clause-ranges
returns-clause-ranges c = in_range
