-- Each tick takes one off the ticks of each datagram.
use Rattle.flat_model.proofs.Runs.Clock.{ends_by_60, no_more_change}
use Rattle.flat_model.proofs.theorems.ticks_settle.Goals as goal

pub returns-clause-finish : goal.returns-clause-finish
returns-clause-finish c = ends_by_60

pub returns-clause-settle : goal.returns-clause-settle
returns-clause-settle c = no_more_change
