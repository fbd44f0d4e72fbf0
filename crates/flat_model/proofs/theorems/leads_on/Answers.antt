-- The law holds for every ledger of the buffers.
use Rattle.flat_model.specs.Machine.Ledger.{exact_ledger, loose_ledger}
use Rattle.flat_model.proofs.Runs.Runs.{one_more_turn}
use Rattle.flat_model.proofs.theorems.leads_on.Goals as goal

pub returns-clause-exact : goal.returns-clause-exact
returns-clause-exact c = one_more_turn exact_ledger

pub returns-clause-loose : goal.returns-clause-loose
returns-clause-loose c = one_more_turn loose_ledger
