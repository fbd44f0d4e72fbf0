-- The law holds for every ledger of the buffers.
use Rattle.flat_model.specs.Machine.Ledger.{exact_ledger, loose_ledger}
use Rattle.flat_model.specs.Machine.State.{boot}
use Rattle.flat_model.specs.Scripts.Script.{all_events}
use Rattle.flat_model.proofs.Runs.Runs.{print_of_run}
use Rattle.flat_model.proofs.theorems.printed_is_run.Goals as goal

pub returns-clause-exact : goal.returns-clause-exact
returns-clause-exact c = print_of_run exact_ledger

pub returns-clause-loose : goal.returns-clause-loose
returns-clause-loose c = print_of_run loose_ledger

pub returns-clause-whole : goal.returns-clause-whole
returns-clause-whole c =
    λ config lines printed new. print_of_run exact_ledger all_events (boot config) new lines printed
