-- The loose ledger allows all that the exact one allows.
use Rattle.flat_model.specs.Machine.State.{boot}
use Rattle.flat_model.specs.Machine.Ledger.{exact_ledger, loose_ledger}
use Rattle.flat_model.proofs.Machine.Weaker.{loose_is_weaker, step_too, run_too}
use Rattle.flat_model.proofs.theorems.exact_is_loose.Goals as goal

pub returns-clause-step : goal.returns-clause-step
returns-clause-step c = step_too exact_ledger loose_ledger loose_is_weaker

pub returns-clause-run : goal.returns-clause-run
returns-clause-run c = λ config turns new. run_too exact_ledger loose_ledger loose_is_weaker (boot config) new turns
