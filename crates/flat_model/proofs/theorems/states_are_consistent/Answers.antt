-- It holds at the start, and every step keeps it.
use Rattle.flat_model.specs.Machine.State.{boot}
use Rattle.flat_model.proofs.Machine.KeptSteps.{boot_is_consistent, step_is_consistent, run_is_consistent}
use Rattle.flat_model.proofs.theorems.states_are_consistent.Goals as goal

pub returns-clause-start : goal.returns-clause-start
returns-clause-start c = boot_is_consistent

pub returns-clause-step : goal.returns-clause-step
returns-clause-step c = step_is_consistent

pub returns-clause-run : goal.returns-clause-run
returns-clause-run c =
    λ config turns new boots run. run_is_consistent (boot config) new turns (boot_is_consistent config boots) run
