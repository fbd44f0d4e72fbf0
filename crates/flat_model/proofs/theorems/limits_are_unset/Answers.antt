-- No step sets a limit by itself.
use Rattle.std.proofs.Common.{refl}
use Rattle.flat_model.specs.Machine.State.{boot}
use Rattle.flat_model.proofs.Machine.KeptSteps.{boot_is_consistent}
use Rattle.flat_model.proofs.Machine.Within.{run_stays_unset}
use Rattle.flat_model.proofs.theorems.limits_are_unset.Goals as goal

pub returns-clause-run : goal.returns-clause-run
returns-clause-run c =
    λ config turns new boots none run. run_stays_unset (boot config) new turns
    (boot_is_consistent config boots) tt none run

pub returns-clause-fits : goal.returns-clause-fits
returns-clause-fits c = λ queue n memory. refl
