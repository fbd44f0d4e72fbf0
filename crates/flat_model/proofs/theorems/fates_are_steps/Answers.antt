-- The step says nothing of the packet's end.
use Rattle.flat_model.proofs.Machine.Weaker.{fated_step}
use Rattle.flat_model.proofs.theorems.fates_are_steps.Goals as goal

pub returns : goal.returns
returns c = λ old new packet fate fated. fated_step old new packet fate fated
