-- The identification doesn't depend on the packets that the output queue takes.
use Rattle.flat_model.proofs.Machine.Numbers.{next_number}
use Rattle.flat_model.proofs.theorems.sends_are_numbered.Goals as goal

pub returns : goal.returns
returns c = next_number
