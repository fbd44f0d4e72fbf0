-- The law is proved step by step.
use Rattle.flat_wire.proofs.Conserved.{conservation_law_lem}
use Rattle.flat_wire.proofs.laws.conservation_law.Goals as goal

pub returns : goal.returns
returns c = conservation_law_lem
