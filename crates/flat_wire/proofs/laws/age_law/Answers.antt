-- The law holds for every ledger of the buffers.
use Rattle.flat_model.specs.Machine.Ledger.{exact_ledger}
use Rattle.flat_wire.proofs.Age.{age_law_lem}
use Rattle.flat_wire.proofs.laws.age_law.Goals as goal

pub returns : goal.returns
returns c = age_law_lem exact_ledger
