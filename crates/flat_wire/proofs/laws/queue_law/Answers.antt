-- The law holds for every ledger of the buffers.
use Rattle.flat_model.specs.Machine.Ledger.{exact_ledger}
use Rattle.flat_wire.proofs.Queue.{queue_law_lem}
use Rattle.flat_wire.proofs.laws.queue_law.Goals as goal

pub returns : goal.returns
returns c = queue_law_lem exact_ledger
