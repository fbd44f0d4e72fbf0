-- What is received was sent, for every ledger of the buffers.
use Rattle.flat_model.specs.Machine.Ledger.{exact_ledger}
use Rattle.flat_wire.proofs.Received.{received_law_lem}
use Rattle.flat_wire.proofs.laws.received_law.Goals as goal

pub returns : goal.returns
returns c = received_law_lem exact_ledger exact_ledger
