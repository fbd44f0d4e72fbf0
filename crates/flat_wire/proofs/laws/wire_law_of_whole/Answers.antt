-- The law holds for every ledger of the buffers.
use Rattle.flat_model.specs.Machine.Ledger.{exact_ledger}
use Rattle.flat_wire.proofs.Law.{whole_law_lem}
use Rattle.flat_wire.proofs.Received.{received_of_whole_lem}
use Rattle.flat_wire.proofs.laws.wire_law_of_whole.Goals as goal

pub returns-clause-waits : goal.returns-clause-waits
returns-clause-waits c = whole_law_lem exact_ledger exact_ledger

pub returns-clause-received : goal.returns-clause-received
returns-clause-received c = received_of_whole_lem exact_ledger exact_ledger
