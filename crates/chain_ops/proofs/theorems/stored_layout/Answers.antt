use Rattle.chain_ops.proofs.Stored.{user_placed, wire_placed}
use Rattle.chain_ops.proofs.theorems.stored_layout.Goals as goal

pub returns-clause-user : goal.returns-clause-user
returns-clause-user c = user_placed

pub returns-clause-wire : goal.returns-clause-wire
returns-clause-wire c = wire_placed
