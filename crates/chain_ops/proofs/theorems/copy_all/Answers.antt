use Rattle.chain_ops.specs.Rooms.{room_low}
use Rattle.chain_ops.proofs.Laws.Strings.{copied_all_bytes}
use Rattle.chain_ops.proofs.Laws.Weights.{copied_all-placed}
use Rattle.chain_ops.proofs.theorems.copy_all.Goals as goal

pub returns-clause-layout : goal.returns-clause-layout
returns-clause-layout c = λ header es. copied_all-placed (room_low header) es

pub returns-clause-bytes : goal.returns-clause-bytes
returns-clause-bytes c = λ header es. copied_all_bytes (room_low header) es
