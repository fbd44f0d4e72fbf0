use Rattle.std.proofs.Common.{◌≡◌, ℕ, ◌<◌, get_or}
use Rattle.pcb_table.specs.declared.block.Block.{Block}
use Rattle.pcb_table.specs.Inside.Fields.{port_or_zero}
use Rattle.pcb_table.proofs.blocks.update_index.Given as goal

abbrev pub invariant-places : goal.invariant-places
invariant-places l = (k : ℕ) (d : Block) → k < l.place → get_or l.ports k 0 ≡ port_or_zero (get_or l.blocks k d)
