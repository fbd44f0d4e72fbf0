use Rattle.std.proofs.Common.{◌≡◌, ◌∷◌, length}
use Rattle.std.specs.Prelude.{insert}
use Rattle.pcb_table.proofs.blocks.insert_first.Given as goal

abbrev pub invariant-loop-index : goal.invariant-loop-index
invariant-loop-index l =
    (length l.blocks.items ≡ length l.initial.blocks.items)
    × (insert l.blocks.items l.index l.moved ≡ l.initial.moved ∷ l.initial.blocks.items)
