use Rattle.std.proofs.Common.{◌≡◌, length}
use Rattle.std.specs.Prelude.{remove}
use Rattle.pcb_table.proofs.blocks.remove_at.Given as goal

abbrev pub invariant-loop-place : goal.invariant-loop-place
invariant-loop-place l =
    (length l.blocks.items ≡ length l.initial.blocks.items)
    × (remove l.blocks.items l.place ≡ remove l.initial.blocks.items l.index)
