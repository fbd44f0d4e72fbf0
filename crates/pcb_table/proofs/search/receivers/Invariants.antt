use Rattle.std.proofs.Common.{◌≡◌, ◌≤◌, ◌++◌, drop, map, length}
use Rattle.pcb_table.specs.Inside.Search.{receiving_blocks}
use Rattle.pcb_table.proofs.search.receivers.Given as goal

abbrev pub invariant-loop-block : goal.invariant-loop-block
invariant-loop-block l =
    (length l.fds.items ≤ l.block-index)
    × (map (λ b. b.fd) (receiving_blocks l.key l.blocks)
    ≡ l.fds.items ++ map (λ b. b.fd) (receiving_blocks l.key (drop l.block-index l.blocks)))
