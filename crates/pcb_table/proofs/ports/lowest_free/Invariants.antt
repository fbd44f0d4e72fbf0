use Rattle.std.proofs.Common.{◌≡◌, ℕ, ◌<◌, ◌≤◌, true, is_some, find}
use Rattle.pcb_table.specs.Apart.{has_fd}
use Rattle.pcb_table.proofs.ports.lowest_free.Given as goal

abbrev pub invariant-loop-fd : goal.invariant-loop-fd
invariant-loop-fd l = (k : ℕ) → 3 ≤ k → k < l.fd → is_some (find (has_fd k) l.blocks) ≡ true
