use Rattle.std.proofs.Common.{◌≡◌, ℕ, ◌<◌, true}
use Rattle.flat_model.specs.Machine.Calls.{port_after}
use Rattle.pcb_table.specs.Inside.Search.{is_used}
use Rattle.pcb_table.proofs.ports.next_free.Given as goal

abbrev pub invariant-loop-turns : goal.invariant-loop-turns
invariant-loop-turns l = (k : ℕ) → k < l.turns → is_used l.blocks l.local (port_after l.last k) ≡ true
