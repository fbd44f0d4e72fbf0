use Rattle.std.proofs.Common.{◌≡◌, ℕ, ◌<◌, true}
use Rattle.flat_model.specs.Machine.Calls as Calls
use Rattle.flat_plain.specs.Ports.{ports_state}
use Rattle.flat_plain.proofs.ports.next_port.Given as goal

abbrev pub invariant-loop-k : goal.invariant-loop-k
invariant-loop-k l =
    (j : ℕ) → j < l.k → Calls.is_in_use (ports_state l.pcbs l.last) l.local (Calls.port_after l.last j) ≡ true
