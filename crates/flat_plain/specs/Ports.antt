-- A machine with these control blocks and this last ephemeral port. The rest of the state has no effect on the choice
-- of a port (this project's own).
use Rattle.std.specs.Prelude.{ℕ, List, Option}
use Rattle.flat_model.specs.Machine.State.{State, boot}
use Rattle.flat_plain.specs.declared.lookup.Pcb.{Pcb}
use Rattle.flat_plain.specs.Blocks.{sockets_of}

abbrev pub ports_state : List Pcb → Option ℕ → State
ports_state blocks last =
    record (boot (record { addr = 0; bcast = 0; mtu = 0; mbufs = 0; clusters = 0; first_id = 0 }))
    { sockets = sockets_of blocks; last_port = last }
