-- The results of queries about a queue (this project's own).
use Rattle.std.specs.Prelude.{ℕ, List, [], ◌∷◌, length, Option, None, Some}
use Rattle.flat_model.specs.Machine.State.{Datagram}
use Rattle.flat_model.specs.declared.address.Addr.{Addr}

-- the sender and the length in bytes of the oldest of these datagrams
abbrev pub oldest_of : List Datagram → Option (Addr × ℕ)
oldest_of [] = None
oldest_of (d ∷ later) = Some (d.sender, length d.item.bytes)
