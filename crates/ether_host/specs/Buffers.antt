-- What a packet buffer holds (this project's own).
use Rattle.std.specs.Prelude.{ℕ, Bool, is_some, List, take}
use Rattle.flat_model.specs.Machine.State.{Key}
use Rattle.flat_ether.specs.Icmp.{is_quote_of, quote_of}
use Rattle.flat_ether.specs.Links.{WaitingPacket, neighbour_place}
use Rattle.flat_ether.specs.declared.neighbour.Neighbour.{Neighbour}
use Rattle.ether_host.specs.declared.buffer.PacketBuffer.{PacketBuffer}

abbrev pub held_in : PacketBuffer → WaitingPacket
held_in p = record { hop = p.hop; packet = take p.len p.buffer }

-- what is kept of a fragment is quoted of one with this key
abbrev pub is_kept_of : Key → List ℕ → Bool
is_kept_of k kept = is_quote_of k (quote_of kept)

-- its next hop is known or requested
abbrev pub is_resolvable_in : List Neighbour → PacketBuffer → Bool
is_resolvable_in ns p = is_some (neighbour_place p.hop ns)
