-- Packets under way on a segment, and the hosts that receive them (this project's own).
use Rattle.std.specs.Prelude.{ℕ, ◌-◌, nat_le, Bool, ◌==◌, ◌&&◌, ◌||◌, not, if◌then◌else◌, List, length, map, filter_map, Some, None}
use Rattle.params.specs.declared.TheConstants.{IP_HEADER, LIMITED_BROADCAST}
use Rattle.flat_model.specs.Amounts.Weight.{Item}
use Rattle.flat_model.specs.Packets.Header.{u32_at}
use Rattle.flat_model.specs.Machine.Event.{Comes, Transmit, Given, Done}
use Rattle.flat_model.specs.Runs.Run.{Turn}
use Rattle.flat_model.specs.declared.config.Config.{Config}
use Rattle.net_stack.specs.Stack.{StackView, state_of}

-- a packet, the place of the host that sent it, and for how many carries it isn't due yet: 0 if it's due in the next
-- one
pub record Flying : Type 0 where
  pub sender : ℕ
  pub packet : List ℕ
  pub wait : ℕ

-- the packet with another delay, and a carry later
abbrev pub waits : ℕ → Flying → Flying
waits wait f = record f { wait = wait }

abbrev pub flying_aged : Flying → Flying
flying_aged f = record f { wait = f.wait - 1 }

-- it's due in the next carry, or not
abbrev pub is_due : Flying → Bool
is_due f = f.wait == 0

abbrev pub is_early : Flying → Bool
is_early f = not (f.wait == 0)

-- the destination in a packet's header (RFC 791, section 3.1)
abbrev pub ip_destination : List ℕ → ℕ
ip_destination packet = u32_at 16 packet

-- it's an address of a host with this configuration: its own, the broadcast address of its network, or 255.255.255.255
abbrev pub is_destination : Config → ℕ → Bool
is_destination c ip = (ip == c.addr) || (ip == c.bcast) || (ip == LIMITED_BROADCAST)

-- a packet is for the host at this place: another host sent it, and its destination is an address of the host
abbrev pub goes_to : ℕ → Config → Flying → Bool
goes_to place c f =
    not (f.sender == place) && (nat_le IP_HEADER (length f.packet) && is_destination c (ip_destination f.packet))

-- the packets that arrive at the host at this place, in order
abbrev pub received : ℕ → Config → List Flying → List (List ℕ)
received place c flight = filter_map (λ (f : Flying). if goes_to place c f then Some f.packet else None) flight

-- the bytes of the packets that wait for the link
abbrev pub waiting : StackView → List (List ℕ)
waiting s = map (λ (item : Item). item.bytes) (state_of s).output

-- the turns in which the link takes these packets, and those in which these packets arrive
abbrev pub transmits_of : List (List ℕ) → List Turn
transmits_of packets = map (λ (packet : List ℕ). record { event = Transmit; reply = Given (Some packet) }) packets

abbrev pub comes : List (List ℕ) → List Turn
comes packets = map (λ (packet : List ℕ). record { event = Comes packet; reply = Done }) packets

-- these packets, sent by the host at this place
abbrev pub sent_by : ℕ → List (List ℕ) → List Flying
sent_by place packets = map (λ (packet : List ℕ). record { sender = place; packet = packet; wait = 0 }) packets
