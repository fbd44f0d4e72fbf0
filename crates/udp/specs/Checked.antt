-- The tests that a packet read in place has passed (RFC 791, RFC 768).
use Rattle.std.specs.Prelude.{◌≡◌, ℕ, ◌≤◌, ◌==◌, ◌||◌, Bool, if◌then◌else◌, List, length, take, drop, Option, None, Some}
use Rattle.params.specs.declared.TheConstants.{IP_UDP_HEADERS, LIMITED_BROADCAST, PROTOCOL_UDP}
use Rattle.flat_model.specs.Packets.Header.{Head, head_of, udp_bytes, udp_fault, u16_at}
use Rattle.flat_model.specs.declared.address.Addr.{Addr}
use Rattle.flat_model.specs.declared.counters.Why.{Why}
use Rattle.flat_model.specs.declared.counters.Why.TheVariants.{NoProtocol, UdpNoPort, UdpNoPortBroadcast}
use Rattle.ip_out.specs.Headed.{IsFaultless, carried_of}
use Rattle.pcb_table.specs.Table.{Table}

-- why the bytes that a packet carries aren't a UDP datagram, or why that datagram is dropped
abbrev pub datagram_fault : List ℕ → Option Why
datagram_fault packet =
    let h : Head = head_of packet in
    if h.protocol == PROTOCOL_UDP then udp_fault h.source h.destination (carried_of packet) else Some NoProtocol

-- Neither the packet's header nor the UDP datagram that it carries has a fault. The datagram goes from one address and
-- port to another, and its data end at byte `end` of the packet.
pub record IsChecked (packet : List ℕ) (end : ℕ) (from to : Addr) : Type 0 where
  pub headed : IsFaultless packet
  pub protocol : (head_of packet).protocol ≡ PROTOCOL_UDP
  pub source : (head_of packet).source ≡ from.ip
  pub destination : (head_of packet).destination ≡ to.ip
  pub source_port : u16_at 0 (carried_of packet) ≡ from.port
  pub port : u16_at 2 (carried_of packet) ≡ to.port
  pub faultless : udp_fault from.ip to.ip (carried_of packet) ≡ None
  pub headers : IP_UDP_HEADERS ≤ end
  pub within : end ≤ length packet
  pub bytes : udp_bytes (carried_of packet) ≡ drop IP_UDP_HEADERS (take end packet)

-- one of the machine's two broadcast addresses
abbrev pub is_to_all : Table → ℕ → Bool
is_to_all t ip = (ip == t.bcast) || (ip == LIMITED_BROADCAST)

-- why a datagram for this address is dropped that no socket matches
abbrev pub unmatched : Table → ℕ → Why
unmatched t ip = if is_to_all t ip then UdpNoPortBroadcast else UdpNoPort
