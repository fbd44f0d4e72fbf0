-- Errors that other hosts report for datagrams of this host (RFC 792; RFC 1122, section 4.1.3.3; `udp_ctlinput` of
-- volume 2, chapter 23).
use Rattle.std.specs.Prelude.{ℕ, ◌%◌, nat_lt, nat_le, Bool, ◌==◌, ◌&&◌, ◌||◌, not, if◌then◌else◌, List, [], ◌∷◌, ◌++◌, length, drop, position, slice_index, slice_set, Option, Some, None}
use Rattle.params.specs.declared.TheConstants.{IP_HEADER, PROTOCOL_UDP}
use Rattle.flat_model.specs.Packets.Checksum.{folded_sum}
use Rattle.flat_model.specs.Packets.Header.{head_of, u16_at, u32_at}
use Rattle.flat_model.specs.Machine.Arrival.{is_fragment}
use Rattle.flat_model.specs.declared.address.Addr.{Addr}
use Rattle.flat_model.specs.declared.config.Config.{Config}
use Rattle.flat_ether.specs.Options.{carried_in}
use Rattle.flat_ether.specs.declared.error.NetFault.{NetFault}
use Rattle.flat_ether.specs.declared.error.NetFault.TheVariants.{Refused, Unreachable}
use Rattle.flat_ether.specs.declared.error.SocketError.{SocketError}
use Rattle.flat_ether.specs.declared.sizes.TheConstants.{FRAGMENT_NEEDED, ICMP_ERROR, PROTOCOL_ICMP, SOCKET_ERRORS, UNREACHABLE, UNREACHABLE_PORT, UNREACHABLE_PROTOCOL}

-- A message "destination unreachable" with a correct checksum that contains the header and the ports of a datagram that
-- this host sent: a header of five words, UDP, from this address, and not a later fragment. The code "fragmentation
-- needed" doesn't count.
abbrev pub is_error : Config → List ℕ → Bool
is_error c b =
    nat_le ICMP_ERROR (length b)
    && ((slice_index b 0 == UNREACHABLE) && (not (slice_index b 1 == FRAGMENT_NEEDED) && ((slice_index b 8 == 0x45)
    && ((u16_at 14 b % 8192 == 0) && ((slice_index b 17 == PROTOCOL_UDP)
    && ((u32_at 20 b == c.addr) && (folded_sum b == 65535)))))))

abbrev pub error_fault : ℕ → NetFault
error_fault code = if (code == UNREACHABLE_PROTOCOL) || (code == UNREACHABLE_PORT) then Refused else Unreachable

-- from which port to which address the datagram was sent
abbrev pub error_of : List ℕ → SocketError
error_of b = record { port = u16_at 28 b; peer_ip = u32_at 24 b; peer_port = u16_at 30 b; code = slice_index b 1 }

-- a whole packet of ICMP to this host
abbrev pub is_icmp : Config → List ℕ → Bool
is_icmp c came =
    nat_le IP_HEADER (length came)
    && (((head_of came).destination == c.addr)
    && (not (is_fragment (head_of came)) && (slice_index came 9 == PROTOCOL_ICMP)))

-- the error that a packet reports
abbrev pub error_in : Config → List ℕ → Option SocketError
error_in c came = if is_icmp c came && is_error c (carried_in came) then Some (error_of (carried_in came)) else None

-- ---- errors that no call has fetched yet

-- it's about datagrams from this port to this address
abbrev pub is_error_of : ℕ → Addr → SocketError → Bool
is_error_of port peer e = (e.port == port) && ((e.peer_ip == peer.ip) && (e.peer_port == peer.port))

abbrev pub error_at : ℕ → Addr → List SocketError → Option ℕ
error_at port peer es = position (is_error_of port peer) es

-- a full list loses its first element
abbrev pub with_space : List SocketError → List SocketError
with_space es = if nat_lt (length es) SOCKET_ERRORS then es else drop 1 es

abbrev pub add_error_at : Option ℕ → SocketError → List SocketError → List SocketError
add_error_at None e es = with_space es ++ e ∷ []
add_error_at (Some at) e es = slice_set es at e

-- replaces the error for the same port and address, or is added at the end
abbrev pub add_error : SocketError → List SocketError → List SocketError
add_error e es = add_error_at (error_at e.port (record { ip = e.peer_ip; port = e.peer_port }) es) e es
