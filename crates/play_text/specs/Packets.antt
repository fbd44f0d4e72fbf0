-- The description of a packet (this project's own): its header of 20 bytes, and the ports after it (RFC 791, section
-- 3.1; RFC 768).
use Rattle.std.specs.Prelude.{ℕ, ◌-◌, ◌==◌, ◌||◌, ◌&&◌, Bool, nat_lt, nat_le, List, ◌++◌, [], length, slice_index, codes, decimal, if◌then◌else◌}
use Rattle.params.specs.declared.TheConstants.{IP_HEADER, IP_UDP_HEADERS, UDP_HEADER, PROTOCOL_UDP}
use Rattle.flat_model.specs.Packets.Header.{Head, u16_at, head_of, total_of}
use Rattle.flat_model.specs.declared.address.Addr.{Addr}
use Rattle.play_text.specs.Pieces.{amount, end_text, range_text, way_text}

-- version 4, and 5 words of header: no options
abbrev pub has_header : List ℕ → Bool
has_header packet = nat_le IP_HEADER (length packet) && slice_index packet 0 == 69

abbrev pub carried_by : List ℕ → ℕ
carried_by packet = total_of packet - IP_HEADER

abbrev pub is_fragment_packet : Head → Bool
is_fragment_packet h = h.more || nat_lt 0 h.offset

-- UDP, with all 8 bytes of its header
abbrev pub has_ports : Head → List ℕ → Bool
has_ports h packet = h.protocol == PROTOCOL_UDP && nat_le IP_UDP_HEADERS (length packet)

abbrev pub source_of : Head → List ℕ → Addr
source_of h packet = record { ip = h.source; port = u16_at 20 packet }

abbrev pub destination_of : Head → List ℕ → Addr
destination_of h packet = record { ip = h.destination; port = u16_at 22 packet }

-- a part of a datagram, which carries this many bytes
abbrev pub fragment_text : Head → ℕ → List ℕ
fragment_text h carried =
    codes "fragment of " ++ way_text h.protocol h.source h.destination ++ codes ", " ++ range_text h.offset carried
    ++ (if h.more then codes ", more, id " else codes ", last, id ") ++ decimal h.id

-- a whole UDP datagram, with the number of bytes sent
abbrev pub datagram_text : Head → List ℕ → List ℕ
datagram_text h packet =
    codes "udp " ++ end_text (source_of h packet) ++ codes " > " ++ end_text (destination_of h packet) ++ codes ", "
    ++ amount (carried_by packet - UDP_HEADER) (codes "byte") ++ codes ", id " ++ decimal h.id

-- another packet that isn't a fragment
abbrev pub other_text : Head → ℕ → List ℕ
other_text h carried =
    way_text h.protocol h.source h.destination ++ codes ", " ++ amount carried (codes "byte")
    ++ codes ", id " ++ decimal h.id

abbrev pub headed_text : Head → List ℕ → List ℕ
headed_text h packet =
    if is_fragment_packet h then fragment_text h (carried_by packet) else
    if has_ports h packet then datagram_text h packet else other_text h (carried_by packet)

-- the description of a packet
abbrev pub packet_text : List ℕ → List ℕ
packet_text packet =
    if has_header packet then headed_text (head_of packet) packet
    else amount (length packet) (codes "byte") ++ codes " without a header of 20"

-- ---- separate lines, after four blanks

abbrev pub range_line : Head → ℕ → List ℕ
range_line h carried =
    codes "    fragment kept: " ++ range_text h.offset carried ++ codes " of datagram " ++ decimal h.id
    ++ codes ", more to come\n"

-- which bytes of which datagram a fragment has; nothing for a packet without a header
abbrev pub kept_line : List ℕ → List ℕ
kept_line packet = if has_header packet then range_line (head_of packet) (carried_by packet) else []

-- the datagram of a fragment is complete
abbrev pub whole_line : List ℕ → List ℕ
whole_line packet =
    if has_header packet then codes "    datagram " ++ decimal (u16_at 4 packet) ++ codes " is whole\n" else []
