-- What is in a packet that was dropped, and what would be right (this project's own). `p` is the packet, and `d` is the
-- datagram that it carries or completes, without an IP header.
use Rattle.std.specs.Prelude.{ℕ, ◌-◌, ◌/◌, ◌%◌, Bool, true, false, not, nat_lt, List, ◌∷◌, ◌++◌, length, take, drop, slice_index, min, if◌then◌else◌}
use Rattle.params.specs.declared.TheConstants.{IP_HEADER, UDP_HEADER}
use Rattle.flat_model.specs.Packets.Checksum.{checksum, folded_sum}
use Rattle.flat_model.specs.Packets.Header.{head_of, not_zero, pseudo_header, total_of, u16_at, u32_at}
use Rattle.flat_model.specs.declared.counters.Why.{Why}
use Rattle.flat_model.specs.declared.counters.Why.TheVariants.{TooSmall, BadVersion, BadHeaderLength, Options, BadSum, BadLength, TooShort, CantForward, BadFragment, FragmentDropped, NoProtocol, UdpHeaderDrops, UdpBadLength, UdpBadSum, UdpNoPort, UdpNoPortBroadcast, UdpFullSocket, NoBufs}
use Rattle.play_why.specs.declared.values.Value.{Value}
use Rattle.play_why.specs.declared.values.Value.TheVariants as value

-- ---- checksums

-- the right checksum of a header of 20 bytes, which is computed with 0 in the field
unfoldable pub right_header_sum : List ℕ → ℕ
right_header_sum p = checksum (take 10 p ++ 0 ∷ 0 ∷ take 8 (drop 12 p))

-- the addresses, the protocol and the UDP length, which the UDP checksum covers too
unfoldable pub pseudo_of : List ℕ → List ℕ → List ℕ
pseudo_of p d = pseudo_header (u32_at 12 p) (u32_at 16 p) (u16_at 4 d)

-- how many bytes are sent, by the UDP length and the datagram's length
abbrev pub sent_by : List ℕ → ℕ
sent_by d = min (u16_at 4 d) (length d) - UDP_HEADER

-- the right checksum of a datagram of 8 bytes or more, which is computed with 0 in the field
unfoldable pub right_udp_sum : List ℕ → List ℕ → ℕ
right_udp_sum p d = not_zero (checksum (pseudo_of p d ++ take 6 d ++ 0 ∷ 0 ∷ take (sent_by d) (drop 8 d)))

-- the sum of only the pseudo header, which is in a datagram whose checksum the sender's card fills in
unfoldable pub pseudo_sum : List ℕ → List ℕ → ℕ
pseudo_sum p d = folded_sum (pseudo_of p d)

-- ---- the value that shows a cause

-- for a packet of 20 bytes or more; `ours` is the host's address
unfoldable pub header_value : Why → List ℕ → ℕ → Value
header_value TooSmall p ours = value.Short (length p) IP_HEADER
header_value BadVersion p ours = value.Version (slice_index p 0 / 16)
header_value BadHeaderLength p ours = value.HeaderWords (slice_index p 0 % 16)
header_value Options p ours = value.HeaderWords (slice_index p 0 % 16)
header_value BadSum p ours = value.Sums (u16_at 10 p) (right_header_sum p)
header_value BadLength p ours = value.Lengths (total_of p) (length p)
header_value TooShort p ours = value.Lengths (total_of p) (length p)
header_value CantForward p ours = value.Elsewhere (u32_at 16 p) ours
header_value BadFragment p ours = value.Carried (head_of p).offset (total_of p - IP_HEADER)
header_value FragmentDropped p ours = value.Carried (head_of p).offset (total_of p - IP_HEADER)
header_value NoProtocol p ours = value.Protocol (slice_index p 9)
header_value UdpHeaderDrops p ours = value.NoneLeft
header_value UdpBadLength p ours = value.NoneLeft
header_value UdpBadSum p ours = value.NoneLeft
header_value UdpNoPort p ours = value.NoneLeft
header_value UdpNoPortBroadcast p ours = value.NoneLeft
header_value UdpFullSocket p ours = value.NoneLeft
header_value NoBufs p ours = value.NoneLeft

-- for a datagram of 8 bytes or more in a packet of 20 or more
unfoldable pub datagram_value : Why → List ℕ → List ℕ → Value
datagram_value UdpBadLength p d = value.Lengths (u16_at 4 d) (length d)
datagram_value UdpBadSum p d = value.Sums (u16_at 6 d) (right_udp_sum p d)
datagram_value UdpFullSocket p d = value.Payload (length d - UDP_HEADER)
datagram_value _ p d = value.Port (u16_at 2 d)

abbrev pub is_of_udp : Why → Bool
is_of_udp UdpHeaderDrops = true
is_of_udp UdpBadLength = true
is_of_udp UdpBadSum = true
is_of_udp UdpNoPort = true
is_of_udp UdpNoPortBroadcast = true
is_of_udp UdpFullSocket = true
is_of_udp _ = false

-- for any packet
unfoldable pub cause_value : Why → List ℕ → List ℕ → ℕ → Value
cause_value why p d ours =
    if nat_lt (length p) IP_HEADER then value.Short (length p) IP_HEADER
    else if not (is_of_udp why) then header_value why p ours
    else if nat_lt (length d) UDP_HEADER then value.Short (length d) UDP_HEADER
    else datagram_value why p d

-- ---- the datagram

-- what a packet carries, by its total length
unfoldable pub carried_of : List ℕ → List ℕ
carried_of p = take (min (total_of p) (length p) - IP_HEADER) (drop IP_HEADER p)

-- what the packet carries, or the reassembled datagram if there is one
unfoldable pub datagram_of : List ℕ → List ℕ → List ℕ
datagram_of p whole = if nat_lt 0 (length whole) then whole else carried_of p
