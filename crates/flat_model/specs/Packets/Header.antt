-- The bytes of a packet: its IP header (RFC 791, section 3.1), and the UDP header after it (RFC 768). All
-- numbers are big-endian.
use Rattle.std.specs.Prelude.{ℕ, ◌+◌, ◌*◌, ◌/◌, ◌%◌, Bool, false, nat_lt, ◌==◌, not, if◌then◌else◌, List, [], ◌∷◌, ◌++◌, length, take, drop, slice_index, Option, Some, None}
use Rattle.params.specs.declared.TheConstants.{FRAGMENT_UNIT, IP_HEADER, UDP_HEADER, IP_DEFAULT_TTL, PROTOCOL_UDP}
use Rattle.flat_model.specs.Packets.Checksum.{folded_sum, checksum}
use Rattle.flat_model.specs.declared.counters.Why.{Why}
use Rattle.flat_model.specs.declared.counters.Why.TheVariants.{TooSmall, BadVersion, BadHeaderLength, Options, BadSum, BadLength, TooShort, UdpHeaderDrops, UdpBadLength, UdpBadSum}

-- a number of 16 bits as bytes
abbrev pub two_bytes : ℕ → List ℕ
two_bytes n = n / 256 ∷ n % 256 ∷ []

-- a number of 32 bits as bytes
abbrev pub four_bytes : ℕ → List ℕ
four_bytes n = two_bytes (n / 65536) ++ two_bytes (n % 65536)

-- the number in the two bytes from an offset; a missing byte counts as 0
abbrev pub u16_at : ℕ → List ℕ → ℕ
u16_at at bytes = 256 * slice_index bytes at + slice_index bytes (at + 1)

-- the number in the four bytes from an offset
abbrev pub u32_at : ℕ → List ℕ → ℕ
u32_at at bytes = 65536 * u16_at at bytes + u16_at (at + 2) bytes

-- ---- IP

-- The fields that differ from packet to packet. `offset` is in bytes, and `more` is the flag "more fragments".
pub record Head : Type 0 where
  pub id : ℕ
  pub more : Bool
  pub offset : ℕ
  pub protocol : ℕ
  pub source : ℕ
  pub destination : ℕ

-- a flag's contribution to its field
abbrev pub flag : Bool → ℕ → ℕ
flag set worth = if set then worth else 0

-- The ten bytes before the header's checksum, for a packet that carries n bytes: version 4 and 5 words of header, type
-- of service 0, total length, identification, flags and offset, time to live 64, protocol.
abbrev pub front_bytes : Head → ℕ → List ℕ
front_bytes h n =
    69 ∷ 0 ∷ two_bytes (IP_HEADER + n) ++ two_bytes h.id ++ two_bytes (flag h.more 8192 + h.offset / FRAGMENT_UNIT)
    ++ IP_DEFAULT_TTL ∷ h.protocol ∷ []

-- the eight bytes after the checksum
abbrev pub address_bytes : ℕ → ℕ → List ℕ
address_bytes source destination = four_bytes source ++ four_bytes destination

-- a packet of this stack: 20 bytes of header with their checksum, which is computed with 0 in its field, and the data
unfoldable pub packet : Head → List ℕ → List ℕ
packet h t =
    let front : List ℕ = front_bytes h (length t) in
    let addresses : List ℕ = address_bytes h.source h.destination in
    front ++ two_bytes (checksum (front ++ 0 ∷ 0 ∷ addresses)) ++ addresses ++ t

-- the decoded header of a packet; the reserved flag and "don't fragment" are ignored
abbrev pub head_of : List ℕ → Head
head_of bytes = record {
  id = u16_at 4 bytes;
  more = nat_lt 0 (u16_at 6 bytes / 8192 % 2);
  offset = u16_at 6 bytes % 8192 * FRAGMENT_UNIT;
  protocol = slice_index bytes 9;
  source = u32_at 12 bytes;
  destination = u32_at 16 bytes;
}

-- its total length
abbrev pub total_of : List ℕ → ℕ
total_of bytes = u16_at 2 bytes

-- the first test that is true determines the fault (this project's own)
abbrev pub first_fault : {E : Type 0} → List (Bool × E) → Option E
first_fault [] = None
first_fault (test ∷ tests) = if test.0 then Some test.1 else first_fault tests

-- Why a packet's header is refused: the first test that it fails (`ipintr` of volume 2, chapter 8; that options are
-- refused is this project's own).
abbrev pub head_fault : List ℕ → Option Why
head_fault bytes = first_fault (
    (nat_lt (length bytes) IP_HEADER, TooSmall)
    ∷ (not (slice_index bytes 0 / 16 == 4), BadVersion)
    ∷ (nat_lt (slice_index bytes 0 % 16) 5, BadHeaderLength)
    ∷ (nat_lt 5 (slice_index bytes 0 % 16), Options)
    ∷ (not (folded_sum (take IP_HEADER bytes) == 65535), BadSum)
    ∷ (nat_lt (total_of bytes) IP_HEADER, BadLength)
    ∷ (nat_lt (length bytes) (total_of bytes), TooShort)
    ∷ [])

-- ---- UDP

-- what the UDP checksum covers in addition to the datagram: the addresses, the protocol 17 and the UDP length
abbrev pub pseudo_header : ℕ → ℕ → ℕ → List ℕ
pseudo_header source destination n = address_bytes source destination ++ 0 ∷ PROTOCOL_UDP ∷ two_bytes n

-- a computed checksum of 0 is written as 65,535, because 0 means no checksum
abbrev pub not_zero : ℕ → ℕ
not_zero n = if n == 0 then 65535 else n

-- a datagram: 8 bytes of header, always with a checksum, and the bytes sent
unfoldable pub udp : ℕ → ℕ → ℕ → ℕ → List ℕ → List ℕ
udp source destination source_port destination_port s =
    let n : ℕ = UDP_HEADER + length s in
    let front : List ℕ = two_bytes source_port ++ two_bytes destination_port ++ two_bytes n in
    front ++ two_bytes (not_zero (checksum (pseudo_header source destination n ++ front ++ 0 ∷ 0 ∷ s))) ++ s

-- Why a datagram is refused (`udp_input` of volume 2, chapter 23): fewer than 8 bytes, a UDP length above the number of
-- bytes carried or below 8, or a checksum that is present and wrong. Bytes after the UDP length are ignored.
abbrev pub udp_fault : ℕ → ℕ → List ℕ → Option Why
udp_fault source destination bytes =
    let n : ℕ = u16_at 4 bytes in
    first_fault (
    (nat_lt (length bytes) UDP_HEADER, UdpHeaderDrops)
    ∷ (nat_lt (length bytes) n, UdpBadLength)
    ∷ (nat_lt n UDP_HEADER, UdpBadLength)
    ∷ (
      if u16_at 6 bytes == 0 then false
          else not (folded_sum (pseudo_header source destination n ++ take n bytes) == 65535),
      UdpBadSum,
    )
    ∷ [])

-- the bytes that were sent, in a datagram that passed these tests
abbrev pub udp_bytes : List ℕ → List ℕ
udp_bytes bytes = drop UDP_HEADER (take (u16_at 4 bytes) bytes)
