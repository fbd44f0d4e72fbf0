-- IP headers with all their fields (RFC 791, section 3.1). Those of the flat machine have type of service 0, time to
-- live 64 and "don't fragment" clear.
use Rattle.std.specs.Prelude.{◌≡◌, ℕ, ◌+◌, ◌*◌, ◌/◌, ◌%◌, nat_lt, if◌then◌else◌, List, [], ◌∷◌, ◌++◌, slice_index, None}
use Rattle.params.specs.declared.TheConstants.{FRAGMENT_UNIT}
use Rattle.flat_model.specs.Packets.Checksum.{checksum}
use Rattle.flat_model.specs.Packets.Header.{flag, two_bytes, address_bytes, head_fault, u16_at, u32_at}
use Rattle.ip_out.specs.declared.head.IpHead.{IpHead}

-- the field of flags and offset
abbrev pub flags_of : IpHead → ℕ
flags_of h =
    if h.dont then 16384 + (flag h.more 8192 + h.offset / FRAGMENT_UNIT)
    else flag h.more 8192 + h.offset / FRAGMENT_UNIT

-- the ten bytes before the checksum: version 4, 5 words of header, and the header's fields
abbrev pub header_front : IpHead → List ℕ
header_front h = 69 ∷ h.tos ∷ two_bytes h.total ++ two_bytes h.id ++ two_bytes (flags_of h) ++ h.ttl ∷ h.proto ∷ []

-- the 20 bytes of a header with this checksum
abbrev pub bytes_with : IpHead → ℕ → List ℕ
bytes_with h sum = header_front h ++ two_bytes sum ++ address_bytes h.src h.dst

-- the 20 bytes with 0 as the checksum
abbrev pub blank_bytes : IpHead → List ℕ
blank_bytes h = bytes_with h 0

-- the 20 bytes of a header
unfoldable pub head_bytes : IpHead → List ℕ
head_bytes h = bytes_with h (checksum (blank_bytes h))

-- the fields of a packet's header
abbrev pub head_in : List ℕ → IpHead
head_in bytes = record {
  tos = slice_index bytes 1;
  total = u16_at 2 bytes;
  id = u16_at 4 bytes;
  dont = nat_lt 0 (u16_at 6 bytes / 16384 % 2);
  more = nat_lt 0 (u16_at 6 bytes / 8192 % 2);
  offset = u16_at 6 bytes % 8192 * FRAGMENT_UNIT;
  ttl = slice_index bytes 8;
  proto = slice_index bytes 9;
  src = u32_at 12 bytes;
  dst = u32_at 16 bytes;
}

-- the bytes of a packet whose header has no fault, and its fields
abbrev pub IsHeadOf : List ℕ → IpHead → Type 0
IsHeadOf bytes h = (head_fault bytes ≡ None) × (h ≡ head_in bytes)
