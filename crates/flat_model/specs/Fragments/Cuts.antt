-- How a datagram of n bytes after its IP header is fragmented for a link (RFC 791, section 2.3 "Fragmentation" and the
-- procedure of section 3.2; volume 2, chapter 10). The IP header of each packet is 20 bytes long.
use Rattle.std.specs.Prelude.{ℕ, ◌+◌, ◌-◌, ◌*◌, ◌/◌, min, Bool, false, nat_lt, nat_le, if◌then◌else◌, List, [], ◌∷◌, map}
use Rattle.std.specs.List.{range_with_len}
use Rattle.params.specs.declared.TheConstants.{IP_HEADER, FRAGMENT_UNIT}

-- one packet's share: the offset of its first byte, the number of bytes, and whether more parts follow
pub record Part : Type 0 where
  pub offset : ℕ
  pub size : ℕ
  pub more : Bool

-- the number of bytes that each fragment but the last carries: the largest multiple of 8 that fits
abbrev pub chunk : ℕ → ℕ
chunk mtu = (mtu - IP_HEADER) / FRAGMENT_UNIT * FRAGMENT_UNIT

-- the i-th part of n bytes in chunks of c
abbrev pub part : ℕ → ℕ → ℕ → Part
part n c i = record { offset = i * c; size = min c (n - i * c); more = nat_lt ((i + 1) * c) n }

-- the number of chunks of c that hold n bytes
abbrev pub chunks : ℕ → ℕ → ℕ
chunks n c = (n + (c - 1)) / c

-- the parts for a link with this MTU: one part if everything fits, otherwise chunks
unfoldable pub cuts : ℕ → ℕ → List Part
cuts n mtu =
    if nat_le (IP_HEADER + n) mtu
    then record { offset = 0; size = n; more = false } ∷ []
    else map (part n (chunk mtu)) (range_with_len 0 (chunks n (chunk mtu)))
