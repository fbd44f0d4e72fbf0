-- What is known about a packet whose IP header was read in place (RFC 791, section 3.1).
use Rattle.std.specs.Prelude.{◌≡◌, ℕ, ◌≤◌, List, length, take, drop, None}
use Rattle.params.specs.declared.TheConstants.{IP_HEADER}
use Rattle.flat_model.specs.Packets.Header.{head_fault, total_of}

-- Its header is valid: the packet has a whole header, and isn't shorter than its total length.
pub record IsFaultless (packet : List ℕ) : Type 0 where
  pub faultless : head_fault packet ≡ None
  pub header : IP_HEADER ≤ length packet
  pub least : IP_HEADER ≤ total_of packet
  pub most : total_of packet ≤ length packet

-- the bytes after the header, up to the total length
abbrev pub carried_of : List ℕ → List ℕ
carried_of packet = drop IP_HEADER (take (total_of packet) packet)
