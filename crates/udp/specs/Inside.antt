-- What the crate's own functions say of a header and of the blocks (this project's own).
use Rattle.std.specs.Prelude.{ℕ, ◌==◌, ◌||◌, Bool, ◌++◌, List, take}
use Rattle.flat_model.specs.Packets.Checksum.{folded_sum}
use Rattle.flat_model.specs.Packets.Header.{pseudo_header, two_bytes, u16_at}
use Rattle.mbuf_chain.specs.Chain.{ChainView}
use Rattle.chain_ops.specs.Trims.{only_first}
use Rattle.udp.specs.declared.header.Header.{Header}

-- what a datagram's header says (RFC 768)
abbrev pub header_in : List ℕ → Header
header_in s = record { source = u16_at 0 s; destination = u16_at 2 s; len = u16_at 4 s; sum = u16_at 6 s }

abbrev pub header_bytes : Header → List ℕ
header_bytes h = (two_bytes h.source ++ two_bytes h.destination) ++ (two_bytes h.len ++ two_bytes h.sum)

-- it has no checksum, or the right one
abbrev pub has_right_sum : ℕ → ℕ → List ℕ → Bool
has_right_sum src dst s =
    (u16_at 6 s == 0) || (folded_sum (pseudo_header src dst (u16_at 4 s) ++ take (u16_at 4 s) s) == 65535)

-- a chain with no more than its first n bytes
abbrev pub cut_chain : ℕ → ChainView → ChainView
cut_chain n v = record v { entries = only_first n v.entries }
