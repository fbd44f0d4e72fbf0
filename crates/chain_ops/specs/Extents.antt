-- Which part of a chain is copied (M_COPYALL and m_copym; TCP/IP Illustrated, volume 2, chapter 2).
use Rattle.std.specs.Prelude.{ℕ, ◌+◌, ◌<◌, ◌≤◌, Bool, List, take, drop}
use Rattle.mbuf_chain.specs.Chain.{Entry}
use Rattle.chain_ops.specs.declared.copym.Extent.{Extent}
use Rattle.chain_ops.specs.declared.copym.Extent.TheVariants.{All, Part}
use Rattle.chain_ops.specs.Rooms.{room_low}
use Rattle.chain_ops.specs.Copies.{copied, copied_all, copy_header}

-- the part is within n bytes and has at least one byte
abbrev pub IsExtent : Extent → ℕ → Type 0
IsExtent All n = Unit {0}
IsExtent (Part off len) n = (0 < len) × (off + len ≤ n)

-- whether a copy of a chain with or without a packet header has one
abbrev pub extent_header : Extent → Bool → Bool
extent_header All header = header
extent_header (Part off len) header = copy_header header off

-- the entries of the copy
abbrev pub extent_copied : Extent → Bool → List Entry → List Entry
extent_copied All header es = copied_all (room_low header) es
extent_copied (Part off len) header es = copied (copy_header header off) es off len

-- the bytes of the copy
abbrev pub extent_bytes : Extent → List ℕ → List ℕ
extent_bytes All xs = xs
extent_bytes (Part off len) xs = take len (drop off xs)
