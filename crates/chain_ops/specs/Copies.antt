-- Copies of chains that share clusters (m_copym; TCP/IP Illustrated, volume 2, chapter 2).
use Rattle.std.specs.Prelude.{◌≡◌, ℕ, ◌+◌, ◌-◌, ◌==◌, min, Bool, ◌&&◌, nat_lt, nat_le, if◌then◌else◌, List, [], ◌∷◌, length, take, drop, is_some, IsTrue}
use Rattle.params.specs.declared.TheConstants.{MBUF_HEADER}
use Rattle.mbuf_chain.specs.declared.place.Place.{Place}
use Rattle.mbuf_chain.specs.Chain.{Entry, ChainView, PoolView, Adds}
use Rattle.mbuf_chain.specs.Steps.{one_mbuf}
use Rattle.chain_ops.specs.Rooms.{room_low}

-- a copy of n bytes of an entry after its first `skip`: it shares the cluster, or its bytes start at place `room` of a
-- plain mbuf
abbrev pub copied_entry : ℕ → Entry → ℕ → ℕ → Entry
copied_entry room e skip n =
    record {
      bytes = take n (drop skip e.bytes);
      start = if is_some e.cluster then e.start + skip else room;
      cluster = e.cluster;
    }

-- from p to q, chain d was made: one mbuf, a copy of n bytes of an entry
abbrev pub AddsCopy : PoolView → PoolView → ℕ → Bool → Entry → ℕ → ℕ → Type 0
AddsCopy p q d header e skip n = Adds p q d (one_mbuf header (copied_entry (room_low header) e skip n) d)

-- if the copy of the mbuf at a place has a packet header, the mbuf is the first one of a chain that has one
abbrev pub CanHaveHeader : Bool → ChainView → Place → Type 0
CanHaveHeader header v at = IsTrue header → IsTrue v.front.header × (at.index ≡ 0)

-- copies of all entries; the plain bytes of the first one start at `room`
abbrev pub copied_all : ℕ → List Entry → List Entry
copied_all room [] = []
copied_all room (e ∷ es) = copied_entry room e 0 (length e.bytes) ∷ copied_all MBUF_HEADER es

-- copies of the entries that hold `len` bytes, without the first `skip` bytes of the first entry
abbrev pub copied_from : ℕ → List Entry → ℕ → ℕ → List Entry
copied_from room [] skip len = []
copied_from room (e ∷ es) skip len =
    if len == 0 then [] else copied_entry room e skip (min len (length e.bytes - skip))
    ∷ copied_from MBUF_HEADER es 0 (len - (length e.bytes - skip))

-- the position of a byte in a list of entries: the entries from its own entry on, and how many bytes of that entry
-- precede it
pub record Position : Type 0 where
  pub entries : List Entry
  pub skip : ℕ

-- the position of the byte at `off`: entries that end at or before it are passed; for 0 none is passed
abbrev pub position_of : List Entry → ℕ → Position
position_of [] off = record { entries = []; skip = off }
position_of (e ∷ es) off =
    if nat_lt 0 off && nat_le (length e.bytes) off then position_of es (off - length e.bytes)
    else record { entries = e ∷ es; skip = off }

-- the copy of a range
abbrev pub copied : Bool → List Entry → ℕ → ℕ → List Entry
copied header es off len = copied_from (room_low header) (position_of es off).entries (position_of es off).skip len

-- whether the copy has a packet header: the copy of a range has one if the range begins at 0
abbrev pub copy_header : Bool → ℕ → Bool
copy_header header off = header && (off == 0)

-- the copy of a range of a chain, and that of all of it
abbrev pub part_copied : ChainView → ℕ → ℕ → List Entry
part_copied v off len = copied (copy_header v.front.header off) v.entries off len

abbrev pub all_copied : ChainView → List Entry
all_copied v = copied_all (room_low v.front.header) v.entries
