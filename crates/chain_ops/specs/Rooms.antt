-- Where bytes are placed in a plain mbuf (TCP/IP Illustrated, volume 2, chapter 2: MH_ALIGN and M_ALIGN).
use Rattle.std.specs.Prelude.{ℕ, ◌+◌, ◌-◌, ◌*◌, ◌/◌, Bool, if◌then◌else◌, List, length, None}
use Rattle.params.specs.declared.TheConstants.{MBUF_HEADER, MSIZE, PACKET_START}
use Rattle.mbuf_chain.specs.Chain.{Entry}

-- the first usable place of a plain mbuf, with or without packet header
abbrev pub room_low : Bool → ℕ
room_low header = if header then PACKET_START else MBUF_HEADER

-- where n bytes begin that are put at the end of the mbuf, at a multiple of 4 from its first usable place
abbrev pub at_end : Bool → ℕ → ℕ
at_end header n = room_low header + (MSIZE - room_low header - n) / 4 * 4

-- an entry of these bytes at the end of a plain mbuf
abbrev pub end_entry : Bool → List ℕ → Entry
end_entry header xs = record { bytes = xs; start = at_end header (length xs); cluster = None }
