-- A chain cut in two (m_split of 4.4BSD; the details are this project's own).
use Rattle.std.specs.Prelude.{ℕ, ◌-◌, ◌==◌, Bool, nat_lt, nat_le, true, if◌then◌else◌, List, [], ◌∷◌, ◌++◌, length, drop, None, is_some}
use Rattle.params.specs.declared.TheConstants.{MBUF_HEADER, MHLEN}
use Rattle.mbuf_chain.specs.Chain.{Entry}
use Rattle.mbuf_chain.specs.Steps.{narrowed, empty_entry}
use Rattle.chain_ops.specs.Copies.{copied_entry}
use Rattle.chain_ops.specs.Rooms.{room_low, end_entry}

-- the first entries of a new chain that has the bytes of an entry from `off` on: with or without packet header
abbrev pub rest_of : Bool → Entry → ℕ → List Entry
rest_of header e off =
    if length e.bytes - off == 0
    then (if header then empty_entry (room_low true) None ∷ [] else [])
    else if is_some e.cluster
    then narrowed e off (length e.bytes - off) ∷ []
    else if header
    then (if nat_le (length e.bytes - off) MHLEN
    then end_entry true (drop off e.bytes) ∷ []
    else empty_entry (room_low true) None ∷ copied_entry MBUF_HEADER e off (length e.bytes - off) ∷ [])
    else copied_entry MBUF_HEADER e off (length e.bytes - off) ∷ []

-- the entries before the cut, and those after it: the cut is in the first entry that is at least as long as the
-- remaining offset
abbrev pub split_front : List Entry → ℕ → List Entry
split_front [] off = []
split_front (e ∷ es) off =
    if nat_lt (length e.bytes) off then e ∷ split_front es (off - length e.bytes) else narrowed e 0 off ∷ []

abbrev pub split_back : Bool → List Entry → ℕ → List Entry
split_back header [] off = []
split_back header (e ∷ es) off =
    if nat_lt (length e.bytes) off then split_back header es (off - length e.bytes) else rest_of header e off ++ es

-- how many mbufs that takes
abbrev pub split_need : Bool → List Entry → ℕ → ℕ
split_need header [] off = 0
split_need header (e ∷ es) off =
    if nat_lt (length e.bytes) off then split_need header es (off - length e.bytes) else length (rest_of header e off)
