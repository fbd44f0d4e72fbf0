-- Bytes put before a chain's first byte (m_prepend and M_PREPEND; TCP/IP Illustrated, volume 2, chapter 2).
use Rattle.std.specs.Prelude.{ℕ, Bool, nat_le, if◌then◌else◌, List, ◌∷◌, length, drop}
use Rattle.mbuf_chain.specs.Chain.{Entry, Front, ChainView, alone, leading_space, entry_of}
use Rattle.mbuf_chain.specs.Steps.{with_front}
use Rattle.chain_ops.specs.Rooms.{end_entry}

-- whether n bytes fit into the leading space of a chain
abbrev pub has_front : ChainView → ℕ → Bool
has_front v n = nat_le n (leading_space v 0)

-- the entries with the bytes prepended: in the leading space of the first entry, or in an entry of their own
abbrev pub prepended : ChainView → List ℕ → List Entry
prepended v xs =
    if has_front v (length xs) then with_front (entry_of v 0) xs ∷ drop 1 v.entries
    else end_entry v.front.header xs ∷ v.entries

-- a new first mbuf is in no train
abbrev pub prepended_front : ChainView → ℕ → Front
prepended_front v n = if has_front v n then v.front else alone v.front.header

-- how many mbufs that takes
abbrev pub prepend_need : ChainView → ℕ → ℕ
prepend_need v n = if has_front v n then 0 else 1
