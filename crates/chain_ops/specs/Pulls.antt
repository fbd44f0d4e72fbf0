-- Bytes moved to the front of a chain (m_pullup; TCP/IP Illustrated, volume 2, chapter 2).
use Rattle.std.specs.Prelude.{ℕ, ◌+◌, ◌-◌, ◌==◌, ◌<◌, ◌≤◌, min, max, Bool, ◌&&◌, not, nat_le, if◌then◌else◌, List, [], ◌∷◌, length, take, drop, None, is_some}
use Rattle.params.specs.declared.TheConstants.{MSIZE, MHLEN, MAX_PROTOCOL_HEADER}
use Rattle.mbuf_chain.specs.Chain.{Entry, Front, ChainView, PoolView, alone, flat_bytes, string, entry_of}
use Rattle.mbuf_chain.specs.Steps.{narrowed, with_back, empty_entry}
use Rattle.chain_ops.specs.declared.pullup.Refusal.{Refusal}
use Rattle.chain_ops.specs.declared.pullup.Refusal.TheVariants.{NoBufs, TooLong, TooShort}
use Rattle.chain_ops.specs.Makes.{LacksMbufs}
use Rattle.chain_ops.specs.Rooms.{room_low}

-- an entry, and the entries that follow it: the next n bytes move into it. An entry that becomes empty is dropped, and
-- so is an entry without bytes that is passed
abbrev pub moved : ℕ → Entry → List Entry → List Entry
moved n e [] = e ∷ []
moved n e (f ∷ fs) =
    if n == 0
    then e ∷ f ∷ fs
    else if nat_le (length f.bytes) n
    then moved (n - length f.bytes) (with_back e f.bytes) fs
    else with_back e (take n f.bytes) ∷ narrowed f n (length f.bytes - n) ∷ fs

-- whether n bytes fit into a first entry: it's plain, and they end within its mbuf
abbrev pub has_room : Entry → ℕ → Bool
has_room e n = not (is_some e.cluster) && nat_le (e.start + n) MSIZE

-- how many bytes a new first entry takes
abbrev pub pulled_len : ℕ → List Entry → ℕ
pulled_len n es = min (max n MAX_PROTOCOL_HEADER) (length (flat_bytes es))

-- the entries with the first n bytes in one entry
abbrev pub entries_pulled : ChainView → ℕ → List Entry
entries_pulled v n =
    if has_room (entry_of v 0) n
    then moved (n - length (entry_of v 0).bytes) (entry_of v 0) (drop 1 v.entries)
    else moved (pulled_len n v.entries) (empty_entry (room_low v.front.header) None) v.entries

-- a new first mbuf is in no train
abbrev pub pulled_front : ChainView → ℕ → Front
pulled_front v n = if has_room (entry_of v 0) n then v.front else alone v.front.header

-- how many mbufs that takes
abbrev pub pull_need : ChainView → ℕ → ℕ
pull_need v n = if has_room (entry_of v 0) n then 0 else 1

-- why the call fails: the first reason that applies
abbrev pub IsPullRefused : PoolView → ChainView → ℕ → Refusal → Type 0
IsPullRefused p v n TooLong = MHLEN < n
IsPullRefused p v n TooShort = (n ≤ MHLEN) × (length (string v) < n)
IsPullRefused p v n NoBufs = (n ≤ MHLEN) × (n ≤ length (string v)) × LacksMbufs p (pull_need v n)
