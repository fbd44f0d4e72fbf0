-- The effect of each step on a chain (this project's own).
use Rattle.std.specs.Prelude.{ℕ, ◌+◌, ◌-◌, Bool, false, List, [], ◌∷◌, ◌++◌, length, Option, slice_set, take, drop}
use Rattle.mbuf_chain.specs.declared.place.Place.{Place}
use Rattle.mbuf_chain.specs.Chain.{Entry, ChainView, PoolView, alone, chain_of, with_chain, without}

-- ---- one entry
-- `keep` of its bytes, after the first `skip`
abbrev pub narrowed : Entry → ℕ → ℕ → Entry
narrowed e skip keep = record { bytes = take keep (drop skip e.bytes); start = e.start + skip; cluster = e.cluster }

-- bytes added before its own, and after them
abbrev pub with_front : Entry → List ℕ → Entry
with_front e xs = record { bytes = xs ++ e.bytes; start = e.start - length xs; cluster = e.cluster }

abbrev pub with_back : Entry → List ℕ → Entry
with_back e xs = record { bytes = e.bytes ++ xs; start = e.start; cluster = e.cluster }

-- bytes written over its own, from `offset` on
abbrev pub overwritten : Entry → ℕ → List ℕ → Entry
overwritten e offset xs =
    record {
      bytes = take offset e.bytes ++ (xs ++ drop (offset + length xs) e.bytes);
      start = e.start;
      cluster = e.cluster;
    }

-- ---- one chain
-- one mbuf, with or without a packet header, whose number is c
abbrev pub one_mbuf : Bool → Entry → ℕ → ChainView
one_mbuf header e c = record { front = alone header; entries = e ∷ []; cells = c ∷ [] }

-- a new, empty entry that begins at this offset
abbrev pub empty_entry : ℕ → Option ℕ → Entry
empty_entry start cluster = record { bytes = []; start = start; cluster = cluster }

-- another entry instead of entry i
abbrev pub with_entry : ChainView → ℕ → Entry → ChainView
with_entry v i e = record v { entries = slice_set v.entries i e }

-- the pool with another entry at a place of a chain
abbrev pub with_entry_in : PoolView → ℕ → Place → Entry → PoolView
with_entry_in p c at e = with_chain p c (with_entry (chain_of p c) at.index e)

-- the pool with other entries in a chain
abbrev pub with_entries_in : PoolView → ℕ → List Entry → PoolView
with_entries_in p c es = with_chain p c (record (chain_of p c) { entries = es })

-- without the packet header and without the link in a train
abbrev pub headless : ChainView → ChainView
headless v = record v { front = alone false }

-- the chain linked before another in a train, with a tag
abbrev pub placed : ChainView → Option ℕ → ℕ → ChainView
placed v after tag = record v { front = record v.front { after = after; tag = tag } }

-- the entries of one chain, followed by those of another
abbrev pub joined : ChainView → ChainView → ChainView
joined v w = record v { entries = v.entries ++ w.entries; cells = v.cells ++ w.cells }

-- the pool with chain d linked after the last mbuf of chain c
abbrev pub linked : PoolView → ℕ → ℕ → PoolView
linked p c d = with_chain (without p d) c (joined (chain_of p c) (chain_of p d))

-- the first n entries, and the others
abbrev pub first_part : ℕ → ChainView → ChainView
first_part n v = record v { entries = take n v.entries; cells = take n v.cells }

abbrev pub second_part : ℕ → ChainView → ChainView
second_part n v = record { front = alone false; entries = drop n v.entries; cells = drop n v.cells }
