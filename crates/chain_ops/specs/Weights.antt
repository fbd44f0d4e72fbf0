-- A chain's mbufs in the terms of the flat machine (this project's own).
use Rattle.std.specs.Prelude.{◌+◌, ◌<◌, ◌≤◌, List, length, map, is_some, if◌then◌else◌}
use Rattle.std.specs.List.{AllByRecursion}
use Rattle.params.specs.declared.TheConstants.{MBUF_HEADER}
use Rattle.mbuf_chain.specs.Chain.{Entry, room_end}
use Rattle.flat_model.specs.Amounts.Layout as flat

-- the bytes and the cluster of each entry
abbrev pub layout_entries : List Entry → List flat.LayoutEntry
layout_entries es = map (λ (e : Entry). record { size = length e.bytes; cluster = e.cluster }) es

-- none of the entries is empty
abbrev pub HaveBytes : List Entry → Type 0
HaveBytes es = AllByRecursion (λ (e : Entry). 0 < length e.bytes) es

-- the bytes of an entry are within its mbuf or cluster
pub record IsEntryFit (e : Entry) : Type 0 where
  pub low : (if is_some e.cluster then 0 else MBUF_HEADER) ≤ e.start
  pub high : e.start + length e.bytes ≤ room_end e

abbrev pub AreFit : List Entry → Type 0
AreFit es = AllByRecursion IsEntryFit es
