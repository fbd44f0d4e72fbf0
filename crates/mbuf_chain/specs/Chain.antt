-- What contracts see of a pool of chains: a finite map from a chain's number to its entries, and the totals (this
-- project's own; mbufs, clusters and their counts are those of TCP/IP Illustrated, volume 2, chapter 2).
use Rattle.std.specs.Prelude.{◌≡◌, ℕ, ◌+◌, ◌-◌, Bool, false, List, [], ◌∷◌, ◌++◌, length, map, sum_by, count_by, Option, None, Some, unwrap_or, is_some, nat_eq, ◌==◌, if◌then◌else◌, refl, slice_get, slice_index_or, ◌<◌, ◌≤◌, ◌⊎◌}
use Rattle.std.specs.Coded.{Coded, code_by, coded×, coded_list, coded_ℕ, coded_bool, coded_option}
use Rattle.std.specs.List.{range_with_len}
use Rattle.std.specs.Option.{option_eq}
use Rattle.std.specs.Ordering.{nat_cmp}
use Rattle.std.specs.FinMap as finmap
use Rattle.std.specs.FinMap.{FinMap}
use Rattle.params.specs.declared.TheConstants.{MBUF_HEADER, MCLBYTES, MSIZE, PACKET_START}
use Rattle.mbuf_chain.specs.declared.place.Place.{Place}

-- an entry: the data bytes of an mbuf, their offset in the mbuf or in its cluster, and its cluster
pub record Entry : Type 0 where
  pub bytes : List ℕ
  pub start : ℕ
  pub cluster : Option ℕ

-- what the first mbuf records about the chain: whether it has a packet header, the chain after it in a train, and the
-- number stored in the packet header
pub record Front : Type 0 where
  pub header : Bool
  pub after : Option ℕ
  pub tag : ℕ

-- a chain: its front, an entry for each mbuf, and the number of each mbuf
pub record ChainView : Type 0 where
  pub front : Front
  pub entries : List Entry
  pub cells : List ℕ

-- a pool: the total numbers of mbufs and clusters, and its chains by number
pub record PoolView : Type 0 where
  pub mbufs : ℕ
  pub clusters : ℕ
  pub chains : FinMap nat_cmp ChainView

-- a chain that is in no train: with a packet header or without
abbrev pub alone : Bool → Front
alone header = record { header = header; after = None; tag = 0 }

abbrev pub no_chain : ChainView
no_chain = record { front = alone false; entries = []; cells = [] }

abbrev pub no_entry : Entry
no_entry = record { bytes = []; start = 0; cluster = None }

-- ---- one chain
abbrev pub flat_bytes : List Entry → List ℕ
flat_bytes [] = []
flat_bytes (e ∷ es) = e.bytes ++ flat_bytes es

-- all bytes of the chain, in order
abbrev pub string : ChainView → List ℕ
string v = flat_bytes v.entries

-- the length of each entry, and its cluster
abbrev pub layout_of : List Entry → List (ℕ × Option ℕ)
layout_of es = map (λ e. (length e.bytes, e.cluster)) es

abbrev pub layout : ChainView → List (ℕ × Option ℕ)
layout v = layout_of v.entries

abbrev pub entry_of : ChainView → ℕ → Entry
entry_of v i = slice_index_or v.entries i no_entry

-- whether an entry refers to cluster c
abbrev pub refers : ℕ → Entry → Bool
refers c e = option_eq nat_eq e.cluster (Some c)

-- how many mbufs a chain has, and how many of them refer to cluster c
abbrev pub mbufs_of : ChainView → ℕ
mbufs_of v = length v.entries

abbrev pub references_of : ℕ → ChainView → ℕ
references_of c v = count_by (refers c) v.entries

-- the first offset of the data area of entry i
abbrev pub room_start : ChainView → ℕ → ℕ
room_start v i =
    if is_some (entry_of v i).cluster then 0
    else (if v.front.header then (if i == 0 then PACKET_START else MBUF_HEADER) else MBUF_HEADER)

-- the offset after the data area of an entry
abbrev pub room_end : Entry → ℕ
room_end e = if is_some e.cluster then MCLBYTES else MSIZE

-- free bytes before the data of entry i, and after the data of an entry: 0 if it is in a cluster
abbrev pub leading_space : ChainView → ℕ → ℕ
leading_space v i = if is_some (entry_of v i).cluster then 0 else (entry_of v i).start - room_start v i

abbrev pub trailing_space : Entry → ℕ
trailing_space e = if is_some e.cluster then 0 else MSIZE - e.start - length e.bytes

-- n bytes fit before the data of entry i, or after the data of an entry: in the data area of the mbuf, or in its
-- cluster
abbrev pub HasLeadingSpace : ChainView → ℕ → ℕ → Type 0
HasLeadingSpace v i n = room_start v i + n ≤ (entry_of v i).start

abbrev pub HasTrailingSpace : Entry → ℕ → Type 0
HasTrailingSpace e n = e.start + length e.bytes + n ≤ room_end e

-- the place is that of entry `index` of the chain, whose mbuf has the number `cell`
pub record IsPlace (v : ChainView) (at : Place) : Type 0 where
  pub within : at.index < length v.entries
  pub cell : slice_get v.cells at.index ≡ Some at.cell

-- ---- the pool
-- the chain with that number, if there is one
abbrev pub chain_of : PoolView → ℕ → ChainView
chain_of p c = unwrap_or (finmap.get p.chains c) no_chain

-- the number is that of a chain of the pool
abbrev pub IsLive : PoolView → ℕ → Type 0
IsLive p c = finmap.get p.chains c ≡ Some (chain_of p c)

-- the bytes of a chain, and its entry at a place
abbrev pub string_in : PoolView → ℕ → List ℕ
string_in p c = string (chain_of p c)

abbrev pub entry_in : PoolView → ℕ → Place → Entry
entry_in p c at = entry_of (chain_of p c) at.index

-- the mbufs of all chains
abbrev pub held_mbufs : PoolView → ℕ
held_mbufs p = sum_by mbufs_of (finmap.values p.chains)

-- how many mbufs of all chains refer to cluster c
abbrev pub references : PoolView → ℕ → ℕ
references p c = sum_by (references_of c) (finmap.values p.chains)

-- the references of each cluster, in order
abbrev pub reference_counts : PoolView → List ℕ
reference_counts p = map (references p) (range_with_len 0 p.clusters)

-- the number of clusters without references
abbrev pub free_clusters : PoolView → ℕ
free_clusters p = count_by (λ c. references p c == 0) (range_with_len 0 p.clusters)

-- no mbuf is free, or no cluster: there is none for an mbuf on a cluster of its own
abbrev pub LacksForCluster : PoolView → Type 0
LacksForCluster p = (held_mbufs p ≡ p.mbufs) ⊎ (free_clusters p ≡ 0)

-- no other mbuf shares the bytes of the entry's mbuf or cluster
abbrev pub IsUnshared : PoolView → Entry → Type 0
IsUnshared p e = (c : ℕ) → e.cluster ≡ Some c → references p c ≡ 1

-- the pool with this value for that chain, and all others unchanged
abbrev pub with_chain : PoolView → ℕ → ChainView → PoolView
with_chain p c v = record p { chains = finmap.insert p.chains c v }

-- the pool without that chain, and all others unchanged
abbrev pub without : PoolView → ℕ → PoolView
without p c = record p { chains = finmap.remove p.chains c }

-- the new pool has one more chain, with a number that no chain had before
pub record Adds (old new : PoolView) (c : ℕ) (v : ChainView) : Type 0 where
  pub fresh : finmap.get old.chains c ≡ None
  pub pool : new ≡ with_chain old c v

-- ---- codes
abbrev pub coded_entry : Coded Entry
coded_entry =
    code_by (List ℕ × (ℕ × Option ℕ)) (coded× (coded_list coded_ℕ) (coded× coded_ℕ (coded_option coded_ℕ)))
    (λ e. (e.bytes, (e.start, e.cluster)))
    (λ p. record { bytes = p.0; start = p.1.0; cluster = p.1.1 }) (λ _. refl)

abbrev pub coded_front : Coded Front
coded_front =
    code_by (Bool × (Option ℕ × ℕ)) (coded× coded_bool (coded× (coded_option coded_ℕ) coded_ℕ))
    (λ f. (f.header, (f.after, f.tag))) (λ p. record { header = p.0; after = p.1.0; tag = p.1.1 }) (λ _. refl)

abbrev pub coded_chain : Coded ChainView
coded_chain =
    code_by (Front × (List Entry × List ℕ)) (coded× coded_front (coded× (coded_list coded_entry) (coded_list coded_ℕ)))
    (λ v. (v.front, (v.entries, v.cells)))
    (λ p. record { front = p.0; entries = p.1.0; cells = p.1.1 }) (λ _. refl)

abbrev pub coded_pool : Coded PoolView
coded_pool =
    code_by (ℕ × (ℕ × FinMap nat_cmp ChainView)) (coded× coded_ℕ (coded× coded_ℕ (finmap.code coded_ℕ coded_chain)))
    (λ p. (p.mbufs, (p.clusters, p.chains)))
    (λ q. record { mbufs = q.0; clusters = q.1.0; chains = q.1.1 }) (λ _. refl)
