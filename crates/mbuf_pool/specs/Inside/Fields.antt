-- What the fields of a store represent, and their invariant (this project's own).
use Rattle.std.specs.Prelude.{◌≡◌, ℕ, ◌+◌, ◌*◌, ◌<◌, ◌==◌, if◌then◌else◌, cond, Option, Some, None, List, [], length, map, take, drop, slice_index}
use Rattle.std.specs.List.{range_with_len}
use Rattle.params.specs.declared.TheConstants.{MSIZE, MCLBYTES}
use Rattle.raw_cells.specs.Cells as cells
use Rattle.raw_cells.specs.Cells.{Cells, IsSized}
use Rattle.mbuf_pool.specs.Inside.FreeList.{times_listed, walk_free, IsFreeList}
use Rattle.mbuf_pool.specs.Inside.Link.{link_in, link_part}
use Rattle.mbuf_pool.specs.Store.{MbufView, ClusterView, StoreView}
use Rattle.mbuf_pool.specs.declared.store.Store.TheInside.{Inside}

-- ---- buffers of the region
abbrev pub mbuf_bytes : Cells → ℕ → List ℕ
mbuf_bytes r i = take MSIZE (drop (MSIZE * i) r.bytes)

abbrev pub cluster_bytes : Cells → ℕ → List ℕ
cluster_bytes r c = take MCLBYTES (drop (MSIZE * length r.heads + MCLBYTES * c) r.bytes)

-- the mbuf linked after a free one, and the cluster linked after a free one
abbrev pub next_mbuf : Cells → ℕ → Option ℕ
next_mbuf r i = (cells.cell_head r i).next

abbrev pub next_cluster : Cells → ℕ → Option ℕ
next_cluster r c = link_in (cells.read r (link_part c))

-- ---- the view of each
abbrev pub mbuf_seen : Cells → List ℕ → ℕ → Option MbufView
mbuf_seen r free i =
    if times_listed i free == 0 then Some (record { head = cells.cell_head r i; bytes = mbuf_bytes r i }) else None

abbrev pub cluster_seen : Cells → List ℕ → ℕ → ClusterView
cluster_seen r counts c =
    record { count = slice_index counts c; bytes = if slice_index counts c == 0 then [] else cluster_bytes r c }

-- a store over the region whose free mbufs are those in the list
abbrev pub store_with : Cells → List ℕ → List ℕ → StoreView
store_with r counts free = record {
  mbufs = map (mbuf_seen r free) (range_with_len 0 (length r.heads));
  clusters = map (cluster_seen r counts) (range_with_len 0 r.clusters);
}

-- a store over the region whose free mbufs are those linked from the first one on
abbrev pub seen_in : Cells → List ℕ → Option ℕ → StoreView
seen_in r counts first_mbuf = store_with r counts (walk_free (next_mbuf r) (length r.heads) first_mbuf)

abbrev pub store_of : Inside → StoreView
store_of s = seen_in s.region s.counts.items s.first_mbuf

-- ---- the invariant
-- the mbufs in one list are free, and so are the clusters in the other, which are those without references
pub record IsSound (r : Cells) (counts : List ℕ) (first_mbuf : Option ℕ) (mbufs : ℕ) (first_cluster : Option ℕ)
    (clusters : ℕ) (free free_clusters : List ℕ) : Type 0 where
  pub sized : IsSized r
  pub mbuf_list : IsFreeList (next_mbuf r) (length r.heads) first_mbuf mbufs free
  pub cluster_list : IsFreeList (next_cluster r) r.clusters first_cluster clusters free_clusters
  pub counts_long : length counts ≡ r.clusters
  pub uncounted : (c : ℕ) → c < r.clusters → times_listed c free_clusters ≡ cond (slice_index counts c == 0) 1 0

abbrev pub IsAccount : Cells → List ℕ → Option ℕ → ℕ → Option ℕ → ℕ → Type 0
IsAccount r counts first_mbuf mbufs first_cluster clusters =
    (free : List ℕ) × (free_clusters : List ℕ)
    × IsSound r counts first_mbuf mbufs first_cluster clusters free free_clusters

abbrev pub IsInside : Inside → Type 0
IsInside s =
    (s.mbufs ≡ length s.region.heads)
    × IsAccount s.region s.counts.items s.first_mbuf s.free_mbufs s.first_cluster s.free_clusters
