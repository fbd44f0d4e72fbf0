-- What contracts see of a store: the mbufs and clusters that are in use (this project's own; mbufs, clusters and their
-- counts are those of TCP/IP Illustrated, volume 2, chapter 2).
use Rattle.std.specs.Prelude.{◌≡◌, ℕ, ◌+◌, ◌-◌, ◌<◌, ◌≤◌, ◌==◌, ◌⊎◌, if◌then◌else◌, Bool, IsTrue, is_some, is_none, unwrap_or, Some, None, Option, List, [], length, map, take, drop, replicate, count_by, slice_index_or, slice_set, slice_get}
use Rattle.std.specs.List.{range_with_len}
use Rattle.params.specs.declared.TheConstants.{MSIZE, MCLBYTES, MAX_MBUFS, MAX_CLUSTERS}
use Rattle.raw_cells.specs.Over.{over}
use Rattle.raw_cells.specs.Cells.{head_size}
use Rattle.raw_cells.specs.declared.head.Head.{Head}
use Rattle.raw_cells.specs.declared.part.Part.{Part}
use Rattle.raw_cells.specs.declared.part.Buffer.{Buffer}
use Rattle.raw_cells.specs.declared.part.Buffer.TheVariants.{Mbuf, Cluster}
use Rattle.mbuf_pool.specs.declared.sizes.Sizes.{Sizes}

-- an mbuf in use: its head, and its 128 bytes, including those of the head
pub record MbufView : Type 0 where
  pub head : Head
  pub bytes : List ℕ

-- a cluster: its reference count, and its 2048 bytes, which aren't visible while it is free
pub record ClusterView : Type 0 where
  pub count : ℕ
  pub bytes : List ℕ

-- an mbuf is free if its entry is `None`, a cluster if its count is 0
pub record StoreView : Type 0 where
  pub mbufs : List (Option MbufView)
  pub clusters : List ClusterView

-- ---- one mbuf, one cluster
-- the head of a newly allocated mbuf
abbrev pub new_head : Head
new_head = record { next = None; next_packet = None; len = 0; start = 0; kind = 0; packet = None; cluster = None }

abbrev pub no_mbuf : MbufView
no_mbuf = record { head = new_head; bytes = [] }

abbrev pub free_cluster : ClusterView
free_cluster = record { count = 0; bytes = [] }

-- mbuf i is in use
abbrev pub is_out : StoreView → ℕ → Bool
is_out s i = is_some (slice_index_or s.mbufs i None)

abbrev pub mbuf_of : StoreView → ℕ → MbufView
mbuf_of s i = unwrap_or (slice_index_or s.mbufs i None) no_mbuf

abbrev pub mbuf_head : StoreView → ℕ → Head
mbuf_head s i = (mbuf_of s i).head

abbrev pub cluster_of : StoreView → ℕ → ClusterView
cluster_of s c = slice_index_or s.clusters c free_cluster

-- the reference count of cluster c
abbrev pub cluster_count : StoreView → ℕ → ℕ
cluster_count s c = (cluster_of s c).count

-- the count of each cluster, in order
abbrev pub counts_of : StoreView → List ℕ
counts_of s = map (cluster_count s) (range_with_len 0 (length s.clusters))

-- ---- how many are free
abbrev pub free_mbufs : StoreView → ℕ
free_mbufs s = count_by is_none s.mbufs

abbrev pub mbufs_out : StoreView → ℕ
mbufs_out s = count_by is_some s.mbufs

abbrev pub free_clusters : StoreView → ℕ
free_clusters s = count_by (λ c. c.count == 0) s.clusters

-- ---- changes
-- s with m as mbuf i
abbrev pub with_mbuf : StoreView → ℕ → Option MbufView → StoreView
with_mbuf s i m = record s { mbufs = slice_set s.mbufs i m }

-- s with v as cluster c
abbrev pub with_cluster : StoreView → ℕ → ClusterView → StoreView
with_cluster s c v = record s { clusters = slice_set s.clusters c v }

-- the cluster has one more reference
abbrev pub held_once_more : ClusterView → ClusterView
held_once_more v = record v { count = v.count + 1 }

-- the cluster has one reference less
abbrev pub released : ClusterView → ClusterView
released v = if v.count == 1 then free_cluster else record v { count = v.count - 1 }

-- a store after boot: everything is free
abbrev pub free_store : Sizes → StoreView
free_store z = record { mbufs = replicate z.mbufs None; clusters = replicate z.clusters free_cluster }

-- mbuf i was free and is now in use, with this head; its other bytes are unspecified
pub record TakesWith (old new : StoreView) (i : ℕ) (h : Head) : Type 0 where
  pub was_free : slice_get old.mbufs i ≡ Some None
  pub bytes : List ℕ
  pub long : length bytes ≡ MSIZE
  pub change : new ≡ with_mbuf old i (Some (record { head = h; bytes = bytes }))

-- the same with a new head
abbrev pub TakesMbuf : StoreView → StoreView → ℕ → Type 0
TakesMbuf old new i = TakesWith old new i new_head

-- cluster c was free and now has the count 1; its bytes are unspecified
pub record TakesCluster (old new : StoreView) (c : ℕ) : Type 0 where
  pub was_free : slice_get old.clusters c ≡ Some free_cluster
  pub bytes : List ℕ
  pub long : length bytes ≡ MCLBYTES
  pub change : new ≡ with_cluster old c (record { count = 1; bytes = bytes })

-- mbuf i has a new head, which takes some bytes at the beginning of the mbuf; its other bytes are unchanged
abbrev pub SetsHead : StoreView → StoreView → ℕ → Head → Type 0
SetsHead old new i h =
    (b : List ℕ) × (length b ≡ head_size h)
    × (new ≡ with_mbuf old i (Some (record { head = h; bytes = over (mbuf_of old i).bytes 0 b })))

-- ---- bytes
abbrev pub bytes_in : StoreView → Buffer → List ℕ
bytes_in s (Mbuf i) = (mbuf_of s i).bytes
bytes_in s (Cluster c) = (cluster_of s c).bytes

-- s with bs as the bytes of a buffer in use
abbrev pub with_bytes : StoreView → Buffer → List ℕ → StoreView
with_bytes s (Mbuf i) bs = with_mbuf s i (Some (record { head = mbuf_head s i; bytes = bs }))
with_bytes s (Cluster c) bs = with_cluster s c (record { count = cluster_count s c; bytes = bs })

-- the n bytes from offset `at` are in a cluster in use, or after the head of an mbuf in use that refers to no cluster
abbrev pub IsRoom : StoreView → Buffer → ℕ → ℕ → Type 0
IsRoom s (Mbuf i) at n =
    IsTrue (is_out s i) × ((mbuf_head s i).cluster ≡ None) × (head_size (mbuf_head s i) ≤ at) × (at + n ≤ MSIZE)
IsRoom s (Cluster c) at n = (0 < cluster_count s c) × (at + n ≤ MCLBYTES)

abbrev pub IsPart : StoreView → Part → Type 0
IsPart s p = IsRoom s p.buffer p.start p.len

-- the bytes of a part
abbrev pub stored_part : StoreView → Part → List ℕ
stored_part s p = take p.len (drop p.start (bytes_in s p.buffer))

-- s with ws as the bytes of a part. Bytes of ws that don't fit are dropped
abbrev pub write : StoreView → Part → List ℕ → StoreView
write s p ws = with_bytes s p.buffer (over (bytes_in s p.buffer) p.start (take p.len ws))

-- ---- what is true of every store
pub record IsStore (s : StoreView) : Type 0 where
  pub mbufs : (0 < length s.mbufs) × (length s.mbufs ≤ MAX_MBUFS)
  pub clusters : length s.clusters ≤ MAX_CLUSTERS
  pub mbuf_bytes : (i : ℕ) → IsTrue (is_out s i) → length (mbuf_of s i).bytes ≡ MSIZE
  pub cluster_bytes : (c : ℕ) → 0 < cluster_count s c → length (cluster_of s c).bytes ≡ MCLBYTES

-- ---- sizes
-- a store can't have these sizes
abbrev pub IsBad : Sizes → Type 0
IsBad z = (z.mbufs ≡ 0) ⊎ (MAX_MBUFS < z.mbufs) ⊎ (MAX_CLUSTERS < z.clusters)
