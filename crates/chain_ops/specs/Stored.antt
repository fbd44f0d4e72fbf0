-- Bytes put into new mbufs (sosend, chapter 16, and m_devget, chapter 2 of TCP/IP Illustrated, volume 2): the layouts
-- are the flat machine's.
use Rattle.std.specs.Prelude.{◌≡◌, ℕ, ◌<◌, ◌≤◌, ◌-◌, Bool, true, false, ◌⊎◌, List, [], ◌∷◌, length, take, drop, count_by, Option, Some, None, if◌then◌else◌}
use Rattle.std.specs.List.{AllByRecursion}
use Rattle.params.specs.declared.TheConstants.{MBUF_HEADER, MHLEN, MCLBYTES, MINCLSIZE}
use Rattle.mbuf_chain.specs.Chain.{Entry, PoolView, alone, references, free_clusters}
use Rattle.mbuf_chain.specs.Owners.{times_among}
use Rattle.flat_model.specs.Amounts.Layout.{Room, Plain, Cluster, filled, or_empty, is_cluster}
use Rattle.chain_ops.specs.Makes.{Makes, LacksMbufs, HasMbufs}
use Rattle.chain_ops.specs.Rooms.{room_low, at_end}
use Rattle.chain_ops.specs.declared.store.Space.{Space}
use Rattle.chain_ops.specs.declared.store.Space.TheVariants.{InMbuf, InCluster, InMore}

-- free clusters of the pool (nothing refers to them), each listed once
pub record AreFree (p : PoolView) (cs : List ℕ) : Type 0 where
  pub exist : AllByRecursion (λ c. c < p.clusters) cs
  pub free : AllByRecursion (λ c. references p c ≡ 0) cs
  pub once : (c : ℕ) → times_among c cs ≤ 1

-- the bytes in the mbufs of these rooms that follow a first one
abbrev pub stored : List ℕ → List Room → List ℕ → List Entry
stored cs [] xs = []
stored cs (Plain n ∷ rooms) xs =
    record { bytes = take n xs; start = MBUF_HEADER; cluster = None } ∷ stored cs rooms (drop n xs)
stored [] (Cluster n ∷ rooms) xs = []
stored (c ∷ cs) (Cluster n ∷ rooms) xs =
    record { bytes = take n xs; start = 0; cluster = Some c } ∷ stored cs rooms (drop n xs)

-- the offset of the bytes of a first plain mbuf: at the end, or at the front
abbrev pub first_start : Bool → ℕ → ℕ
first_start ends n = if ends then at_end true n else room_low true

-- the bytes in the mbufs of these rooms; in a first cluster they begin at `large`
abbrev pub stored_first : ℕ → Bool → List ℕ → List Room → List ℕ → List Entry
stored_first large ends cs [] xs = []
stored_first large ends cs (Plain n ∷ rooms) xs =
    record { bytes = take n xs; start = first_start ends n; cluster = None } ∷ stored cs rooms (drop n xs)
stored_first large ends [] (Cluster n ∷ rooms) xs = []
stored_first large ends (c ∷ cs) (Cluster n ∷ rooms) xs =
    record { bytes = take n xs; start = large; cluster = Some c } ∷ stored cs rooms (drop n xs)

-- the rooms for n bytes, if bytes in a first cluster begin at `large`: 56 (CLUSTER_LEADING_SPACE) for `user`, 0 for
-- `wire`
abbrev pub rooms_for : ℕ → ℕ → List Room
rooms_for large n = or_empty (filled n (MCLBYTES - large) MHLEN n)

-- where n bytes are stored, if bytes in a first cluster begin at `large`
abbrev pub IsStoredIn : ℕ → ℕ → Space → Type 0
IsStoredIn large n InMbuf = (n ≤ MHLEN) × (rooms_for large n ≡ Plain n ∷ [])
IsStoredIn large n InCluster = (MINCLSIZE ≤ n) × (n ≤ MCLBYTES - large) × (rooms_for large n ≡ Cluster n ∷ [])
IsStoredIn large n InMore = (MHLEN < n) × (MINCLSIZE ≤ n → MCLBYTES - large < n)

-- from p to q, chain d was made of these bytes, with a packet header, in the mbufs of these rooms; which free clusters
-- it has is left open
abbrev pub Stores : PoolView → PoolView → ℕ → ℕ → Bool → List Room → List ℕ → Type 0
Stores p q d large ends rooms xs =
    (cs : List ℕ) × AreFree p cs × (length cs ≡ count_by is_cluster rooms)
    × Makes p q d (alone true) (stored_first large ends cs rooms xs)

-- more buffers are needed than are free, or not
abbrev pub Lacks : PoolView → List Room → Type 0
Lacks p rooms = LacksMbufs p (length rooms) ⊎ (free_clusters p < count_by is_cluster rooms)

abbrev pub Has : PoolView → List Room → Type 0
Has p rooms = HasMbufs p (length rooms) × (count_by is_cluster rooms ≤ free_clusters p)

-- the cluster that a new mbuf takes, if it takes one
abbrev pub IsClusterTaken : PoolView → Bool → Option ℕ → Type 0
IsClusterTaken p true None = ⊥
IsClusterTaken p true (Some c) = (c < p.clusters) × (references p c ≡ 0)
IsClusterTaken p false None = Unit {0}
IsClusterTaken p false (Some c) = ⊥
