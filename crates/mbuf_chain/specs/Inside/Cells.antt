-- How the mbufs of a store represent chains, and their invariant (this project's own).
use Rattle.std.specs.Prelude.{◌≡◌, ℕ, zero, suc, ◌+◌, ◌<◌, ◌≤◌, Bool, true, false, not, cond, if◌then◌else◌, ◌&&◌, ◌||◌, List, [], ◌∷◌, length, map, take, drop, slice_index, Option, None, Some, is_some, nat_eq}
use Rattle.std.specs.Ordering.{nat_cmp}
use Rattle.std.specs.FinMap as finmap
use Rattle.std.specs.FinMap.{FinMap}
use Rattle.std.specs.Option.{option_eq}
use Rattle.std.specs.List.{AllByRecursion}
use Rattle.params.specs.declared.TheConstants.{MBUF_HEADER, MCLBYTES, MSIZE, PACKET_START}
use Rattle.mbuf_pool.specs.Cells.{Head, PacketHeader, Buffer, Mbuf, Cluster, over}
use Rattle.mbuf_chain.specs.declared.place.Place.{Place}
use Rattle.mbuf_pool.specs.Store.{StoreView, is_out, mbuf_of, mbuf_head, cluster_of, cluster_count, mbufs_out, with_mbuf, with_cluster, released, IsStore}
use Rattle.mbuf_chain.specs.Chain.{Entry, Front, ChainView, PoolView, chain_of, with_chain}
use Rattle.mbuf_chain.specs.Steps.{with_entry}

module _ {X : Type 0} where
  abbrev pub add_option : FinMap nat_cmp X → ℕ → Option X → FinMap nat_cmp X
  add_option m n None = m
  add_option m n (Some x) = finmap.insert m n x

  -- the map with f n at each number below the bound
  abbrev pub tabulate : ℕ → (ℕ → Option X) → FinMap nat_cmp X
  tabulate zero f = finmap.empty
  tabulate (suc n) f = add_option (tabulate n f) n (f n)

  -- a sum over a list, and over a list of lists
  abbrev pub weigh : (X → ℕ) → List X → ℕ
  weigh f [] = 0
  weigh f (x ∷ xs) = f x + weigh f xs

  abbrev pub weigh_all : (X → ℕ) → List (List X) → ℕ
  weigh_all f [] = 0
  weigh_all f (xs ∷ xss) = weigh f xs + weigh_all f xss

-- 1 at k and 0 elsewhere
abbrev pub is_at : ℕ → ℕ → ℕ
is_at k x = cond (nat_eq x k) 1 0

abbrev pub one : ℕ → ℕ
one x = 1

-- ---- the view of an mbuf
-- the bytes that contain its data: its own, or those of its cluster
abbrev pub place_bytes : StoreView → ℕ → Option ℕ → List ℕ
place_bytes s i None = (mbuf_of s i).bytes
place_bytes s i (Some c) = (cluster_of s c).bytes

-- its entry, given a head
abbrev pub entry_from : StoreView → ℕ → Head → Entry
entry_from s i h =
    record { bytes = take h.len (drop h.start (place_bytes s i h.cluster)); start = h.start; cluster = h.cluster }

abbrev pub entry_at : StoreView → ℕ → Entry
entry_at s i = entry_from s i (mbuf_head s i)

-- 1 if the mbuf refers to cluster c
abbrev pub refers_at : StoreView → ℕ → ℕ → ℕ
refers_at s c i = cond (option_eq nat_eq (mbuf_head s i).cluster (Some c)) 1 0

-- how many bytes the mbuf has
abbrev pub len_at : StoreView → ℕ → ℕ
len_at s i = (mbuf_head s i).len

abbrev pub arrival_of : Option PacketHeader → ℕ
arrival_of None = 0
arrival_of (Some packet) = packet.arrival

-- the packet length, or 0 without a packet header
abbrev pub packet_total : Option PacketHeader → ℕ
packet_total None = 0
packet_total (Some packet) = packet.len

abbrev pub packet_len : Head → ℕ
packet_len h = packet_total h.packet

abbrev pub front_of : Head → Front
front_of h = record { header = is_some h.packet; after = h.next_packet; tag = arrival_of h.packet }

abbrev pub first_of : List ℕ → ℕ
first_of l = slice_index l 0

abbrev pub read_chain : StoreView → List ℕ → ChainView
read_chain s l = record { front = front_of (mbuf_head s (first_of l)); entries = map (entry_at s) l; cells = l }

-- the mbuf or cluster that contains its data
abbrev pub buffer_of : ℕ → Option ℕ → Buffer
buffer_of i None = Mbuf i
buffer_of i (Some c) = Cluster c

-- ---- the map
-- the mbufs from one on, along the links, at most this many
abbrev pub walk : ℕ → StoreView → Option ℕ → List ℕ
walk zero s at = []
walk (suc n) s None = []
walk (suc n) s (Some i) = i ∷ walk n s (mbuf_head s i).next

abbrev pub cells_from : StoreView → Option ℕ → List ℕ
cells_from s at = walk (length s.mbufs) s at

-- whether an mbuf below n that is in use is linked to q
abbrev pub is_pointed : ℕ → StoreView → ℕ → Bool
is_pointed zero s q = false
is_pointed (suc n) s q = (is_out s n && option_eq nat_eq (mbuf_head s n).next (Some q)) || is_pointed n s q

-- the chain that begins at an mbuf, if one does
abbrev pub chain_at : StoreView → ℕ → Option ChainView
chain_at s q =
    cond (is_out s q && not (is_pointed (length s.mbufs) s q)) (Some (read_chain s (cells_from s (Some q)))) None

abbrev pub view_of : StoreView → FinMap nat_cmp ChainView
view_of s = tabulate (length s.mbufs) (chain_at s)

-- the view of a pool over the store
abbrev pub pool_of : StoreView → PoolView
pool_of s = record { mbufs = length s.mbufs; clusters = length s.clusters; chains = view_of s }

-- ---- the invariant of the mbufs of a pool
-- the first offset of an mbuf's data area, and the offset after it
abbrev pub head_room_low : Head → ℕ
head_room_low h = if is_some h.cluster then 0 else (if is_some h.packet then PACKET_START else MBUF_HEADER)

abbrev pub room_high : Head → ℕ
room_high h = if is_some h.cluster then MCLBYTES else MSIZE

-- the data is in the data area
pub record IsFit (h : Head) : Type 0 where
  pub low : head_room_low h ≤ h.start
  pub high : h.start + h.len ≤ room_high h
  pub kind : h.kind ≡ 1

-- the head of the same mbuf with other bytes of its data area
abbrev pub with_segment : Head → ℕ → ℕ → Head
with_segment h start len = record h { start = start; len = len }

-- an mbuf after the first of a chain has no packet header and no next packet
pub record IsFollower (h : Head) : Type 0 where
  pub packet : h.packet ≡ None
  pub after : h.next_packet ≡ None

-- the mbufs are linked in this order, from `at` on, the last to none
abbrev pub IsLinked : StoreView → Option ℕ → List ℕ → Type 0
IsLinked s at [] = at ≡ None
IsLinked s at (c ∷ cs) =
    (at ≡ Some c) × (is_out s c ≡ true) × IsFit (mbuf_head s c) × IsLinked s (mbuf_head s c).next cs

-- the links from an mbuf on lead to an end
abbrev pub LeadsToEnd : StoreView → Option ℕ → Type 0
LeadsToEnd s at = IsLinked s at (cells_from s at)

abbrev pub AllFollow : StoreView → List ℕ → Type 0
AllFollow s l = AllByRecursion (λ k. IsFollower (mbuf_head s k)) l

-- the mbufs of one chain
abbrev pub IsChain : StoreView → List ℕ → Type 0
IsChain s [] = ⊥
IsChain s (c ∷ cs) = IsLinked s (Some c) (c ∷ cs) × AllFollow s cs

-- the packet length in the first mbuf, if it has one, is that of all
abbrev pub IsTotal : StoreView → List ℕ → Type 0
IsTotal s l =
    (packet : PacketHeader) → (mbuf_head s (first_of l)).packet ≡ Some packet → packet.len ≡ weigh (len_at s) l

-- by how much a packet length is wrong for the chain that begins at `first`
abbrev pub off_at : ℕ → ℕ → List ℕ → ℕ
off_at first n l = cond (nat_eq (first_of l) first) n 0

-- the packet length is wrong for the chain that begins at `first`, and right for all others: `added` more and `removed`
-- less would be right
abbrev pub IsTotalBy : StoreView → ℕ → ℕ → ℕ → List ℕ → Type 0
IsTotalBy s first added removed l =
    (packet : PacketHeader) → (mbuf_head s (first_of l)).packet ≡ Some packet
    → packet.len + off_at first added l ≡ weigh (len_at s) l + off_at first removed l

-- 1 if the mbuf is in use
abbrev pub out_at : StoreView → ℕ → ℕ
out_at s k = cond (is_out s k) 1 0

-- the lists are the mbufs of the chains: each mbuf in use is in one of them, once
pub record AreSoundChains (s : StoreView) (lists : List (List ℕ)) : Type 0 where
  pub linked : AllByRecursion (IsChain s) lists
  pub once : (k : ℕ) → weigh_all (is_at k) lists ≡ out_at s k
  pub total : weigh_all one lists ≡ mbufs_out s
  pub counted : (c : ℕ) → cluster_count s c ≡ weigh_all (refers_at s c) lists
  pub store : IsStore s

-- the mbufs in use are those of chains, and the packet lengths are right
abbrev pub IsPool : StoreView → Type 0
IsPool s = (lists : List (List ℕ)) × AreSoundChains s lists × AllByRecursion (IsTotal s) lists

-- a pool, except for the packet length of the chain that begins at `first`
abbrev pub IsOff : StoreView → ℕ → ℕ → ℕ → Type 0
IsOff s first added removed =
    (lists : List (List ℕ)) × AreSoundChains s lists × AllByRecursion (IsTotalBy s first added removed) lists

-- ---- a new mbuf
-- the head of the only mbuf of a chain
abbrev pub only_head : Bool → ℕ → ℕ → Option ℕ → Head
only_head header start len cluster = record {
  next = None;
  next_packet = None;
  len = len;
  start = start;
  kind = 1;
  packet = if header then Some (record { len = len; arrival = 0 }) else None;
  cluster = cluster;
}

-- the head of the first mbuf of a chain, before mbuf `next`: it has `own` bytes, and those after it have `len`
abbrev pub head_before : ℕ → ℕ → ℕ → ℕ → Head
head_before start own next len = record {
  next = Some next;
  next_packet = None;
  len = own;
  start = start;
  kind = 1;
  packet = Some (record { len = own + len; arrival = 0 });
  cluster = None;
}

-- the offset of its data area, if it has no cluster
abbrev pub start_of : Bool → ℕ
start_of header = if header then PACKET_START else MBUF_HEADER

-- mbuf i was free and is now in use, with a head. Its other bytes are unspecified
pub record Taken (s t : StoreView) (i : ℕ) (h : Head) : Type 0 where
  pub below : i < length s.mbufs
  pub fresh : is_out s i ≡ false
  pub bytes : List ℕ
  pub change : t ≡ with_mbuf s i (Some (record { head = h; bytes = bytes }))

-- ---- bytes written
-- the entry of an mbuf after ws is written over the bytes of its buffer, from `start` on
abbrev pub entry_over : StoreView → ℕ → ℕ → List ℕ → Entry
entry_over s x start ws =
    record {
      bytes = take (mbuf_head s x).len
          (drop (mbuf_head s x).start (over (place_bytes s x (mbuf_head s x).cluster) start ws));
      start =
          (mbuf_head s x).start;
      cluster = (mbuf_head s x).cluster;
    }

-- from s to t, bytes were written over those of the mbuf at a place of chain c, which no other mbuf shares
pub record WritesPlace (s t : StoreView) (c : ℕ) (at : Place) (start : ℕ) (ws : List ℕ) : Type 0 where
  pub head : mbuf_head t at.cell ≡ mbuf_head s at.cell
  pub bytes : place_bytes t at.cell (mbuf_head s at.cell).cluster
      ≡ over (place_bytes s at.cell (mbuf_head s at.cell).cluster) start ws
  pub map_is : pool_of t ≡ with_chain (pool_of s) c
      (with_entry (chain_of (pool_of s) c) at.index (entry_over s at.cell start ws))

-- ---- mbufs freed
-- the store with the cluster's count one less, if there is a cluster
abbrev pub released_in : StoreView → Option ℕ → StoreView
released_in s None = s
released_in s (Some c) = with_cluster s c (released (cluster_of s c))

-- from s to t the mbufs of l that aren't in m were freed, with their references
pub record Freed (s t : StoreView) (l m : List ℕ) : Type 0 where
  pub mbufs : length t.mbufs ≡ length s.mbufs
  pub clusters : length t.clusters ≡ length s.clusters
  pub kept : (k : ℕ) → is_out t k ≡ true → mbuf_of t k ≡ mbuf_of s k
  pub bytes : (c : ℕ) → 0 < cluster_count t c → (cluster_of t c).bytes ≡ (cluster_of s c).bytes
  pub once : (k : ℕ) → out_at t k + weigh (is_at k) l ≡ out_at s k + weigh (is_at k) m
  pub total : mbufs_out t + weigh one l ≡ mbufs_out s + weigh one m
  pub counted : (c : ℕ) → cluster_count t c + weigh (refers_at s c) l ≡ cluster_count s c + weigh (refers_at s c) m

-- the mbufs from one on are in use, once each, and their references are counted
pub record IsFreeable (s : StoreView) (at : Option ℕ) : Type 0 where
  pub whole : LeadsToEnd s at
  pub store : IsStore s
  pub once : (k : ℕ) → weigh (is_at k) (cells_from s at) ≤ out_at s k
  pub counted : (c : ℕ) → weigh (refers_at s c) (cells_from s at) ≤ cluster_count s c

-- the last of the mbufs
abbrev pub last_of : List ℕ → ℕ
last_of [] = 0
last_of (x ∷ []) = x
last_of (x ∷ y ∷ ys) = last_of (y ∷ ys)
