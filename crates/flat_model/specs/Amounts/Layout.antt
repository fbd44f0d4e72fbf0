-- Into which buffers bytes are stored, and how many buffers a send needs. The sizes are those of volume 2, chapter 2: a
-- plain mbuf holds 108 bytes, or 100 after a packet header; a cluster holds 2048. From 208 bytes a cluster is used. The
-- layouts are this project's own, after `sosend` (chapter 16) and `m_devget` (chapter 2).
use Rattle.std.specs.Prelude.{ℕ, zero, suc, ◌+◌, ◌-◌, ◌*◌, min, max, Bool, true, false, nat_lt, nat_le, if◌then◌else◌, List, [], ◌∷◌, length, drop, sum_by, count_by, filter_map, Option, Some, None}
use Rattle.params.specs.declared.TheConstants.{MLEN, MHLEN, MINCLSIZE, MCLBYTES, CLUSTER_LEADING_SPACE, IP_HEADER, UDP_HEADER, IP_UDP_HEADERS}
use Rattle.flat_model.specs.Amounts.Weight.{Weight}
use Rattle.flat_model.specs.Fragments.Cuts.{Part, cuts}
use Rattle.flat_model.specs.declared.need.Need as declared

-- an mbuf, by the number of bytes in it: in its own data area or in a cluster
pub data Room : Type 0 where
  Plain : (size : ℕ) → Room
  Cluster : (size : ℕ) → Room

-- the number of bytes in it
abbrev pub size_of : Room → ℕ
size_of (Plain n) = n
size_of (Cluster n) = n

-- whether it refers to a cluster
abbrev pub is_cluster : Room → Bool
is_cluster (Plain n) = false
is_cluster (Cluster n) = true

-- The next mbuf for the remaining bytes: a cluster if they are 208 or more. A cluster has space for `large` bytes here,
-- a plain mbuf for `small`.
abbrev pub next_room : ℕ → ℕ → ℕ → Room
next_room large small left = if nat_le MINCLSIZE left then Cluster (min left large) else Plain (min left small)

-- The mbufs for the remaining bytes, at most `most` of them. `large` and `small` are the capacities of the first one;
-- all others hold the full 2048 and 108 bytes.
unfoldable pub filled : ℕ → ℕ → ℕ → ℕ → List Room
filled zero large small left = []
filled (suc most) large small zero = []
filled (suc most) large small (suc less) =
    let left : ℕ = suc less in
    let room : Room = next_room large small left in
    room ∷ filled most MCLBYTES MLEN (left - size_of room)

-- an empty string takes an mbuf too
abbrev pub or_empty : List Room → List Room
or_empty [] = Plain 0 ∷ []
or_empty (room ∷ rooms) = room ∷ rooms

-- The mbufs for n bytes to send. The first cluster leaves 56 bytes free before the data, and the first mbuf of the
-- chain has a packet header.
abbrev pub user : ℕ → List Room
user n = or_empty (filled n (MCLBYTES - CLUSTER_LEADING_SPACE) MHLEN n)

-- The same with the 28 bytes of the IP and UDP headers. Up to 72 bytes of data share one mbuf with them; otherwise the
-- headers are in a separate mbuf before the data.
abbrev pub sent : ℕ → List Room
sent n = if nat_le n (MHLEN - IP_UDP_HEADERS) then Plain (IP_UDP_HEADERS + n) ∷ [] else Plain IP_UDP_HEADERS ∷ user n

-- the mbufs for a packet of n bytes that arrives
abbrev pub wire : ℕ → List Room
wire n = or_empty (filled n MCLBYTES MHLEN n)

-- the number of bytes in an mbuf, and the cluster to which it refers, if any
pub record LayoutEntry : Type 0 where
  pub size : ℕ
  pub cluster : Option ℕ

-- the mbufs of a layout with the given clusters, in order
unfoldable pub entries_on : List ℕ → List Room → List LayoutEntry
entries_on clusters [] = []
entries_on clusters (Plain n ∷ rooms) = record { size = n; cluster = None } ∷ entries_on clusters rooms
entries_on [] (Cluster n ∷ rooms) = record { size = n; cluster = None } ∷ entries_on [] rooms
entries_on (c ∷ clusters) (Cluster n ∷ rooms) = record { size = n; cluster = Some c } ∷ entries_on clusters rooms

-- the weight of a chain of such mbufs
abbrev pub weight_of : List LayoutEntry → Weight
weight_of entries = record { mbufs = length entries; bag = filter_map (λ entry. entry.cluster) entries }

-- The elements that share a byte with the range from a up to b. `size` gives the number of bytes of an element, and the
-- first one begins at `at`.
unfoldable pub meets_from : {X : Type 0} → (X → ℕ) → ℕ → List X → ℕ → ℕ → List X
meets_from size at [] a b = []
meets_from size at (x ∷ xs) a b =
    let after : ℕ = at + size x in
    let later = meets_from size after xs a b in
    if nat_lt (max at a) (min after b) then x ∷ later else later

-- the mbufs of a layout that share a byte with the range from a up to b
abbrev pub meets : List Room → ℕ → ℕ → List Room
meets rooms a b = meets_from size_of 0 rooms a b

-- the same for mbufs whose clusters are known
abbrev pub entries_met : List LayoutEntry → ℕ → ℕ → List LayoutEntry
entries_met entries a b = meets_from (λ entry. entry.size) 0 entries a b

-- how many free buffers an operation takes
abbrev pub Need : Type 0
Need = declared.Need

-- what a layout takes
abbrev pub need_of : List Room → Need
need_of rooms = record { mbufs = length rooms; clusters = count_by is_cluster rooms }

-- What a later fragment takes: one mbuf for its header, and one for each mbuf that contains bytes of it. The part's
-- offsets count from the end of the IP header, which is 20 bytes long. Clusters are shared.
abbrev pub need_of_part : List Room → Part → ℕ
need_of_part rooms p = 1 + length (meets rooms (IP_HEADER + p.offset) (IP_HEADER + p.offset + p.size))

-- what a send of n bytes takes on a link with this MTU: the buffers of the datagram, and the mbufs of its later
-- fragments
abbrev pub need : ℕ → ℕ → Need
need n mtu = record {
  mbufs = length (sent n) + sum_by (need_of_part (sent n)) (drop 1 (cuts (n + UDP_HEADER) mtu));
  clusters = count_by is_cluster (sent n);
}

-- what a send of n bytes to the broadcast address takes: the packet, and a copy of it that shares its clusters
abbrev pub need_bcast : ℕ → Need
need_bcast n = record { mbufs = 2 * length (sent n); clusters = count_by is_cluster (sent n) }
