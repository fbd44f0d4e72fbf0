-- The layout of waiting fragments and of returned datagrams: their mbufs, the offsets of the bytes, and the clusters to
-- which they refer (`ip_reass` of TCP/IP Illustrated, volume 2, chapter 10, with `m_pullup`, `m_adj` and `m_cat` of
-- chapter 2).
use Rattle.std.specs.Prelude.{◌≡◌, ◌⊎◌, ℕ, ◌-◌, Bool, true, is_some, ◌==◌, ◌&&◌, if◌then◌else◌, List, [], ◌∷◌, map, slice_index_or, slice_set, remove}
use Rattle.params.specs.declared.TheConstants.{IP_HEADER}
use Rattle.flat_model.specs.Amounts.Choice.{Choice}
use Rattle.flat_model.specs.Amounts.Weight.{Weight, ◌⊕◌}
use Rattle.flat_model.specs.Fragments.Overlay.{is_covered}
use Rattle.flat_model.specs.Machine.Arrival.{counts_fragment, is_bad_fragment, JoinsAs, TestsAs, Ended, Saying}
use Rattle.flat_model.specs.Machine.Ledger.{exact_ledger}
use Rattle.flat_model.specs.Machine.State.{State, Key, ends}
use Rattle.flat_model.specs.declared.counters.Why.{Why}
use Rattle.flat_model.specs.declared.counters.Why.TheVariants.{BadFragment, FragmentDropped, NoBufs}
use Rattle.mbuf_chain.specs.Chain.{ChainView, PoolView, chain_of, entry_of}
use Rattle.ledger.specs.Accounts.{entries_weight}
use Rattle.ip_out.specs.declared.head.IpHead.{IpHead}
use Rattle.ip_reass.specs.Arrivals.{carried_entries, flat_head, key_in}
use Rattle.ip_reass.specs.Fragments.{QueuedFragment, queued, inserted_into, joined_fragments, fragment_of, map_of}
use Rattle.ip_reass.specs.declared.datagram.Datagram.{Datagram}
use Rattle.ip_reass.specs.declared.arrival.Arrival.{Arrival}
use Rattle.ip_reass.specs.declared.arrival.Arrival.TheVariants.{Kept, Whole, Dropped}

-- the fragments of a datagram, with their mbufs
pub record KeyedQueue : Type 0 where
  pub key : Key
  pub fragments : List QueuedFragment

abbrev pub queue_of : PoolView → Datagram → KeyedQueue
queue_of p d = record { key = d.key; fragments = queued p d.fragments }

-- those of all datagrams, oldest first
abbrev pub queues : PoolView → List Datagram → List KeyedQueue
queues p ds = map (queue_of p) ds

-- the queue has this key
abbrev pub has_queue_key : Key → KeyedQueue → Bool
has_queue_key k q = (q.key.source == k.source) && (q.key.destination == k.destination) && (q.key.id == k.id)
    && (q.key.protocol == k.protocol)

-- a fragment put into a queue
abbrev pub with_inserted : QueuedFragment → KeyedQueue → KeyedQueue
with_inserted f q = record { key = q.key; fragments = inserted_into f q.fragments }

-- a fragment put into the queue with its key, or into a new one after the others
abbrev pub inserted_under : Key → QueuedFragment → List KeyedQueue → List KeyedQueue
inserted_under k f [] = with_inserted f (record { key = k; fragments = [] }) ∷ []
inserted_under k f (q ∷ qs) = if has_queue_key k q then with_inserted f q ∷ qs else q ∷ inserted_under k f qs

-- the fragments with a key
abbrev pub under : Key → List KeyedQueue → List QueuedFragment
under k [] = []
under k (q ∷ qs) = if has_queue_key k q then q.fragments else under k qs

-- the queues without the one that has a key
abbrev pub without_key : Key → List KeyedQueue → List KeyedQueue
without_key k [] = []
without_key k (q ∷ qs) = if has_queue_key k q then qs else q ∷ without_key k qs

-- what a packet carries as a fragment: its header is pulled up if its first mbuf is a cluster, and cut off
abbrev pub fragment_carried : ChainView → IpHead → QueuedFragment
fragment_carried v h = record { offset = h.offset; more = h.more; entries = carried_entries v }

-- the queues after an arrival of the fragment f, if the queues `qs` waited before
abbrev pub Leaves : Key → QueuedFragment → List KeyedQueue → PoolView → Arrival → List KeyedQueue → Type 0
Leaves k f qs q Kept now = now ≡ inserted_under k f qs
Leaves k f qs q (Whole c h) now =
    ((chain_of q c).entries ≡ joined_fragments (inserted_into f (under k qs))) × (now ≡ without_key k qs)
Leaves k f qs q (Dropped why) now = now ≡ qs

-- what waited in p and ds waits in q and es, or all of it was dropped because no mbuf was free
abbrev pub WaitOrNone : List KeyedQueue → List KeyedQueue → Type 0
WaitOrNone before now = (now ≡ before) ⊎ (now ≡ [])

-- From p and ds to q and es the fragment f arrived under the key k: it was put among the queues that waited, or among
-- none if all were dropped because no mbuf was free.
pub record HasLayout (p : PoolView) (ds : List Datagram) (k : Key) (f : QueuedFragment) (result : Arrival)
    (q : PoolView) (es : List Datagram) : Type 0 where
  pub waited : List KeyedQueue
  pub before : WaitOrNone (queues p ds) waited
  pub leaves : Leaves k f waited q result (queues q es)

-- ---- the step of the flat machine

-- The header of a packet in chain v is pulled up if its first mbuf is a cluster, which takes an mbuf. This is done
-- before the key is looked up.
abbrev pub PullsUpHeader : Saying → ChainView → Weight → State → State → (State → Type 0) → Type 0
PullsUpHeader Says v held old new Then =
    Choice (is_some (entry_of v 0).cluster)
    (TestsAs exact_ledger old (held ⊕ entries_weight v.entries) 1 (Says (Ended NoBufs) new) Then) (Then old)

-- The packet in chain v arrives as a fragment, whatever its layout: the flat machine's `FragmentArrives`, with the
-- chain's own mbufs instead of those that follow from the packet's origin.
abbrev pub ChainArrives : Saying → Weight → IpHead → ChainView → State → State → Type 0
ChainArrives Says held h v old new =
    Choice (is_bad_fragment (flat_head h) (h.total - IP_HEADER))
    (Says (Ended BadFragment) new (ends BadFragment old))
    (PullsUpHeader Says v held (counts_fragment old) new (λ mid.
    JoinsAs exact_ledger Says held (key_in h) (fragment_of (fragment_carried v h)) mid new))

-- ---- the cause of a drop

-- Why the fragment f was dropped, if those in `held` waited under its key: they have all its bytes, or no mbuf was
-- free, and nothing waits any more.
abbrev pub cause_among : List QueuedFragment → QueuedFragment → Why
cause_among held f = if is_covered (map_of (map fragment_of held)) (fragment_of f) then FragmentDropped else NoBufs

-- the same for a packet, which may also be a malformed fragment: the first cause that applies
abbrev pub cause_of : ChainView → IpHead → List QueuedFragment → Why
cause_of v h held =
    if is_bad_fragment (flat_head h) (h.total - IP_HEADER) then BadFragment else cause_among held (fragment_carried v h)

-- if the result is a drop, this is its cause
abbrev pub HasCause : Why → Arrival → Type 0
HasCause cause Kept = Unit {0}
HasCause cause (Whole c h) = Unit {0}
HasCause cause (Dropped why) = why ≡ cause

-- ---- by place
abbrev pub no_queue : KeyedQueue
no_queue = record { key = record { source = 0; destination = 0; id = 0; protocol = 0 }; fragments = [] }

abbrev pub keyed_queue_at : List KeyedQueue → ℕ → KeyedQueue
keyed_queue_at qs i = slice_index_or qs i no_queue

-- the queues after a fragment was put into the queue at a place
abbrev pub LeavesAt : ℕ → QueuedFragment → List KeyedQueue → PoolView → Arrival → List KeyedQueue → Type 0
LeavesAt i f qs q Kept now = now ≡ slice_set qs i (with_inserted f (keyed_queue_at qs i))
LeavesAt i f qs q (Whole c h) now =
    ((chain_of q c).entries ≡ joined_fragments (inserted_into f (keyed_queue_at qs i).fragments))
    × (now ≡ remove qs i)
LeavesAt i f qs q (Dropped why) now = (now ≡ qs)
    × (is_covered (map_of (map fragment_of (keyed_queue_at qs i).fragments)) (fragment_of f) ≡ true)
