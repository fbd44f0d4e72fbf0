-- The fragments of an unfinished datagram, in order of offset and without overlap, and the flat machine's view of
-- them (TCP/IP Illustrated, volume 2, chapter 10).
use Rattle.std.specs.Prelude.{ℕ, ◌+◌, ◌-◌, ◌/◌, ◌%◌, ◌<◌, ◌≤◌, Bool, ◌&&◌, ◌==◌, nat_le, nat_lt, if◌then◌else◌, List, [], ◌∷◌, length, slice_index, map, None, Some}
use Rattle.params.specs.declared.TheConstants.{IP_MAX_DATA}
use Rattle.chain_ops.specs.Trims.{without_first}
use Rattle.chain_ops.specs.Joins.{cat}
use Rattle.flat_model.specs.Fragments.Overlay.{Piece, Held, Map, Fragment}
use Rattle.mbuf_chain.specs.Chain.{Entry, PoolView, flat_bytes}
use Rattle.mbuf_chain.specs.Train.{QueuedPacket, TrainView, queued_packets, IsHeld}
use Rattle.ledger.specs.Accounts.{entries_weight}

-- ---- a queue of fragments

-- the rest of a fragment in a queue: its offset, whether more fragments follow, and its mbufs
pub record QueuedFragment : Type 0 where
  pub offset : ℕ
  pub more : Bool
  pub entries : List Entry

-- the flat machine's fragment
abbrev pub fragment_of : QueuedFragment → Fragment
fragment_of q =
    record { offset = q.offset; bytes = flat_bytes q.entries; more = q.more; weight = entries_weight q.entries }

-- a chain in a train of fragments: its tag is the offset times 2, plus 1 if more fragments follow
abbrev pub queued_of : QueuedPacket → QueuedFragment
queued_of queued_packet = record {
  offset = queued_packet.tag / 2;
  more = queued_packet.tag % 2 == 1;
  entries = queued_packet.entries;
}

-- the fragments of a train, in order
abbrev pub queued : PoolView → TrainView → List QueuedFragment
queued p t = map queued_of (queued_packets p t)

-- the first offset after a queued fragment
abbrev pub queued_end : QueuedFragment → ℕ
queued_end q = q.offset + length (flat_bytes q.entries)

-- a queued fragment without its first n bytes: `m_adj` keeps all its mbufs
abbrev pub cut : ℕ → QueuedFragment → QueuedFragment
cut n q = record { offset = q.offset + n; more = q.more; entries = without_first n q.entries }

-- the rest of a queue from offset e on
abbrev pub cut_to : ℕ → List QueuedFragment → List QueuedFragment
cut_to e [] = []
cut_to e (q ∷ qs) = if nat_le e q.offset then q ∷ qs else if nat_le (queued_end q) e then cut_to e qs
    else cut (e - q.offset) q ∷ qs

-- A fragment put into a queue, after fragments that end at `end`. Those that begin no later keep all their bytes, and
-- the new one loses the bytes that they have; those that begin later lose the bytes that the new one has.
abbrev pub inserted_after : ℕ → QueuedFragment → List QueuedFragment → List QueuedFragment
inserted_after end f [] = cut (end - f.offset) f ∷ []
inserted_after end f (q ∷ qs) =
    if nat_le q.offset f.offset
    then q ∷ inserted_after (queued_end q) f qs
    else cut (end - f.offset) f ∷ cut_to (queued_end f) (q ∷ qs)

abbrev pub inserted_into : QueuedFragment → List QueuedFragment → List QueuedFragment
inserted_into f qs = inserted_after 0 f qs

-- entries, and the queued fragments joined after them one after another (`m_cat`)
abbrev pub joined_after : List Entry → List QueuedFragment → List Entry
joined_after es [] = es
joined_after es (q ∷ qs) = joined_after (cat es q.entries) qs

-- the mbufs of the queue's fragments, joined in order
abbrev pub joined_fragments : List QueuedFragment → List Entry
joined_fragments [] = []
joined_fragments (q ∷ qs) = joined_after q.entries qs

-- ---- the flat machine's view of it

-- the fragments of a train
abbrev pub fragment_in : QueuedPacket → Fragment
fragment_in queued_packet = fragment_of (queued_of queued_packet)

abbrev pub fragments : PoolView → TrainView → List Fragment
fragments p t = map fragment_in (queued_packets p t)

-- the first offset after a fragment
abbrev pub end_of_fragment : Fragment → ℕ
end_of_fragment f = f.offset + length f.bytes

-- the flat machine's piece
abbrev pub piece_of : Fragment → Piece
piece_of f = record { first = f.offset; more = f.more; weight = f.weight }

-- what a fragment has at an offset
abbrev pub own : Fragment → ℕ → Held
own f k = record { byte = slice_index f.bytes (k - f.offset); piece = piece_of f }

-- the byte and the piece that are known at an offset
abbrev pub map_of : List Fragment → Map
map_of [] k = None
map_of (f ∷ fs) k = if nat_le f.offset k && nat_lt k (end_of_fragment f) then Some (own f k) else map_of fs k

-- ---- in order, without overlap

-- in order, without overlap, none empty, none before low
abbrev pub Apart : ℕ → List Fragment → Type 0
Apart low [] = Unit {0}
Apart low (f ∷ fs) = (low ≤ f.offset) × (0 < length f.bytes) × Apart (end_of_fragment f) fs

-- how many bytes they have together
abbrev pub bytes_held : List Fragment → ℕ
bytes_held [] = 0
bytes_held (f ∷ fs) = length f.bytes + bytes_held fs

-- none ends beyond n
abbrev pub AllEnd : ℕ → List Fragment → Type 0
AllEnd n [] = Unit {0}
AllEnd n (f ∷ fs) = (end_of_fragment f ≤ n) × AllEnd n fs

-- a train of fragments in order and without overlap, none beyond the longest datagram
pub record IsQueue (p : PoolView) (t : TrainView) : Type 0 where
  pub held : IsHeld p t
  pub apart : Apart 0 (fragments p t)
  pub small : AllEnd IP_MAX_DATA (fragments p t)
