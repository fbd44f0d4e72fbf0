-- Trains: chains linked one after another through their first mbufs, each with a tag (TCP/IP Illustrated, volume 2,
-- chapter 2: mbuf chains linked by m_nextpkt; the tag is this project's own).
use Rattle.std.specs.Prelude.{◌≡◌, ℕ, zero, suc, ◌+◌, ◌<◌, true, List, [], ◌∷◌, length, map, insert, remove, slice_get, slice_index_or, Option, None, Some}
use Rattle.mbuf_chain.specs.Chain.{Entry, PoolView, chain_of, alone}
use Rattle.mbuf_chain.specs.declared.queued_place.QueuedPlace.{QueuedPlace}
use Rattle.mbuf_chain.specs.Owners.{times_among, IsOwned, Moves}

-- the numbers of the first chain and of the last, and how many there are
pub record TrainView : Type 0 where
  pub first : Option ℕ
  pub last : Option ℕ
  pub len : ℕ

-- a chain of a train: its number, its contents, and its tag
pub record QueuedPacket : Type 0 where
  pub number : ℕ
  pub entries : List Entry
  pub tag : ℕ

abbrev pub no_queued_packet : QueuedPacket
no_queued_packet = record { number = 0; entries = []; tag = 0 }

-- the numbers from one on, each linked from the one before, at most this many
abbrev pub follow : PoolView → ℕ → Option ℕ → List ℕ
follow p zero at = []
follow p (suc n) None = []
follow p (suc n) (Some c) = c ∷ follow p n (chain_of p c).front.after

-- the numbers of the train's chains, in order
abbrev pub numbers : PoolView → TrainView → List ℕ
numbers p t = follow p t.len t.first

abbrev pub queued_packet_of : PoolView → ℕ → QueuedPacket
queued_packet_of p c = record { number = c; entries = (chain_of p c).entries; tag = (chain_of p c).front.tag }

-- the train's chains, in order
abbrev pub queued_packets : PoolView → TrainView → List QueuedPacket
queued_packets p t = map (queued_packet_of p) (numbers p t)

-- the queued packet at a place
abbrev pub queued_packet_at : PoolView → TrainView → ℕ → QueuedPacket
queued_packet_at p t i = slice_index_or (queued_packets p t) i no_queued_packet

-- the place is that of the train's chain `index`, whose number is `number`
pub record IsQueuedPlace (p : PoolView) (t : TrainView) (at : QueuedPlace) : Type 0 where
  pub within : at.index < t.len
  pub number : slice_get (numbers p t) at.index ≡ Some at.number

-- the last of the numbers
abbrev pub last_number : List ℕ → Option ℕ
last_number [] = None
last_number (x ∷ []) = Some x
last_number (x ∷ y ∷ ys) = last_number (y ∷ ys)

-- the train and the pool fit together: its chains are live, once each, and have a packet header, and no chain follows
-- the last
pub record IsHeld (p : PoolView) (t : TrainView) : Type 0 where
  pub owned : IsOwned p (numbers p t)
  pub headed : (k : ℕ) → 0 < times_among k (numbers p t) → (chain_of p k).front.header ≡ true
  pub whole : length (numbers p t) ≡ t.len
  pub ends : follow p (suc t.len) t.first ≡ numbers p t
  pub last : t.last ≡ last_number (numbers p t)

-- from p and t to q and u, chain c went into the train, or came out of it; no other owner's chain changed
abbrev pub MovesIn : PoolView → TrainView → ℕ → PoolView → TrainView → Type 0
MovesIn p t c q u = Moves p (c ∷ numbers p t) q (numbers q u)

abbrev pub MovesOut : PoolView → TrainView → ℕ → PoolView → TrainView → Type 0
MovesOut p t c q u = Moves p (numbers p t) q (c ∷ numbers q u)

-- from p and t to q and u, chain c was inserted at index i with that tag
pub record Inserts (p : PoolView) (t : TrainView) (i c tag : ℕ) (q : PoolView) (u : TrainView) : Type 0 where
  pub queued_packets : queued_packets q u
      ≡ insert (queued_packets p t) i (record { number = c; entries = (chain_of p c).entries; tag = tag })
  pub held : IsHeld q u
  pub len : u.len ≡ t.len + 1
  pub moves : MovesIn p t c q u
  pub stands : slice_get (numbers q u) i ≡ Some c
  pub front : (k : ℕ) → k < i → slice_get (numbers q u) k ≡ slice_get (numbers p t) k

-- from p and t to q and u, the chain at index i, with number c and that tag, was removed
pub record Takes (p : PoolView) (t : TrainView) (i c tag : ℕ) (q : PoolView) (u : TrainView) : Type 0 where
  pub queued_packets : queued_packets q u ≡ remove (queued_packets p t) i
  pub taken : queued_packet_at p t i ≡ record { number = c; entries = (chain_of q c).entries; tag = tag }
  pub alone : (chain_of q c).front ≡ alone true
  pub held : IsHeld q u
  pub len : u.len + 1 ≡ t.len
  pub moves : MovesOut p t c q u
  pub front : (k : ℕ) → k < i → slice_get (numbers q u) k ≡ slice_get (numbers p t) k
