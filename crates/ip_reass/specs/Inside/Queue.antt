-- What the functions of a datagram's fragments need, and what they leave (this project's own).
use Rattle.std.specs.Prelude.{◌≡◌, ℕ, ◌+◌, ◌<◌, ◌≤◌, List, Option, true, length}
use Rattle.params.specs.declared.TheConstants.{IP_MAX_DATA}
use Rattle.mbuf_chain.specs.Chain.{PoolView, IsLive, chain_of, string}
use Rattle.mbuf_chain.specs.Owners.{Moves, times_among}
use Rattle.mbuf_chain.specs.Train.{TrainView, IsHeld, numbers}
use Rattle.mbuf_chain.specs.declared.queued_place.QueuedPlace.{QueuedPlace}
use Rattle.ip_reass.specs.declared.datagram.Datagram.{Datagram}
use Rattle.ip_reass.specs.Fragments.{AllEnd, IsQueue, bytes_held, fragments}
use Rattle.ip_reass.specs.Inside.Walks.{IsFront, after}

-- chain c can become one of a datagram's fragments, at this offset: it has bytes, and isn't one of them yet
pub record CanInsert (p : PoolView) (d : Datagram) (c offset : ℕ) : Type 0 where
  pub queue : IsQueue p d.fragments
  pub counted : d.bytes ≡ bytes_held (fragments p d.fragments)
  pub live : IsLive p c
  pub headed : (chain_of p c).front.header ≡ true
  pub apart : times_among c (numbers p d.fragments) ≡ 0
  pub some : 0 < length (string (chain_of p c))
  pub small : offset + length (string (chain_of p c)) ≤ IP_MAX_DATA

-- a place of a train, or before its first packet
pub record HasFront (p : PoolView) (t : TrainView) (at : Option QueuedPlace) : Type 0 where
  pub front : IsFront p t at
  pub held : IsHeld p t

-- such a place, with a packet after it
pub record HasNext (p : PoolView) (t : TrainView) (place : Option QueuedPlace) : Type 0 where
  pub at : HasFront p t place
  pub more : after place < t.len

-- such a place, after which fragments may be cut or freed: their bytes can be counted
pub record CanClear (p : PoolView) (t : TrainView) (place : Option QueuedPlace) : Type 0 where
  pub at : HasFront p t place
  pub small : AllEnd IP_MAX_DATA (fragments p t)
  pub few : bytes_held (fragments p t) ≤ IP_MAX_DATA

-- a step from p, in which these chains were at hand: what is before the place stays, and the train has the chains
pub record LeavesFront (p : PoolView) (chains : List ℕ) (q : PoolView) (t : TrainView) (at : Option QueuedPlace)
    : Type 0 where
  pub front : IsFront q t at
  pub held : IsHeld q t
  pub moves : Moves p chains q (numbers q t)
