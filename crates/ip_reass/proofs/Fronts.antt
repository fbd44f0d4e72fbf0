-- Places among the fragments of a train, given by the fragment before.
use Rattle.std.proofs.Common.{◌≡◌, ℕ, ◌≤◌, List, [], ◌∷◌, map, slice_get, Option, None, Some, refl, sym, ap, ◌∙◌, arith}
use Rattle.mbuf_chain.specs.Chain.{PoolView}
use Rattle.mbuf_chain.specs.Train.{TrainView, QueuedPacket, queued_packet_of, queued_packets, numbers}
use Rattle.mbuf_chain.specs.declared.queued_place.QueuedPlace.{QueuedPlace}
use Rattle.ip_reass.specs.Inside.Walks.{IsFront, after}

numbers_of : (p : PoolView) (xs : List ℕ)
    → map (λ (queued_packet : QueuedPacket). queued_packet.number) (map (queued_packet_of p) xs) ≡ xs
numbers_of p [] = refl
numbers_of p (x ∷ xs) = ap (λ (ys : List ℕ). x ∷ ys) (numbers_of p xs)

numbers_by : (p q : PoolView) (t : TrainView) → queued_packets q t ≡ queued_packets p t → numbers q t ≡ numbers p t
numbers_by p q t e =
    sym (numbers_of q (numbers q t))
    ∙ (ap (map (λ (queued_packet : QueuedPacket). queued_packet.number)) e ∙ numbers_of p (numbers p t))

-- a step that doesn't change the train keeps its places
pub front_beside : (p q : PoolView) (t : TrainView) (front : Option QueuedPlace)
    → queued_packets q t ≡ queued_packets p t → IsFront p t front → IsFront q t front
front_beside p q t None e is = tt
front_beside p q t (Some at) e is =
    record { within = is.within; number = ap (λ (xs : List ℕ). slice_get xs at.index) (numbers_by p q t e) ∙ is.number }

-- the number of fragments before a place is at most that of all fragments
pub front_within : (p : PoolView) (t : TrainView) (front : Option QueuedPlace) → IsFront p t front → after front ≤ t.len
front_within p t None is = omega arith
front_within p t (Some at) is = omega (arith, is.within)
