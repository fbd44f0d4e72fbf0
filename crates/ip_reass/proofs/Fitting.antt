-- The fragments of a train fit into their mbufs, because all chains of a pool do.
use Rattle.std.proofs.Common.{ℕ, ◌<◌, ◌≤◌, Bool, true, false, cond, eqb, List, [], ◌∷◌, map, Option, None, Some, is_some, subst, arith}
use Rattle.std.proofs.lemmas.List.{get_or_default}
use Rattle.std.proofs.lemmas.List.Elements.{recursion_from_All}
use Rattle.mbuf_chain.specs.Chain.{ChainView, PoolView, IsLive, chain_of, entry_of, no_entry}
use Rattle.mbuf_chain.specs.Owners.{times_among}
use Rattle.mbuf_chain.specs.Frames.{IsBounded, Fits}
use Rattle.mbuf_chain.specs.Train.{TrainView, queued_packet_of, numbers, IsHeld}
use Rattle.mbuf_chain.proofs.Laws.Owners.{times_same, live_owned}
use Rattle.chain_ops.specs.Weights.{IsEntryFit, AreFit}
use Rattle.ip_reass.specs.Fragments.{queued_of, queued}
use Rattle.ip_reass.specs.Inside.Walks.{AllFit, AllSome}

low_of : (o : Option ℕ) (header first : Bool) (start : ℕ)
    → cond (is_some o) 0 (cond header (cond first 28 20) 20) ≤ start → cond (is_some o) 0 20 ≤ start
low_of (Some c) header first start l = l
low_of None true true start l = omega arith
low_of None true false start l = l
low_of None false first start l = l

entry_fits : (p : PoolView) (v : ChainView) (i : ℕ) → Fits p v i → IsEntryFit (entry_of v i)
entry_fits p v i f =
    record { low = low_of (entry_of v i).cluster v.front.header (eqb i 0) (entry_of v i).start f.low; high = f.high }

chain_fits : (p : PoolView) (c : ℕ) → IsBounded p → IsLive p c → AreFit (chain_of p c).entries
chain_fits p c b live = recursion_from_All IsEntryFit (chain_of p c).entries (λ i d l.
    subst IsEntryFit (get_or_default (chain_of p c).entries i no_entry d l)
    (entry_fits p (chain_of p c) i (b.fits c i live l)))

pub all_fit : (p : PoolView) (t : TrainView) → IsBounded p → IsHeld p t → AllFit (queued p t)
all_fit p t b h = go (numbers p t) (λ k l. live_owned p (numbers p t) k h.owned l)
  where
    go : (xs : List ℕ) → ((k : ℕ) → 0 < times_among k xs → IsLive p k)
        → AllFit (map queued_of (map (queued_packet_of p) xs))
    go [] live = tt
    go (x ∷ xs) live =
        (chain_fits p x b (live x (omega (arith, times_same x xs))), go xs (λ k l. live k (omega (arith, l))))

pub all_some : (p : PoolView) (t : TrainView) → IsBounded p → IsHeld p t → AllSome (queued p t)
all_some p t b h = go (numbers p t) (λ k l. live_owned p (numbers p t) k h.owned l)
  where
    go : (xs : List ℕ) → ((k : ℕ) → 0 < times_among k xs → IsLive p k)
        → AllSome (map queued_of (map (queued_packet_of p) xs))
    go [] live = tt
    go (x ∷ xs) live = (b.some x (live x (omega (arith, times_same x xs))), go xs (λ k l. live k (omega (arith, l))))
