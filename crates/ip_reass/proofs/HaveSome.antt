-- Each datagram has a fragment: after an arrival, and after a tick.
use Rattle.std.proofs.Common.{◌≡◌, ◌-◌, ◌<◌, Bool, true, false, cond, List, [], ◌∷◌, length, sym, subst, arith, inl, inr}
use Rattle.std.specs.Prelude.{nat_le, nat_lt}
use Rattle.std.specs.List.{AllByRecursion}
use Rattle.flat_model.specs.Machine.State.{Key}
use Rattle.mbuf_chain.specs.Chain.{PoolView}
use Rattle.ip_reass.specs.Fragments.{QueuedFragment, cut, cut_to, inserted_into, inserted_after, queued_end}
use Rattle.ip_reass.specs.Layouts.{KeyedQueue, HasLayout, Leaves, has_queue_key, inserted_under, queues, with_inserted, without_key}
use Rattle.ip_reass.specs.Table.{AllUnfinished, HaveFragments, IsTable, aged}
use Rattle.ip_reass.specs.declared.arrival.Arrival.{Arrival}
use Rattle.ip_reass.specs.declared.arrival.Arrival.TheVariants.{Kept, Whole, Dropped}
use Rattle.ip_reass.specs.declared.datagram.Datagram.{Datagram}
use Rattle.ip_reass.proofs.Steps.{length-queued}

-- ---- the queues
abbrev HoldSome : List KeyedQueue → Type 0
HoldSome qs = AllByRecursion (λ (q : KeyedQueue). 0 < length q.fragments) qs

queues_some : (p : PoolView) (ds : List Datagram) → AllUnfinished p ds → HaveFragments ds → HoldSome (queues p ds)
queues_some p [] a f = tt
queues_some p (d ∷ ds) a f = (omega (arith, f.0, length-queued p d.fragments a.0.queue.held), queues_some p ds a.1 f.1)

datagrams_some : (p : PoolView) (ds : List Datagram) → AllUnfinished p ds → HoldSome (queues p ds) → HaveFragments ds
datagrams_some p [] a h = tt
datagrams_some p (d ∷ ds) a h =
    (omega (arith, h.0, length-queued p d.fragments a.0.queue.held), datagrams_some p ds a.1 h.1)

-- a fragment is put into a queue
either_some : (b : Bool) (x y : QueuedFragment) (xs ys : List QueuedFragment) → 0 < length (cond b (x ∷ xs) (y ∷ ys))
either_some true x y xs ys = omega arith
either_some false x y xs ys = omega arith

inserted_some : (f : QueuedFragment) (qs : List QueuedFragment) → 0 < length (inserted_into f qs)
inserted_some f [] = omega arith
inserted_some f (q ∷ qs) =
    either_some (nat_le q.offset f.offset) q (cut (0 - f.offset) f) (inserted_after (queued_end q) f qs)
    (cut_to (queued_end f) (q ∷ qs))

either_hold : (b : Bool) (qs rs : List KeyedQueue) → HoldSome qs → HoldSome rs → HoldSome (cond b qs rs)
either_hold true qs rs g h = g
either_hold false qs rs g h = h

module _ (k : Key) (f : QueuedFragment) where
  inserted_hold : (qs : List KeyedQueue) → HoldSome qs → HoldSome (inserted_under k f qs)
  inserted_hold [] h = (inserted_some f [], tt)
  inserted_hold (q ∷ qs) h =
      either_hold (has_queue_key k q) (with_inserted f q ∷ qs) (q ∷ inserted_under k f qs)
      (inserted_some f q.fragments, h.1)
      (h.0, inserted_hold qs h.1)

  without_hold : (qs : List KeyedQueue) → HoldSome qs → HoldSome (without_key k qs)
  without_hold [] h = tt
  without_hold (q ∷ qs) h = either_hold (has_queue_key k q) qs (q ∷ without_key k qs) h.1 (h.0, without_hold qs h.1)

  left_hold : (qs now : List KeyedQueue) (q : PoolView) (result : Arrival) → Leaves k f qs q result now → HoldSome qs
      → HoldSome now
  left_hold qs now q Kept left h = subst HoldSome (sym left) (inserted_hold qs h)
  left_hold qs now q (Whole c head) left h = subst HoldSome (sym left.1) (without_hold qs h)
  left_hold qs now q (Dropped why) left h = subst HoldSome (sym left) h

-- **each datagram has a fragment after an arrival**
pub fragments_after : {p q : PoolView} {ds es : List Datagram} {k : Key} {f : QueuedFragment} {result : Arrival}
    → HasLayout p ds k f result q es → IsTable p ds → HaveFragments ds → IsTable q es → HaveFragments es
fragments_after {p} {q} {ds} {es} {k} {f} {result} l is some now =
    datagrams_some q es now.each (left_hold k f l.waited (queues q es) q result l.leaves waited)
  where
    waited : HoldSome l.waited
    waited = elim l.before [
      | inl e ↦ subst HoldSome (sym e) (queues_some p ds is.each some)
      | inr e ↦ subst HoldSome (sym e) tt
    ]

-- ---- a tick
either_have : (b : Bool) (ds es : List Datagram) → HaveFragments ds → HaveFragments es → HaveFragments (cond b ds es)
either_have true ds es g h = g
either_have false ds es g h = h

aged_some : (ds : List Datagram) → HaveFragments ds → HaveFragments (aged ds)
aged_some [] h = tt
aged_some (d ∷ ds) h =
    either_have (nat_lt 1 d.ticks) (record d { ticks = d.ticks - 1 } ∷ aged ds) (aged ds) (h.0, aged_some ds h.1)
    (aged_some ds h.1)

-- **and after a tick**
pub aged_fragments : (old new : List Datagram) → new ≡ aged old → HaveFragments old → HaveFragments new
aged_fragments old new e h = subst HaveFragments (sym e) (aged_some old h)
