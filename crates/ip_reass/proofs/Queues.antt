-- The queues of the table's fragments, with their mbufs, at an arrival.
use Rattle.std.proofs.Common.{◌≡◌, ℕ, zero, suc, ◌-◌, ◌*◌, ◌<◌, Bool, true, false, List, [], ◌∷◌, ◌++◌, length, map, find, get_or, set, remove, take, drop, None, refl, sym, ap, ◌∙◌, subst, arith, inl, inr}
use Rattle.std.proofs.lemmas.Bool.{false≢true, cond-true, cond-false, cases_Bool}
use Rattle.std.proofs.lemmas.List.{get_or-map, length-map, take-map}
use Rattle.std.proofs.lemmas.Option.{none-some}
use Rattle.flat_model.specs.Fragments.Overlay.{Fragment, is_covered}
use Rattle.flat_model.specs.Machine.State.{Key}
use Rattle.flat_model.specs.Machine.Arrival.{is_bad_fragment}
use Rattle.flat_model.specs.declared.counters.Counters.{Counters}
use Rattle.flat_model.specs.declared.counters.Why.{Why}
use Rattle.flat_model.specs.declared.counters.Why.TheVariants.{FragmentDropped, NoBufs}
use Rattle.mbuf_chain.specs.Chain.{Entry, ChainView, PoolView, chain_of, string}
use Rattle.ip_out.specs.declared.head.IpHead.{IpHead}
use Rattle.ledger.specs.Reserve.{are_free}
use Rattle.ip_reass.specs.Arrivals.{carried_entries, flat_head, key_in}
use Rattle.ip_reass.specs.Fragments.{QueuedFragment, inserted_into, joined_fragments, fragment_of, fragments, map_of}
use Rattle.ip_reass.specs.Inside.Place.{IsFirst}
use Rattle.ip_reass.specs.Inside.Walks.{arrived}
use Rattle.ip_reass.specs.Table.{TableView, has_key}
use Rattle.ip_reass.specs.Inside.Steps.{datagram_at, no_datagram, InsertsIn}
use Rattle.ip_reass.specs.Layouts.{KeyedQueue, queue_of, queues, has_queue_key, with_inserted, inserted_under, under, without_key, Leaves, WaitOrNone, HasLayout, HasCause, cause_among, cause_of, fragment_carried, no_queue, keyed_queue_at, LeavesAt}
use Rattle.ip_reass.specs.declared.datagram.Datagram.{Datagram}
use Rattle.ip_reass.specs.declared.arrival.Arrival.{Arrival}
use Rattle.ip_reass.specs.declared.arrival.Arrival.TheVariants.{Kept, Whole, Dropped}
use Rattle.ip_reass.proofs.Overlays.{covered_no}
use Rattle.ip_reass.proofs.Places.{found_passes}
use Rattle.ip_reass.proofs.Steps.{fragments_are}
use Rattle.ip_reass.proofs.Aging.{lent_back}
use Rattle.ip_reass.proofs.ArriveLemmas.{slice_at}

-- ---- by key and by place
none_in : (p : PoolView) (k : Key) (ds : List Datagram) → find (has_key k) ds ≡ None
    → find (has_queue_key k) (queues p ds) ≡ None
none_in p k [] e = refl
none_in p k (d ∷ ds) e = elim (cases_Bool (has_key k d)) [
  | inl is ↦ absurd (none-some d (sym e ∙ cond-true _ _ _ is))
  | inr is ↦ cond-false _ _ _ is ∙ none_in p k ds (sym (cond-false _ _ _ is) ∙ e)
]

module _ (k : Key) (f : QueuedFragment) where
  inserted_none : (qs : List KeyedQueue) → find (has_queue_key k) qs ≡ None
      → inserted_under k f qs ≡ qs ++ with_inserted f (record { key = k; fragments = [] }) ∷ []
  inserted_none [] e = refl
  inserted_none (q ∷ qs) e = elim (cases_Bool (has_queue_key k q)) [
    | inl is ↦ absurd (none-some q (sym e ∙ cond-true _ _ _ is))
    | inr is ↦ cond-false _ _ _ is
        ∙ ap (λ (rs : List KeyedQueue). q ∷ rs) (inserted_none qs (sym (cond-false _ _ _ is) ∙ e))
  ]

  under_none : (qs : List KeyedQueue) → find (has_queue_key k) qs ≡ None → under k qs ≡ []
  under_none [] e = refl
  under_none (q ∷ qs) e = elim (cases_Bool (has_queue_key k q)) [
    | inl is ↦ absurd (none-some q (sym e ∙ cond-true _ _ _ is))
    | inr is ↦ cond-false _ _ _ is ∙ under_none qs (sym (cond-false _ _ _ is) ∙ e)
  ]

  without_none : (qs : List KeyedQueue) → find (has_queue_key k) qs ≡ None → without_key k qs ≡ qs
  without_none [] e = refl
  without_none (q ∷ qs) e = elim (cases_Bool (has_queue_key k q)) [
    | inl is ↦ absurd (none-some q (sym e ∙ cond-true _ _ _ is))
    | inr is ↦ cond-false _ _ _ is
        ∙ ap (λ (rs : List KeyedQueue). q ∷ rs) (without_none qs (sym (cond-false _ _ _ is) ∙ e))
  ]

  inserted_here : (qs : List KeyedQueue) (i : ℕ) → i < length qs → find (has_queue_key k) (take i qs) ≡ None
      → has_queue_key k (keyed_queue_at qs i) ≡ true
      → inserted_under k f qs ≡ set qs i (with_inserted f (keyed_queue_at qs i))
  inserted_here [] i l n e = absurd (omega arith)
  inserted_here (q ∷ qs) zero l n e = cond-true _ _ _ e
  inserted_here (q ∷ qs) (suc i) l n e = elim (cases_Bool (has_queue_key k q)) [
    | inl is ↦ absurd (none-some q (sym n ∙ cond-true _ _ _ is))
    | inr is ↦ cond-false _ _ _ is
        ∙ ap (λ (rs : List KeyedQueue). q ∷ rs) (inserted_here qs i (omega arith) (sym (cond-false _ _ _ is) ∙ n) e)
  ]

  under_here : (qs : List KeyedQueue) (i : ℕ) → i < length qs → find (has_queue_key k) (take i qs) ≡ None
      → has_queue_key k (keyed_queue_at qs i) ≡ true → under k qs ≡ (keyed_queue_at qs i).fragments
  under_here [] i l n e = absurd (omega arith)
  under_here (q ∷ qs) zero l n e = cond-true _ _ _ e
  under_here (q ∷ qs) (suc i) l n e = elim (cases_Bool (has_queue_key k q)) [
    | inl is ↦ absurd (none-some q (sym n ∙ cond-true _ _ _ is))
    | inr is ↦ cond-false _ _ _ is ∙ under_here qs i (omega arith) (sym (cond-false _ _ _ is) ∙ n) e
  ]

  without_here : (qs : List KeyedQueue) (i : ℕ) → i < length qs → find (has_queue_key k) (take i qs) ≡ None
      → has_queue_key k (keyed_queue_at qs i) ≡ true → without_key k qs ≡ remove qs i
  without_here [] i l n e = absurd (omega arith)
  without_here (q ∷ qs) zero l n e = cond-true _ _ _ e
  without_here (q ∷ qs) (suc i) l n e = elim (cases_Bool (has_queue_key k q)) [
    | inl is ↦ absurd (none-some q (sym n ∙ cond-true _ _ _ is))
    | inr is ↦ cond-false _ _ _ is
        ∙ ap (λ (rs : List KeyedQueue). q ∷ rs) (without_here qs i (omega arith) (sym (cond-false _ _ _ is) ∙ n) e)
  ]

-- the result by place is the result by key, if this is the place of the first queue with the key
leaves_here : (k : Key) (f : QueuedFragment) (qs : List KeyedQueue) (i : ℕ) (q : PoolView) (result : Arrival)
    (now : List KeyedQueue) → i < length qs → find (has_queue_key k) (take i qs) ≡ None
    → has_queue_key k (keyed_queue_at qs i) ≡ true
    → LeavesAt i f qs q result now → Leaves k f qs q result now
leaves_here k f qs i q Kept now l n e h = h ∙ sym (inserted_here k f qs i l n e)
leaves_here k f qs i q (Whole c x) now l n e h = (
  h.0 ∙ ap (λ (fs : List QueuedFragment). joined_fragments (inserted_into f fs)) (sym (under_here k f qs i l n e)),
  h.1
      ∙ sym (without_here k f qs i l n e),
)
leaves_here k f qs i q (Dropped why) now l n e h = h.0

-- so is the cause
cause_here : (k : Key) (f : QueuedFragment) (qs : List KeyedQueue) (i : ℕ) (q : PoolView) (result : Arrival)
    (now : List KeyedQueue) → i < length qs → find (has_queue_key k) (take i qs) ≡ None
    → has_queue_key k (keyed_queue_at qs i) ≡ true
    → LeavesAt i f qs q result now
    → HasCause FragmentDropped result → HasCause (cause_among (under k now) f) result
cause_here k f qs i q Kept now l n e h is = tt
cause_here k f qs i q (Whole c x) now l n e h is = tt
cause_here k f qs i q (Dropped why) now l n e h is =
    is ∙ sym (cond-true _ _ _ ((λ j. is_covered (map_of (map fragment_of (under k (h.0 j)))) (fragment_of f))
    ∙ (ap (λ (fs : List QueuedFragment). is_covered (map_of (map fragment_of fs)) (fragment_of f))
    (under_here k f qs i l n e) ∙ h.1)))

-- the same for a new queue after the others
set_end : {X : Type 0} (xs : List X) (x y : X) → set (xs ++ x ∷ []) (length xs) y ≡ xs ++ y ∷ []
set_end [] x y = refl
set_end (z ∷ zs) x y = ap (λ ws. z ∷ ws) (set_end zs x y)

at_end : {X : Type 0} (xs : List X) (x d : X) → get_or (xs ++ x ∷ []) (length xs) d ≡ x
at_end [] x d = refl
at_end (z ∷ zs) x d = at_end zs x d

gone_end : {X : Type 0} (xs : List X) (x : X) → remove (xs ++ x ∷ []) (length xs) ≡ xs
gone_end [] x = refl
gone_end (z ∷ zs) x = ap (λ ws. z ∷ ws) (gone_end zs x)

none_covers : (f : QueuedFragment) → 0 < length (fragment_of f).bytes → is_covered (map_of []) (fragment_of f) ≡ false
none_covers f l =
    covered_no (fragment_of f) [] [] (record { before = tt; after = tt; upto = tt; above = tt }) (omega arith)

leaves_new : (k : Key) (f : QueuedFragment) (qs : List KeyedQueue) (q : PoolView) (result : Arrival)
    (now : List KeyedQueue) → 0 < length (fragment_of f).bytes → find (has_queue_key k) qs ≡ None
    → LeavesAt (length qs) f (qs ++ record { key = k; fragments = [] } ∷ []) q result now → Leaves k f qs q result now
leaves_new k f qs q Kept now l n h =
    h ∙ ((λ j. set (qs ++ record { key = k; fragments = [] } ∷ []) (length qs)
    (with_inserted f (at_end qs (record { key = k; fragments = [] }) no_queue j)))
    ∙ (set_end qs (record { key = k; fragments = [] }) (with_inserted f (record { key = k; fragments = [] }))
    ∙ sym (inserted_none k f qs n)))
leaves_new k f qs q (Whole c x) now l n h = (
  h.0 ∙ ((λ j. joined_fragments (inserted_into f (at_end qs (record { key = k; fragments = [] }) no_queue j).fragments))
      ∙ ap (λ (fs : List QueuedFragment). joined_fragments (inserted_into f fs)) (sym (under_none k f qs n))),
  h.1 ∙ (gone_end qs (record { key = k; fragments = [] }) ∙ sym (without_none k f qs n)),
)
leaves_new k f qs q (Dropped why) now l n h =
    absurd (false≢true (sym (none_covers f l)
    ∙ (λ j. is_covered (map_of (map fragment_of
    (sym (at_end qs (record { key = k; fragments = [] }) no_queue) j).fragments)) (fragment_of f)) ∙ h.1))

-- a fragment with bytes is put into a new queue
cause_new : (cause : Why) (k : Key) (f : QueuedFragment) (qs : List KeyedQueue) (q : PoolView) (result : Arrival)
    (now : List KeyedQueue) → 0 < length (fragment_of f).bytes
    → LeavesAt (length qs) f (qs ++ record { key = k; fragments = [] } ∷ []) q result now → HasCause cause result
cause_new cause k f qs q Kept now l h = tt
cause_new cause k f qs q (Whole c x) now l h = tt
cause_new cause k f qs q (Dropped why) now l h =
    absurd (false≢true (sym (none_covers f l)
    ∙ (λ j. is_covered (map_of (map fragment_of
    (sym (at_end qs (record { key = k; fragments = [] }) no_queue) j).fragments)) (fragment_of f)) ∙ h.1))

-- **if no datagram waits, a fragment with bytes was dropped because no mbuf was free**
pub cause_lacking : (k : Key) (f : QueuedFragment) (now : List KeyedQueue) → 0 < length (fragment_of f).bytes → now ≡ []
    → NoBufs ≡ cause_among (under k now) f
cause_lacking k f now l e =
    sym (ap (λ (qs : List KeyedQueue). cause_among (under k qs) f) e ∙ cond-false _ _ _ (none_covers f l))

-- ---- a step in between
pub wait_then : (qs rs ts : List KeyedQueue) → WaitOrNone qs rs → ts ≡ rs → WaitOrNone qs ts
wait_then qs rs ts (inl a) e = inl (e ∙ a)
wait_then qs rs ts (inr a) e = inr (e ∙ a)

wait_trans : (qs rs ts : List KeyedQueue) → WaitOrNone qs rs → WaitOrNone rs ts → WaitOrNone qs ts
wait_trans qs rs ts w (inl a) = wait_then qs rs ts w a
wait_trans qs rs ts w (inr a) = inr a

no_queues : (q : PoolView) (es : List Datagram) → length es ≡ 0 → queues q es ≡ []
no_queues q [] e = refl
no_queues q (d ∷ es) e = absurd (omega arith)

-- the test of the pool
pub wait_tested : (p q : PoolView) (ds es : List Datagram) (b : Bool) → (b ≡ true → queues q es ≡ queues p ds)
    → (b ≡ false → length es ≡ 0) → WaitOrNone (queues p ds) (queues q es)
wait_tested p q ds es true a n = inl (a refl)
wait_tested p q ds es false a n = inr (no_queues q es (n refl))

pub wait_reserved : (p q : PoolView) (r s : TableView) (c d : Counters) (b : Bool)
    → (b ≡ true → (q ≡ p) × (s ≡ r) × (d ≡ c)) → (b ≡ false → length s.datagrams ≡ 0)
    → WaitOrNone (queues p r.datagrams) (queues q s.datagrams)
wait_reserved p q r s c d b kept none =
    wait_tested p q r.datagrams s.datagrams b (λ e. let a = kept e in λ j. queues (a.0 j) (a.1 j).datagrams) none

-- after a test of the pool, there are still fewer datagrams than half its mbufs
pub few_reserved : (p q : PoolView) (r s : TableView) (c d : Counters) (b : Bool)
    → (b ≡ true → (q ≡ p) × (s ≡ r) × (d ≡ c)) → (b ≡ false → length s.datagrams ≡ 0) → q.mbufs ≡ p.mbufs
    → 2 * length r.datagrams < p.mbufs → 2 * length s.datagrams < q.mbufs
few_reserved p q r s c d true kept none size few =
    omega (arith, size, few, ap (λ (t : TableView). length t.datagrams) (kept refl).1)
few_reserved p q r s c d false kept none size few = omega (arith, size, few, none refl)

-- **nothing waits if the pool had no mbuf**
pub none_reserved : (p q : PoolView) (r s : TableView) (c d : Counters) (answer : Bool)
    → (are_free p 1 0 ≡ true → (q ≡ p) × (s ≡ r) × (d ≡ c)) → (are_free p 1 0 ≡ false → length s.datagrams ≡ 0)
    → answer ≡ are_free q 1 0 → answer ≡ false → queues q s.datagrams ≡ []
none_reserved p q r s c d answer kept none is refused = elim (cases_Bool (are_free p 1 0)) [
  | inl free ↦ absurd (false≢true (sym refused ∙ is ∙ ap (λ (o : PoolView). are_free o 1 0) (kept free).0 ∙ free))
  | inr lacks ↦ no_queues q s.datagrams (none lacks)
]

none_then : (k : Key) (qs rs : List KeyedQueue) → WaitOrNone qs rs → find (has_queue_key k) qs ≡ None
    → find (has_queue_key k) rs ≡ None
none_then k qs rs (inl a) n = ap (find (has_queue_key k)) a ∙ n
none_then k qs rs (inr a) n = ap (find (has_queue_key k)) a

-- the result if the queue is a new one
new_place : (p r t : PoolView) (hs : List Datagram) (qs now : List KeyedQueue) (k : Key) (n i offset : ℕ) (more : Bool)
    (result : Arrival) → chain_of r n ≡ chain_of p n → queues r hs ≡ qs ++ record { key = k; fragments = [] } ∷ []
    → i ≡ length qs
    → LeavesAt i (arrived r n offset more) (queues r hs) t result now
    → LeavesAt (length qs) (arrived p n offset more) (qs ++ record { key = k; fragments = [] } ∷ []) t result now
new_place p r t hs qs now k n i offset more result chain rows size leaves =
    subst (λ (v : ChainView). LeavesAt (length qs) (record { offset = offset; more = more; entries = v.entries })
    (qs ++ record { key = k; fragments = [] } ∷ []) t result now) chain
    (subst (λ (rs : List KeyedQueue). LeavesAt (length qs) (arrived r n offset more) rs t result now) rows
    (subst (λ (j : ℕ). LeavesAt j (arrived r n offset more) (queues r hs) t result now) size leaves))

-- **a fragment that begins its datagram**
pub begins_layout : (p q r t : PoolView) (ds es hs ts : List Datagram) (k : Key) (n i offset : ℕ) (more : Bool)
    (result : Arrival) → WaitOrNone (queues p ds) (queues q es) → find (has_key k) ds ≡ None
    → 0 < length (string (chain_of p n)) → chain_of r n ≡ chain_of p n
    → queues r hs ≡ queues q es ++ record { key = k; fragments = [] } ∷ [] → i ≡ length es
    → LeavesAt i (arrived r n offset more) (queues r hs) t result (queues t ts)
    → HasLayout p ds k (arrived p n offset more) result t ts
begins_layout p q r t ds es hs ts k n i offset more result wait none some chain rows i_is leaves =
    let here =
    new_place p r t hs (queues q es) (queues t ts) k n i offset more result chain rows
    (omega (arith, i_is, length-map es (queue_of q))) leaves in
    record {
      waited = queues q es;
      before = wait;
      leaves =
          leaves_new k (arrived p n offset more) (queues q es) t result (queues t ts) some
          (none_then k (queues p ds) (queues q es) wait (none_in p k ds none)) here;
    }

pub begins_cause : (cause : Why) (p q r t : PoolView) (es hs ts : List Datagram) (k : Key) (n i offset : ℕ)
    (more : Bool) (result : Arrival) → 0 < length (string (chain_of p n)) → chain_of r n ≡ chain_of p n
    → queues r hs ≡ queues q es ++ record { key = k; fragments = [] } ∷ [] → i ≡ length es
    → LeavesAt i (arrived r n offset more) (queues r hs) t result (queues t ts) → HasCause cause result
begins_cause cause p q r t es hs ts k n i offset more result some chain rows i_is leaves =
    cause_new cause k (arrived p n offset more) (queues q es) t result (queues t ts) some
    (new_place p r t hs (queues q es) (queues t ts) k n i offset more result chain rows
    (omega (arith, i_is, length-map es (queue_of q))) leaves)

-- the queue of the first datagram with the key is at the same place
record Found (p : PoolView) (ds : List Datagram) (k : Key) (i : ℕ) : Type 0 where
  within : i < length (queues p ds)
  front : find (has_queue_key k) (take i (queues p ds)) ≡ None
  here : has_queue_key k (keyed_queue_at (queues p ds) i) ≡ true

found : (p : PoolView) (ds : List Datagram) (k : Key) (i : ℕ) → IsFirst k ds i → Found p ds k i
found p ds k i first = record {
  within = omega (arith, first.within, length-map ds (queue_of p));
  front = ap (find (has_queue_key k)) (take-map (queue_of p) i ds) ∙ none_in p k (take i ds) first.front;
  here =
      ap (has_queue_key k) (get_or-map (queue_of p) ds i no_datagram no_queue first.within)
      ∙ found_passes (has_key k) ds (datagram_at ds i) (first.here ∙ slice_at ds i first.within);
}

-- **a fragment that joins the others of its datagram**
pub found_layout : (p t : PoolView) (ds ts : List Datagram) (k : Key) (f : QueuedFragment) (i : ℕ) (result : Arrival)
    → IsFirst k ds i → LeavesAt i f (queues p ds) t result (queues t ts) → HasLayout p ds k f result t ts
found_layout p t ds ts k f i result first leaves =
    let o = found p ds k i first in
    record {
      waited = queues p ds;
      before = inl refl;
      leaves = leaves_here k f (queues p ds) i t result (queues t ts) o.within o.front o.here leaves;
    }

pub found_cause : (p t : PoolView) (ds ts : List Datagram) (k : Key) (f : QueuedFragment) (i : ℕ) (result : Arrival)
    → IsFirst k ds i → LeavesAt i f (queues p ds) t result (queues t ts) → HasCause FragmentDropped result
    → HasCause (cause_among (under k (queues t ts)) f) result
found_cause p t ds ts k f i result first leaves cause =
    let o = found p ds k i first in
    cause_here k f (queues p ds) i t result (queues t ts) o.within o.front o.here leaves cause

-- **the header was pulled up and cut off before**
pub arrived_layout : (p q r t : PoolView) (ds es ts : List Datagram) (n n' : ℕ) (h : IpHead) (result : Arrival)
    → WaitOrNone (queues p ds) (queues q es) → queues r es ≡ queues q es
    → (chain_of r n').entries ≡ carried_entries (chain_of p n)
    → HasLayout r es (key_in h) (arrived r n' h.offset h.more) result t ts
    → HasLayout p ds (key_in h) (fragment_carried (chain_of p n) h) result t ts
arrived_layout p q r t ds es ts n n' h result wait rows entries x = record {
  waited = x.waited;
  before =
      wait_trans (queues p ds) (queues r es) x.waited (wait_then (queues p ds) (queues q es) (queues r es) wait rows)
      x.before;
  leaves =
      subst (λ (xs : List Entry). Leaves (key_in h) (record { offset = h.offset; more = h.more; entries = xs }) x.waited
      t result (queues t ts)) entries x.leaves;
}

pub arrived_cause : (p r : PoolView) (n n' : ℕ) (h : IpHead) (held : List QueuedFragment) (result : Arrival)
    → is_bad_fragment (flat_head h) (h.total - 20) ≡ false → (chain_of r n').entries ≡ carried_entries (chain_of p n)
    → HasCause (cause_among held (arrived r n' h.offset h.more)) result
    → HasCause (cause_of (chain_of p n) h held) result
arrived_cause p r n n' h held result good entries x =
    subst (λ (w : Why). HasCause w result)
    (ap (λ (xs : List Entry). cause_among held (record { offset = h.offset; more = h.more; entries = xs })) entries
    ∙ sym (cond-false _ _ _ good)) x

-- **a fragment whose bytes are all covered**
pub covered_layout : {p q : PoolView} {ds slice es back : List Datagram} {i c : ℕ} (n : ℕ) {f : QueuedFragment}
    {answer : Bool} → i < length ds → length slice ≡ n → slice ≡ ds → answer ≡ false
    → InsertsIn p slice i c f answer q es → back ≡ take n (es ++ drop (length es) ds)
    → (queues q back ≡ queues p ds)
    × (is_covered (map_of (map fragment_of (keyed_queue_at (queues p ds) i).fragments)) (fragment_of f) ≡ true)
covered_layout {p} {q} {ds} {slice} {es} {back} {i} {c} n {f} {answer} l size was refused la back_is =
    let here : InsertsIn p ds i c f false q es =
    subst (λ (zs : List Datagram). InsertsIn p zs i c f false q es) was
    (subst (λ (b : Bool). InsertsIn p slice i c f b q es) refused la) in
    let same : back ≡ es =
    back_is ∙ lent_back n ds slice es i (record (datagram_at ds i) { fragments = here.train; bytes = here.bytes }) size
    was here.change in
    let at : map fragment_of (keyed_queue_at (queues p ds) i).fragments ≡ fragments p (datagram_at ds i).fragments =
    ap (λ (q : KeyedQueue). map fragment_of q.fragments) (get_or-map (queue_of p) ds i no_datagram no_queue l)
    ∙ sym (fragments_are p (datagram_at ds i).fragments) in (
      ap (queues q) same ∙ here.rows_same,
      ap (λ (fs : List Fragment). is_covered (map_of fs) (fragment_of f)) at
          ∙ here.covered,
    )
