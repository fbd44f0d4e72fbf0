-- No key occurs twice: an arrival keeps the keys that waited, removes that of a datagram that became whole, or adds one
-- that didn't occur.
use Rattle.std.proofs.Common.{◌≡◌, ◌⊎◌, ℕ, ◌+◌, ◌≤◌, Bool, true, cond, List, [], ◌∷◌, refl, ap, arith, inl, inr}
use Rattle.std.specs.Prelude.{count_by}
use Rattle.std.proofs.lemmas.Bool.{cases_Bool, cond-true, cond-false}
use Rattle.flat_model.specs.Machine.State.{Key, is_key, begun}
use Rattle.flat_model.proofs.Laws.{count_cons, whole_key}
use Rattle.mbuf_chain.specs.Chain.{PoolView}
use Rattle.ip_reass.specs.Fragments.{QueuedFragment}
use Rattle.ip_reass.specs.Table.{AreDistinct, unfinished, unfinished_of}
use Rattle.ip_reass.specs.Layouts.{KeyedQueue, HasLayout, Leaves, has_queue_key, inserted_under, queue_of, queues, with_inserted, without_key}
use Rattle.ip_reass.specs.declared.datagram.Datagram.{Datagram}
use Rattle.ip_reass.specs.declared.arrival.Arrival.{Arrival}
use Rattle.ip_reass.specs.declared.arrival.Arrival.TheVariants.{Kept, Whole, Dropped}

-- a table without datagrams
pub none_distinct : (p : PoolView) → AreDistinct p []
none_distinct p = λ k. omega arith

-- the queues have the keys of the datagrams
keys_are : (p : PoolView) (k : Key) (ds : List Datagram)
    → count_by (has_queue_key k) (queues p ds) ≡ count_by (is_key k) (unfinished p ds)
keys_are p k [] = refl
keys_are p k (d ∷ ds) =
    omega (
      arith,
      keys_are p k ds,
      count_cons (has_queue_key k) (queue_of p d) (queues p ds),
      count_cons (is_key k) (unfinished_of p d) (unfinished p ds),
    )

one_of : (b : Bool) → b ≡ true → cond {A = ℕ} b 1 0 ≡ 1
one_of b e = ap {B = ℕ} (λ x. cond x 1 0) e

abbrev HoldOnce : List KeyedQueue → Type 0
HoldOnce qs = (k : Key) → count_by (has_queue_key k) qs ≤ 1

module _ (k : Key) (f : QueuedFragment) where
  abbrev begins : KeyedQueue
  begins = with_inserted f (record { key = k; fragments = [] })

  -- the fragment is put into the queue with its key, or into a new one if no queue has the key
  inserted_count : (j : Key) (qs : List KeyedQueue)
      → (count_by (has_queue_key j) (inserted_under k f qs) ≡ count_by (has_queue_key j) qs)
      ⊎ ((count_by (has_queue_key k) qs ≡ 0)
      × (count_by (has_queue_key j) (inserted_under k f qs)
      ≡ count_by (has_queue_key j) qs + cond {A = ℕ} (has_queue_key j begins) 1 0))
  inserted_count j [] = inr (refl, omega (arith, count_cons (has_queue_key j) begins []))
  inserted_count j (q ∷ qs) = elim (cases_Bool (has_queue_key k q)) [
    | inl is ↦ inl (omega (
      arith,
      ap (count_by (has_queue_key j))
          (cond-true _ (with_inserted f q ∷ qs) (q ∷ inserted_under k f qs) is),
      count_cons (has_queue_key j) (with_inserted f q) qs,
      count_cons (has_queue_key j) q qs,
    ))
    | inr is ↦
        let other =
        ap (count_by (has_queue_key j)) (cond-false _ (with_inserted f q ∷ qs) (q ∷ inserted_under k f qs) is) in
        let here : cond {A = ℕ} (has_queue_key k q) 1 0 ≡ 0 = ap {B = ℕ} (λ b. cond b 1 0) is in
        elim (inserted_count j qs) [
          | inl e ↦ inl (omega (
            arith,
            other,
            e,
            count_cons (has_queue_key j) q (inserted_under k f qs),
            count_cons (has_queue_key j) q qs,
          ))
          | inr e ↦ inr (
            omega (arith, e.0, here, count_cons (has_queue_key k) q qs),
            omega (
              arith,
              other,
              e.1,
              count_cons (has_queue_key j) q (inserted_under k f qs),
              count_cons (has_queue_key j) q qs,
            ),
          )
        ]
  ]

  inserted_once : (qs : List KeyedQueue) → HoldOnce qs → HoldOnce (inserted_under k f qs)
  inserted_once qs once j = elim (inserted_count j qs) [
    | inl e ↦ omega (arith, e, once j)
    | inr e ↦ elim (cases_Bool (has_queue_key j begins)) [
      | inl is ↦
          let same : k ≡ j = (whole_key j (begun k)).0 is in
          omega (
            arith,
            e.0,
            e.1,
            ap (λ (i : Key). count_by (has_queue_key i) qs) same,
            one_of (has_queue_key j begins) is,
          )
      | inr is ↦
          let here : cond {A = ℕ} (has_queue_key j begins) 1 0 ≡ 0 = ap {B = ℕ} (λ b. cond b 1 0) is in
          omega (arith, e.1, here, once j)
    ]
  ]

  without_fewer : (j : Key) (qs : List KeyedQueue)
      → count_by (has_queue_key j) (without_key k qs) ≤ count_by (has_queue_key j) qs
  without_fewer j [] = omega arith
  without_fewer j (q ∷ qs) = elim (cases_Bool (has_queue_key k q)) [
    | inl is ↦ omega (
      arith,
      ap (count_by (has_queue_key j)) (cond-true _ qs (q ∷ without_key k qs) is),
      count_cons (has_queue_key j) q qs,
    )
    | inr is ↦ omega (
      arith,
      ap (count_by (has_queue_key j)) (cond-false _ qs (q ∷ without_key k qs) is),
      without_fewer j qs,
      count_cons (has_queue_key j) q (without_key k qs),
      count_cons (has_queue_key j) q qs,
    )
  ]

  left_once : (qs now : List KeyedQueue) (q : PoolView) (result : Arrival) → Leaves k f qs q result now → HoldOnce qs
      → HoldOnce now
  left_once qs now q Kept left once j = omega (arith, ap (count_by (has_queue_key j)) left, inserted_once qs once j)
  left_once qs now q (Whole c h) left once j =
      omega (arith, ap (count_by (has_queue_key j)) left.1, without_fewer j qs, once j)
  left_once qs now q (Dropped why) left once j = omega (arith, ap (count_by (has_queue_key j)) left, once j)

-- **no key occurs twice after an arrival**
pub distinct_after : {p q : PoolView} {ds es : List Datagram} {k : Key} {f : QueuedFragment} {result : Arrival}
    → HasLayout p ds k f result q es → AreDistinct p ds → AreDistinct q es
distinct_after {p} {q} {ds} {es} {k} {f} {result} l distinct =
    λ j. omega (arith, keys_are q j es, left_once k f l.waited (queues q es) q result l.leaves waited j)
  where
    waited : HoldOnce l.waited
    waited = elim l.before [
      | inl e ↦ λ j. omega (arith, ap (count_by (has_queue_key j)) e, keys_are p j ds, distinct j)
      | inr e ↦ λ j. omega (arith, ap (count_by (has_queue_key j)) e)
    ]
