-- A step of one datagram of a table, and its removal.
use Rattle.std.proofs.Common.{◌≡◌, ℕ, zero, suc, ◌+◌, ◌<◌, ◌≤◌, Bool, true, false, not, cond, List, [], ◌∷◌, ◌++◌, length, map, filter, find, count_by, get_or, set, insert, remove, Option, None, Some, unwrap_or, refl, sym, ap, ◌∙◌, arith, inl, inr}
use Rattle.std.proofs.lemmas.Bool.{cond-true, cond-false, cases_Bool}
use Rattle.std.proofs.lemmas.Option.{none-some}
use Rattle.flat_model.specs.Machine.State.{Unfinished}
use Rattle.flat_model.proofs.Laws.{count_cons}
use Rattle.mbuf_chain.specs.Chain.{PoolView}
use Rattle.mbuf_chain.specs.Owners.{times_among, IsOwned, Moves}
use Rattle.mbuf_chain.specs.Frames.{SameAt}
use Rattle.mbuf_chain.proofs.Laws.Owners.{times-append, same_beside, moves_beside, live_at_most}
use Rattle.ip_reass.specs.Table.{held, held_all, IsUnfinished, AllUnfinished, IsTable, unfinished_of, unfinished}
use Rattle.ip_reass.specs.Same.{held_all_same, each_same, unfinished_same, queues_same}
use Rattle.ip_reass.specs.Layouts.{KeyedQueue, queue_of, queues}
use Rattle.ip_reass.specs.declared.datagram.Datagram.{Datagram}
use Rattle.ip_reass.proofs.Edits.{insert_remove, map-remove, map-insert}

-- ---- a table by place
pub held_at : (p : PoolView) (k : ℕ) (ds : List Datagram) (i : ℕ) (x : Datagram) → i < length ds
    → times_among k (held_all p ds) ≡ times_among k (held p (get_or ds i x)) + times_among k (held_all p (remove ds i))
held_at p k [] i x l = absurd (omega arith)
held_at p k (d ∷ ds) zero x l = times-append k (held p d) (held_all p ds)
held_at p k (d ∷ ds) (suc i) x l =
    omega (
      arith,
      times-append k (held p d) (held_all p ds),
      held_at p k ds i x (omega arith),
      times-append k (held p d) (held_all p (remove ds i)),
    )

pub held_put : (p : PoolView) (k : ℕ) (ds : List Datagram) (i : ℕ) (y : Datagram) → i < length ds
    → times_among k (held_all p (set ds i y)) ≡ times_among k (held p y) + times_among k (held_all p (remove ds i))
held_put p k [] i y l = absurd (omega arith)
held_put p k (d ∷ ds) zero y l = times-append k (held p y) (held_all p ds)
held_put p k (d ∷ ds) (suc i) y l =
    omega (
      arith,
      times-append k (held p d) (held_all p (set ds i y)),
      held_put p k ds i y (omega arith),
      times-append k (held p d) (held_all p (remove ds i)),
    )

pub each_at : (p : PoolView) (ds : List Datagram) (i : ℕ) (x : Datagram) → i < length ds → AllUnfinished p ds
    → IsUnfinished p (get_or ds i x) × AllUnfinished p (remove ds i)
each_at p [] i x l a = absurd (omega arith)
each_at p (d ∷ ds) zero x l a = (a.0, a.1)
each_at p (d ∷ ds) (suc i) x l a = let r = each_at p ds i x (omega arith) a.1 in (r.0, (a.0, r.1))

pub each_put : (p : PoolView) (ds : List Datagram) (i : ℕ) (y : Datagram) → i < length ds
    → AllUnfinished p (remove ds i) → IsUnfinished p y → AllUnfinished p (set ds i y)
each_put p [] i y l a h = absurd (omega arith)
each_put p (d ∷ ds) zero y l a h = (h, a)
each_put p (d ∷ ds) (suc i) y l a h = (a.0, each_put p ds i y (omega arith) a.1 h)

-- ---- a step of one datagram, before which the caller holds the chains xs
module _ (p q : PoolView) (ds : List Datagram) (i : ℕ) (x : Datagram) (xs zs : List ℕ) (l : i < length ds)
    (owns : IsOwned p (xs ++ held_all p ds)) (is : IsTable p ds) (m : Moves p (xs ++ held p (get_or ds i x)) q zs) where
  split : (k : ℕ) → times_among k (xs ++ held_all p ds)
      ≡ times_among k (held_all p (remove ds i)) + times_among k (xs ++ held p (get_or ds i x))
  split k =
      omega (arith, times-append k xs (held_all p ds), times-append k xs (held p (get_or ds i x)), held_at p k ds i x l)

  -- the other datagrams are unchanged
  pub others_same : SameAt p q (held_all p (remove ds i))
  others_same =
      same_beside (held_all p (remove ds i)) m (λ k. omega (arith, owns k, split k))
      (λ k h. omega (arith, owns k, split k, live_at_most p k))

  pub others_held : held_all q (remove ds i) ≡ held_all p (remove ds i)
  others_held = held_all_same p q (remove ds i) others_same

  pub others_each : AllUnfinished q (remove ds i)
  others_each = each_same p q (remove ds i) others_same (each_at p ds i x l is.each).1

  -- the datagram is put back as y, and the caller gets the chains ys
  pub put_moves : (y : Datagram) (ys : List ℕ)
      → ((k : ℕ) → times_among k zs ≡ times_among k ys + times_among k (held q y))
      → Moves p (xs ++ held_all p ds) q (ys ++ held_all q (set ds i y))
  put_moves y ys is_zs =
      moves_beside (xs ++ held_all p ds) (ys ++ held_all q (set ds i y)) (held_all p (remove ds i)) m split
      (λ k. omega (
        arith,
        times-append k ys (held_all q (set ds i y)),
        held_put q k ds i y l,
        is_zs k,
        ap (times_among k) others_held,
      ))

  pub put_shows : (y : Datagram) → unfinished q (set ds i y) ≡ set (unfinished p ds) i (unfinished_of q y)
  put_shows y =
      ap (unfinished q) (sym (insert_remove ds i y l)) ∙ (map-insert (unfinished_of q) (remove ds i) i y
      ∙ (ap (λ (us : List Unfinished). insert us i (unfinished_of q y))
      (unfinished_same p q (remove ds i) others_same ∙ map-remove (unfinished_of p) ds i)
      ∙ insert_remove (unfinished p ds) i (unfinished_of q y)
      (omega (arith, Rattle.std.proofs.lemmas.List.length-map ds (unfinished_of p)))))

  pub put_queues : (y : Datagram) → queues q (set ds i y) ≡ set (queues p ds) i (queue_of q y)
  put_queues y =
      ap (queues q) (sym (insert_remove ds i y l)) ∙ (map-insert (queue_of q) (remove ds i) i y
      ∙ (ap (λ (us : List KeyedQueue). insert us i (queue_of q y))
      (queues_same p q (remove ds i) others_same ∙ map-remove (queue_of p) ds i)
      ∙ insert_remove (queues p ds) i (queue_of q y)
      (omega (arith, Rattle.std.proofs.lemmas.List.length-map ds (queue_of p)))))

  -- the datagram was removed from the table
  pub gone_moves : Moves p (xs ++ held_all p ds) q (zs ++ held_all q (remove ds i))
  gone_moves =
      moves_beside (xs ++ held_all p ds) (zs ++ held_all q (remove ds i)) (held_all p (remove ds i)) m split
      (λ k. omega (arith, times-append k zs (held_all q (remove ds i)), ap (times_among k) others_held))

  pub gone_shows : unfinished q (remove ds i) ≡ remove (unfinished p ds) i
  gone_shows = unfinished_same p q (remove ds i) others_same ∙ map-remove (unfinished_of p) ds i

  pub gone_queues : queues q (remove ds i) ≡ remove (queues p ds) i
  gone_queues = queues_same p q (remove ds i) others_same ∙ map-remove (queue_of p) ds i

-- ---- an element found by a test that at most one passes
module _ {X : Type 0} (t : X → Bool) where
  counts_yes : (x : X) (xs : List X) → t x ≡ true → count_by t (x ∷ xs) ≡ 1 + count_by t xs
  counts_yes x xs e = omega (arith, count_cons t x xs, cond-true {A = ℕ} (t x) 1 0 e)

  counts_no : (x : X) (xs : List X) → t x ≡ false → count_by t (x ∷ xs) ≡ count_by t xs
  counts_no x xs e = omega (arith, count_cons t x xs, cond-false {A = ℕ} (t x) 1 0 e)

  pub found_passes : (xs : List X) (x : X) → find t xs ≡ Some x → t x ≡ true
  found_passes [] x e = absurd (none-some x e)
  found_passes (y ∷ ys) x e = elim (cases_Bool (t y)) [
    | inl is ↦ ap t (sym (ap (λ (o : Option X). unwrap_or o y) (sym (cond-true (t y) (Some y) (find t ys) is) ∙ e)))
        ∙ is
    | inr is ↦ found_passes ys x (sym (cond-false (t y) (Some y) (find t ys) is) ∙ e)
  ]

  pub none_found : (xs : List X) → find t xs ≡ None → count_by t xs ≡ 0
  none_found [] e = refl
  none_found (y ∷ ys) e = elim (cases_Bool (t y)) [
    | inl is ↦ absurd (none-some y (sym e ∙ cond-true (t y) (Some y) (find t ys) is))
    | inr is ↦ counts_no y ys is ∙ none_found ys (sym (cond-false (t y) (Some y) (find t ys) is) ∙ e)
  ]

  -- no element passes
  pub map_none : (g : X → X) (xs : List X) → count_by t xs ≡ 0 → map (λ x. cond (t x) (g x) x) xs ≡ xs
  map_none g [] z = refl
  map_none g (x ∷ xs) z = elim (cases_Bool (t x)) [
    | inl is ↦ absurd (omega (arith, z, counts_yes x xs is))
    | inr is ↦ λ i. cond-false (t x) (g x) x is i ∷ map_none g xs (omega (arith, z, counts_no x xs is)) i
  ]

  pub filter_none : (xs : List X) → count_by t xs ≡ 0 → filter (λ x. not (t x)) xs ≡ xs
  filter_none [] z = refl
  filter_none (x ∷ xs) z = elim (cases_Bool (t x)) [
    | inl is ↦ absurd (omega (arith, z, counts_yes x xs is))
    | inr is ↦ ap (λ (b : Bool). cond (not b) (x ∷ filter (λ y. not (t y)) xs) (filter (λ y. not (t y)) xs)) is
        ∙ ap (λ (ys : List X). x ∷ ys) (filter_none xs (omega (arith, z, counts_no x xs is)))
  ]

  pub one_passes : (xs : List X) (i : ℕ) (d : X) → i < length xs → t (get_or xs i d) ≡ true → 0 < count_by t xs
  one_passes [] i d l e = absurd (omega arith)
  one_passes (x ∷ xs) zero d l e = omega (arith, counts_yes x xs e)
  one_passes (x ∷ xs) (suc i) d l e = omega (arith, count_cons t x xs, one_passes xs i d (omega arith) e)

  -- one element passes, at place i
  pub map_one : (g : X → X) (xs : List X) (i : ℕ) (d : X) → i < length xs → t (get_or xs i d) ≡ true → count_by t xs ≤ 1
      → map (λ x. cond (t x) (g x) x) xs ≡ set xs i (g (get_or xs i d))
  map_one g [] i d l h most = absurd (omega arith)
  map_one g (x ∷ xs) zero d l h most =
      λ i. cond-true (t x) (g x) x h i ∷ map_none g xs (omega (arith, most, counts_yes x xs h)) i
  map_one g (x ∷ xs) (suc n) d l h most = elim (cases_Bool (t x)) [
    | inl is ↦ absurd (omega (arith, one_passes xs n d (omega arith) h, most, counts_yes x xs is))
    | inr is ↦ λ i. cond-false (t x) (g x) x is i
        ∷ map_one g xs n d (omega arith) h (omega (arith, most, counts_no x xs is)) i
  ]

  pub filter_one : (xs : List X) (i : ℕ) (d : X) → i < length xs → t (get_or xs i d) ≡ true → count_by t xs ≤ 1
      → filter (λ x. not (t x)) xs ≡ remove xs i
  filter_one [] i d l h most = absurd (omega arith)
  filter_one (x ∷ xs) zero d l h most =
      ap (λ (b : Bool). cond (not b) (x ∷ filter (λ y. not (t y)) xs) (filter (λ y. not (t y)) xs)) h
      ∙ filter_none xs (omega (arith, most, counts_yes x xs h))
  filter_one (x ∷ xs) (suc n) d l h most = elim (cases_Bool (t x)) [
    | inl is ↦ absurd (omega (arith, one_passes xs n d (omega arith) h, most, counts_yes x xs is))
    | inr is ↦ ap (λ (b : Bool). cond (not b) (x ∷ filter (λ y. not (t y)) xs) (filter (λ y. not (t y)) xs)) is
        ∙ ap (λ (ys : List X). x ∷ ys) (filter_one xs n d (omega arith) h (omega (arith, most, counts_no x xs is)))
  ]
