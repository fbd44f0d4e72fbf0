-- A tick over the table of unfinished datagrams.
use Rattle.std.proofs.Common.{◌≡◌, ℕ, zero, suc, ◌+◌, ◌-◌, ◌<◌, ◌≤◌, eqb, ltb, List, [], ◌∷◌, ◌++◌, length, map, filter, count_by, get_or, set, take, drop, sum_by, refl, sym, ap, ◌∙◌, subst, arith, inl, inr, append-nil, get_or-drop}
use Rattle.std.specs.List as lists
use Rattle.std.proofs.lemmas.Bool.{cases_eq, cases_lt, cond-true, cond-false, lt-ltb, le-ltb, eq-eqb, ne_eqb}
use Rattle.std.proofs.lemmas.List.{take_at, take-set-le, take_more_set, take_more, set-set, drop-set-lt, length-set, get_or-set_same, get_or_default}
use Rattle.std.proofs.lemmas.List.Edits.{swap_is, length-swap}
use Rattle.std.proofs.lemmas.List.Sorted.{sum_by-IsPermutation, All-permutation}
use Rattle.std.specs.List.{AllByRecursion}
use Rattle.std.proofs.lemmas.List.Elements.{All-from_recursion, recursion_from_All}
use Rattle.std.specs.List.Sorted.{IsPermutation}
use Rattle.std.proofs.lemmas.List.Sums.{sum_by-cons}
use Rattle.flat_model.specs.Machine.State.{State, Key, Unfinished, is_key}
use Rattle.flat_model.proofs.Laws.{count_cons}
use Rattle.mbuf_chain.specs.Chain.{PoolView}
use Rattle.mbuf_chain.specs.Owners.{times_among, Moves}
use Rattle.mbuf_chain.proofs.Laws.Owners.{times-append, moves_beside}
use Rattle.ip_reass.specs.Table.{aged, held, held_all, holds, IsUnfinished, AllUnfinished, IsTable, unfinished_of, unfinished, AreDistinct}
use Rattle.flat_model.specs.Machine.Step.{ticked}
use Rattle.flat_model.specs.Machine.Count.{counts_more}
use Rattle.flat_model.specs.declared.counters.Counters.{Counters}
use Rattle.flat_model.specs.declared.counter.Counter.TheVariants.{IpFragtimeout}
use Rattle.mbuf_chain.specs.Frames.{SameAt}
use Rattle.ip_reass.specs.Arrivals.{with_waiting}
use Rattle.ip_reass.specs.Same.{unfinished_same}
use Rattle.ip_reass.specs.declared.datagram.Datagram.{Datagram}

module _ {X : Type 0} where
  pub take-swap : (xs : List X) (a b : ℕ) (d : X) → a ≤ b → b < length xs
      → take (suc a) (lists.swap xs a b) ≡ take a xs ++ get_or xs b d ∷ []
  take-swap xs a b d l m =
      ap (take (suc a)) (sym (swap_is xs a b d (omega arith) m)) ∙ elim (cases_eq a b) [
        | inl e ↦ ap (λ (k : ℕ). take (suc a) (set (set xs a (get_or xs b d)) k (get_or xs a d))) (sym e)
            ∙ (ap (take (suc a)) (set-set xs a (get_or xs b d) (get_or xs a d))
            ∙ (more a (get_or xs a d) (omega arith) ∙ ap (λ (k : ℕ). take a xs ++ get_or xs k d ∷ []) e))
        | inr ne ↦ take-set-le (suc a) (set xs a (get_or xs b d)) b (get_or xs a d) (omega arith)
            ∙ more a (get_or xs b d) (omega arith)
      ]
    where
      more : (k : ℕ) (y : X) → k < length xs → take (suc k) (set xs k y) ≡ take k xs ++ y ∷ []
      more k y h =
          ap (λ (n : ℕ). take n (set xs k y)) (let s : suc k ≡ k + 1 = omega arith in s) ∙ take_more_set xs k y h

  pub drop-swap : (xs : List X) (a b : ℕ) (d : X) → a ≤ b → b < length xs
      → drop (suc b) (lists.swap xs a b) ≡ drop (suc b) xs
  drop-swap xs a b d l m =
      ap (drop (suc b)) (sym (swap_is xs a b d (omega arith) m))
      ∙ (drop-set-lt (suc b) (set xs a (get_or xs b d)) b (get_or xs a d) (omega arith)
      ∙ drop-set-lt (suc b) xs a (get_or xs b d) (omega arith))

  pub sum_by-set : (f : X → ℕ) (xs : List X) (i : ℕ) (y d : X) → i < length xs → f y ≡ f (get_or xs i d)
      → sum_by f (set xs i y) ≡ sum_by f xs
  sum_by-set f [] i y d l e = absurd (omega arith)
  sum_by-set f (x ∷ xs) zero y d l e =
      sum_by-cons f y xs ∙ (ap (λ (n : ℕ). n + sum_by f xs) e ∙ sym (sum_by-cons f x xs))
  sum_by-set f (x ∷ xs) (suc i) y d l e =
      sum_by-cons f x (set xs i y) ∙ (ap (λ (n : ℕ). f x + n) (sum_by-set f xs i y d (omega arith) e)
      ∙ sym (sum_by-cons f x xs))

pub all_set : (P : Datagram → Type 0) (xs : List Datagram) (i : ℕ) (y : Datagram) → AllByRecursion P xs → P y
    → AllByRecursion P (set xs i y)
all_set P [] i y a h = a
all_set P (x ∷ xs) zero y a h = (h, a.1)
all_set P (x ∷ xs) (suc i) y a h = (a.0, all_set P xs i y a.1 h)

pub aged-append : (xs ys : List Datagram) → aged (xs ++ ys) ≡ aged xs ++ aged ys
aged-append [] ys = refl
aged-append (d ∷ xs) ys = elim (cases_lt 1 d.ticks) [
  | inl l ↦ cond-true _ _ _ (lt-ltb 1 d.ticks l)
      ∙ (ap (λ (zs : List Datagram). record d { ticks = d.ticks - 1 } ∷ zs) (aged-append xs ys)
      ∙ ap (λ (zs : List Datagram). zs ++ aged ys) (sym (cond-true _ _ _ (lt-ltb 1 d.ticks l))))
  | inr l ↦ cond-false _ _ _ (le-ltb 1 d.ticks l)
      ∙ (aged-append xs ys ∙ ap (λ (zs : List Datagram). zs ++ aged ys) (sym (cond-false _ _ _ (le-ltb 1 d.ticks l))))
]

-- the loop: the first `kept` rows are those of the first i that remain, and those from i on are unchanged
pub record Aging (old now : List Datagram) (kept i : ℕ) : Type 0 where
  pub within : kept ≤ i
  pub len : length now ≡ length old
  pub front : take kept now ≡ aged (take i old)
  pub rest : drop i now ≡ drop i old
  pub same : (p : PoolView) (k : ℕ) → sum_by (holds p k) now ≡ sum_by (holds p k) old
  pub each : (p : PoolView) → AllUnfinished p old → AllUnfinished p now

read : (old now : List Datagram) (i : ℕ) (d : Datagram) → drop i now ≡ drop i old → get_or now i d ≡ get_or old i d
read old now i d e =
    let at : i + 0 ≡ i = omega arith in
    ap (λ (k : ℕ). get_or now k d) (sym at)
    ∙ (sym (get_or-drop i now 0 d)
    ∙ (ap (λ (zs : List Datagram). get_or zs 0 d) e ∙ (get_or-drop i old 0 d ∙ ap (λ (k : ℕ). get_or old k d) at)))

rest_more : (old now : List Datagram) (i : ℕ) → drop i now ≡ drop i old → drop (suc i) now ≡ drop (suc i) old
rest_more old now i e = tail now i ∙ (ap (drop 1) e ∙ sym (tail old i))
  where
    tail : (zs : List Datagram) (n : ℕ) → drop (suc n) zs ≡ drop 1 (drop n zs)
    tail zs zero = refl
    tail [] (suc n) = refl
    tail (z ∷ zs) (suc n) = tail zs n

aged_more : (old : List Datagram) (i : ℕ) (d : Datagram) → i < length old
    → aged (take (suc i) old) ≡ aged (take i old) ++ aged (get_or old i d ∷ [])
aged_more old i d l =
    ap (λ (n : ℕ). aged (take n old)) (let s : suc i ≡ i + 1 = omega arith in s)
    ∙ (ap aged (take_more old i d l) ∙ aged-append (take i old) (get_or old i d ∷ []))

pub aging_past : (old now : List Datagram) (kept i : ℕ) (d : Datagram) → Aging old now kept i → i < length now
    → (get_or now i d).ticks ≤ 1 → Aging old now kept (suc i)
aging_past old now kept i d a l t = record {
  within = omega (arith, a.within);
  len = a.len;
  front =
      a.front ∙ (sym (append-nil (aged (take i old)))
      ∙ (ap (λ (zs : List Datagram). aged (take i old) ++ zs)
      (sym (cond-false _ _ _ (le-ltb 1 (get_or old i d).ticks
      (subst (λ (x : Datagram). x.ticks ≤ 1) (read old now i d a.rest)
      t)))) ∙ sym (aged_more old i d (omega (arith, a.len)))));
  rest = rest_more old now i a.rest;
  same = a.same;
  each = a.each;
}

pub aging_kept : (old now next : List Datagram) (kept i : ℕ) (d y : Datagram) → Aging old now kept i → i < length now
    → 1 < (get_or now i d).ticks → y ≡ record (get_or now i d) { ticks = (get_or now i d).ticks - 1 }
    → next ≡ lists.swap (set now i y) kept i → IsPermutation (set now i y) next → Aging old next (suc kept) (suc i)
aging_kept old now next kept i d y a l t y_is is perm =
    let long : length (set now i y) ≡ length now = length-set now i y in
    let was : get_or now i d ≡ get_or old i d = read old now i d a.rest in
    let young : y ∷ [] ≡ aged (get_or old i d ∷ []) =
    ap (λ (x : Datagram). x ∷ []) y_is
    ∙ (ap (λ (x : Datagram). record x { ticks = x.ticks - 1 } ∷ []) was
    ∙ sym (cond-true _ _ _ (lt-ltb 1 (get_or old i d).ticks (subst (λ (x : Datagram). 1 < x.ticks) was t)))) in
    record {
      within = omega (arith, a.within);
      len = ap length is ∙ (length-swap (set now i y) kept i ∙ (long ∙ a.len));
      front =
          ap (take (suc kept)) is ∙ (take-swap (set now i y) kept i d a.within (omega (arith, long))
          ∙ ((λ j. (take-set-le kept now i y a.within ∙ a.front) j
          ++ (ap (λ (x : Datagram). x ∷ []) (get_or-set_same now i y d l) ∙ young) j)
          ∙ sym (aged_more old i d (omega (arith, a.len)))));
      rest =
          ap (drop (suc i)) is ∙ (drop-swap (set now i y) kept i d a.within (omega (arith, long))
          ∙ (drop-set-lt (suc i) now i y (omega arith) ∙ rest_more old now i a.rest));
      same =
          λ p k. sum_by-IsPermutation (holds p k) (set now i y) next perm
          ∙ (sum_by-set (holds p k) now i y d l (ap (holds p k) y_is) ∙ a.same p k);
      each = λ p h.
          let was = a.each p h in
          let m : IsUnfinished p (get_or now i d) =
          All-from_recursion (λ (x : Datagram). IsUnfinished p x) now was i d l in
          let mine : IsUnfinished p (record (get_or now i d) { ticks = (get_or now i d).ticks - 1 }) =
          record { queue = m.queue; counted = m.counted; holder = m.holder } in
          recursion_from_All (λ (x : Datagram). IsUnfinished p x) next
          (All-permutation (λ (x : Datagram). IsUnfinished p x) (set now i y) next perm
          (All-from_recursion (λ (x : Datagram). IsUnfinished p x) (set now i y)
          (all_set (λ (x : Datagram). IsUnfinished p x) now i y was
          (subst (λ (x : Datagram). IsUnfinished p x) (sym y_is) mine))));
    }

-- the two branches of the loop
pub arm_past : (old now next : List Datagram) (kept i k : ℕ) (d : Datagram) → Aging old now kept i → i < length now
    → (get_or now i d).ticks ≤ 1 → next ≡ now → k ≡ kept → Aging old next k (i + 1)
arm_past old now next kept i k d a l t is k_is =
    let s : suc i ≡ i + 1 = omega arith in
    let go : Aging old now kept (suc i) = aging_past old now kept i d a l t in
    subst (λ (n : ℕ). Aging old next k n) s
    (subst (λ (m : ℕ). Aging old next m (suc i)) (sym k_is)
    (subst (λ (zs : List Datagram). Aging old zs kept (suc i)) (sym is) go))

pub arm_kept : (old now swapped next : List Datagram) (kept i k : ℕ) (d e : Datagram) → Aging old now kept i
    → i < length now → 1 < (get_or now i e).ticks
    → swapped ≡ lists.swap (set now i (record (get_or now i d) { ticks = (get_or now i d).ticks - 1 })) kept i
    → IsPermutation (set now i (record (get_or now i d) { ticks = (get_or now i d).ticks - 1 })) swapped
    → next ≡ swapped → k ≡ kept + 1 → Aging old next k (i + 1)
arm_kept old now swapped next kept i k d e a l t after perm is k_is =
    let s : suc i ≡ i + 1 = omega arith in
    let k' : suc kept ≡ k = omega arith in
    let go : Aging old swapped (suc kept) (suc i) =
    aging_kept old now swapped kept i d (record (get_or now i d) { ticks = (get_or now i d).ticks - 1 }) a l
    (subst (λ (x : Datagram). 1 < x.ticks) (get_or_default now i e d l) t) refl after perm in
    subst (λ (n : ℕ). Aging old next k n) s
    (subst (λ (m : ℕ). Aging old next m (suc i)) k'
    (subst (λ (zs : List Datagram). Aging old zs (suc kept) (suc i)) (sym is) go))

-- ---- a tick
pub times_all : (p : PoolView) (k : ℕ) (ds : List Datagram) → times_among k (held_all p ds) ≡ sum_by (holds p k) ds
times_all p k [] = refl
times_all p k (d ∷ ds) =
    times-append k (held p d) (held_all p ds)
    ∙ (ap (λ (n : ℕ). holds p k d + n) (times_all p k ds) ∙ sym (sum_by-cons (holds p k) d ds))

-- a table in another order, with other ticks
pub reordered : (p : PoolView) (xs ys : List Datagram) → IsTable p xs
    → ((k : ℕ) → sum_by (holds p k) ys ≡ sum_by (holds p k) xs) → AllUnfinished p ys → length ys ≡ length xs
    → IsTable p ys
reordered p xs ys is same all len =
    record { owned = λ k. omega (arith, is.owned k, times_all p k xs, times_all p k ys, same k); each = all }

pub table_reordered : (p r : PoolView) (xs ys : List Datagram) (zs : List ℕ)
    → ((k : ℕ) → sum_by (holds p k) ys ≡ sum_by (holds p k) xs) → Moves p (held_all p ys) r zs
    → Moves p (held_all p xs) r zs
table_reordered p r xs ys zs same m =
    moves_beside (held_all p xs) zs [] m (λ k. omega (arith, times_all p k xs, times_all p k ys, same k))
    (λ k. omega arith)

-- the vector after a slice of all of it was lent
pub lent : (n : ℕ) (xs ys : List Datagram) → length ys ≡ n → take n (ys ++ drop (length ys) xs) ≡ ys
lent n xs ys e = take_at ys (drop (length ys) xs) n e

-- and one of them was changed
pub lent_back : (n : ℕ) (xs slice ys : List Datagram) (i : ℕ) (d : Datagram) → length slice ≡ n → slice ≡ xs
    → ys ≡ set xs i d → take n (ys ++ drop (length ys) xs) ≡ ys
lent_back n xs slice ys i d size was change =
    lent n xs ys (omega (
      arith,
      ap (λ (zs : List Datagram). length zs) change,
      length-set xs i d,
      ap (λ (zs : List Datagram). length zs) was,
      size,
    ))

-- ---- a tick in the flat machine
abbrev pub older : List Unfinished → List Unfinished
older us = map (λ (u : Unfinished). record u { ticks = u.ticks - 1 }) us

pub aged_is : (p : PoolView) (ds : List Datagram)
    → unfinished p (aged ds) ≡ filter (λ (u : Unfinished). ltb 0 u.ticks) (older (unfinished p ds))
aged_is p [] = refl
aged_is p (d ∷ ds) = elim (cases_lt 1 d.ticks) [
  | inl l ↦
      ap (unfinished p) (cond-true _ _ _ (lt-ltb 1 d.ticks l))
      ∙ (ap (λ (us : List Unfinished). record (unfinished_of p d) { ticks = d.ticks - 1 } ∷ us) (aged_is p ds)
      ∙ sym (cond-true _ _ _ (lt-ltb 0 (d.ticks - 1) (omega arith))))
  | inr l ↦
      ap (unfinished p) (cond-false _ _ _ (le-ltb 1 d.ticks l))
      ∙ (aged_is p ds ∙ sym (cond-false _ _ _ (le-ltb 0 (d.ticks - 1) (omega arith))))
]

pub gone_is : (p : PoolView) (ds : List Datagram)
    → count_by (λ (u : Unfinished). eqb u.ticks 0) (older (unfinished p ds)) + length (aged ds) ≡ length ds
gone_is p [] = refl
gone_is p (d ∷ ds) = elim (cases_lt 1 d.ticks) [
  | inl l ↦ omega (
    arith,
    gone_is p ds,
    ap (λ (xs : List Datagram). length xs)
        (cond-true {A = List Datagram} _ (record d { ticks = d.ticks - 1 } ∷ aged ds) (aged ds) (lt-ltb 1 d.ticks l)),
    count_cons (λ (u : Unfinished). eqb u.ticks 0) (record (unfinished_of p d) { ticks = d.ticks - 1 })
        (older (unfinished p ds)),
    cond-false {A = ℕ} _ 1 0 (ne_eqb (d.ticks - 1) 0 (λ e. absurd (omega arith))),
  )
  | inr l ↦ omega (
    arith,
    gone_is p ds,
    ap (λ (xs : List Datagram). length xs)
        (cond-false {A = List Datagram} _ (record d { ticks = d.ticks - 1 } ∷ aged ds) (aged ds) (le-ltb 1 d.ticks l)),
    count_cons (λ (u : Unfinished). eqb u.ticks 0) (record (unfinished_of p d) { ticks = d.ticks - 1 })
        (older (unfinished p ds)),
    cond-true {A = ℕ} _ 1 0 (eq-eqb (d.ticks - 1) 0 (omega arith)),
  )
]

-- **a tick of the flat machine**
pub tick_step : (rest : State) (c : Counters) (p q : PoolView) (old new : List Datagram) (n : ℕ) → new ≡ aged old
    → SameAt p q (held_all p new) → n + length (aged old) ≡ length old
    → ticked (with_waiting p old c rest) ≡ with_waiting q new (counts_more IpFragtimeout n c) rest
tick_step rest c p q old new n e same left =
    let shows : unfinished q new ≡ filter (λ (u : Unfinished). ltb 0 u.ticks) (older (unfinished p old)) =
    unfinished_same p q new same ∙ (ap (unfinished p) e ∙ aged_is p old) in
    let count : count_by (λ (u : Unfinished). eqb u.ticks 0) (older (unfinished p old)) ≡ n =
    omega (arith, gone_is p old) in
    λ j. record rest { unfinished = sym shows j; counters = counts_more IpFragtimeout (count j) c }

-- no key occurs twice after a tick
keys_aged : (p : PoolView) (k : Key) (ds : List Datagram)
    → count_by (is_key k) (unfinished p (aged ds)) ≤ count_by (is_key k) (unfinished p ds)
keys_aged p k [] = omega arith
keys_aged p k (d ∷ ds) = elim (cases_lt 1 d.ticks) [
  | inl l ↦ omega (
    arith,
    keys_aged p k ds,
    ap (λ (xs : List Datagram). count_by (is_key k) (unfinished p xs))
        (cond-true {A = List Datagram} _ (record d { ticks = d.ticks - 1 } ∷ aged ds) (aged ds) (lt-ltb 1 d.ticks l)),
    count_cons (is_key k) (record (unfinished_of p d) { ticks = d.ticks - 1 }) (unfinished p (aged ds)),
    count_cons (is_key k) (unfinished_of p d) (unfinished p ds),
  )
  | inr l ↦ omega (
    arith,
    keys_aged p k ds,
    ap (λ (xs : List Datagram). count_by (is_key k) (unfinished p xs))
        (cond-false {A = List Datagram} _ (record d { ticks = d.ticks - 1 } ∷ aged ds) (aged ds) (le-ltb 1 d.ticks l)),
    count_cons (is_key k) (unfinished_of p d) (unfinished p ds),
  )
]

pub aged_distinct : (p q : PoolView) (old new : List Datagram) → new ≡ aged old → SameAt p q (held_all p new)
    → AreDistinct p old → AreDistinct q new
aged_distinct p q old new e same distinct =
    λ k. omega (
      arith,
      ap (count_by (is_key k)) (unfinished_same p q new same ∙ ap (unfinished p) e),
      keys_aged p k old,
      distinct k,
    )
