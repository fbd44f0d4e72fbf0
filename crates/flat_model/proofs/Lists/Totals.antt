-- Sums over a stretch of numbers, and counts by recursion.
use Rattle.std.proofs.Common.{◌≡◌, ℕ, zero, suc, ◌+◌, ◌<◌, ◌≤◌, Bool, true, false, List, [], ◌∷◌, ◌++◌, refl, subst, arith, cond}
use Rattle.std.specs.Prelude.{◌==◌, count_by}
use Rattle.std.specs.List.{AllByRecursion as Each}
use Rattle.std.proofs.lemmas.Bool.{eqb-true, eqb-false}
use Rattle.std.proofs.lemmas.List.Sums.{sum_by-cons}
use Rattle.flat_model.specs.Amounts.Weight.{times, IsSubBag}

-- g at each of n numbers from `at` on
unfoldable pub total : (ℕ → ℕ) → ℕ → ℕ → ℕ
total g at zero = 0
total g at (suc n) = g at + total g (at + 1) n

pub zeros : (at n : ℕ) → total (λ k. 0) at n ≡ 0
unfolding total
zeros at zero = refl
zeros at (suc n) = let rest = zeros (at + 1) n in omega arith

pub total_le : (g h : ℕ → ℕ) (at n : ℕ) → ((k : ℕ) → at ≤ k → k < at + n → g k ≤ h k) → total g at n ≤ total h at n
unfolding total
total_le g h at zero le = omega arith
total_le g h at (suc n) le =
    let here : g at ≤ h at = le at (omega arith) (omega arith) in
    let later : total g (at + 1) n ≤ total h (at + 1) n =
    total_le g h (at + 1) n (λ k low high. le k (omega arith) (omega arith)) in
    omega arith

pub total_add : (g h : ℕ → ℕ) (at n : ℕ) → total (λ k. g k + h k) at n ≡ total g at n + total h at n
unfolding total
total_add g h at zero = refl
total_add g h at (suc n) = let later = total_add g h (at + 1) n in omega arith

-- v at x, and nothing elsewhere
abbrev pub spike : ℕ → ℕ → ℕ → ℕ
spike x v k = cond (k == x) v 0

pub spike_here : (x v k : ℕ) → k ≡ x → spike x v k ≡ v
spike_here x v k e = go (k == x) refl
  where
    go : (b : Bool) → (k == x) ≡ b → cond b v 0 ≡ v
    go true t = refl
    go false t = absurd (eqb-false k x t e)

spike_elsewhere : (x v k : ℕ) → (k ≡ x → ⊥) → spike x v k ≡ 0
spike_elsewhere x v k n = go (k == x) refl
  where
    go : (b : Bool) → (k == x) ≡ b → cond b v 0 ≡ 0
    go true t = absurd (n (eqb-true k x t))
    go false t = refl

past_spike : (x v at n : ℕ) → x < at → total (spike x v) at n ≡ 0
unfolding total
past_spike x v at zero h = refl
past_spike x v at (suc n) h =
    let here : spike x v at ≡ 0 = spike_elsewhere x v at (λ e. absurd (omega arith)) in
    let later : total (spike x v) (at + 1) n ≡ 0 = past_spike x v (at + 1) n (omega arith) in
    omega arith

pub total_spike_most : (x v at n : ℕ) → total (spike x v) at n ≤ v
unfolding total
total_spike_most x v at zero = omega arith
total_spike_most x v at (suc n) = go (total_spike_most x v (at + 1) n) (at == x) refl
  where
    go : total (spike x v) (at + 1) n ≤ v → (b : Bool) → (at == x) ≡ b → cond b v 0 + total (spike x v) (at + 1) n ≤ v
    go rest true e = let same : at ≡ x = eqb-true at x e in let later = past_spike x v (at + 1) n (omega arith) in
        omega arith
    go rest false e = omega arith

pub total_spike : (x v at n : ℕ) → at ≤ x → x < at + n → total (spike x v) at n ≡ v
unfolding total
total_spike x v at zero low high = absurd (omega arith)
total_spike x v at (suc n) low high = go (total_spike x v (at + 1) n) (at == x) refl
  where
    go : (at + 1 ≤ x → x < at + 1 + n → total (spike x v) (at + 1) n ≡ v) → (b : Bool) → (at == x) ≡ b
        → cond b v 0 + total (spike x v) (at + 1) n ≡ v
    go rest true e = let same : at ≡ x = eqb-true at x e in let later = past_spike x v (at + 1) n (omega arith) in
        omega arith
    go rest false e =
        let other : at ≡ x → ⊥ = eqb-false at x e in
        let later : total (spike x v) (at + 1) n ≡ v = rest (omega arith) (omega arith) in
        omega arith

-- ---- counts

pub count_cons : {X : Type 0} (p : X → Bool) (x : X) (xs : List X)
    → count_by p (x ∷ xs) ≡ cond (p x) 1 0 + count_by p xs
count_cons p x xs = sum_by-cons (λ y. cond (p y) 1 0) x xs

-- what is in a bag
pub each_times : (P : ℕ → Type 0) (xs : List ℕ) (c : ℕ) → Each P xs → 0 < times c xs → P c
each_times P [] c h some = absurd (omega arith)
each_times P (x ∷ xs) c h some = go (each_times P xs c h.1) (x == c) refl (count_cons (λ k. k == c) x xs)
  where
    go : (0 < times c xs → P c) → (b : Bool) → (x == c) ≡ b → times c (x ∷ xs) ≡ cond {A = ℕ} b 1 0 + times c xs → P c
    go rest true e n = subst P (eqb-true x c e) h.0
    go rest false e n = rest (omega arith)

pub times_each : (P : ℕ → Type 0) (xs : List ℕ) → ((c : ℕ) → 0 < times c xs → P c) → Each P xs
times_each P [] h = tt
times_each P (x ∷ xs) h = (
  h x (let at = count_cons (λ k. k == x) x xs in let one : cond (x == x) 1 0 ≡ 1 = spike_here x 1 x refl in
      omega arith),
  times_each P xs (λ c some. h c (let at = count_cons (λ k. k == c) x xs in omega arith)),
)

pub each_sub_bag : (P : ℕ → Type 0) (small large : List ℕ) → IsSubBag small large → Each P large → Each P small
each_sub_bag P small large sub h =
    times_each P small (λ c some. each_times P large c h
    (let le : times c small ≤ times c large = sub c in omega arith))

pub count-append : {X : Type 0} (p : X → Bool) (xs ys : List X) → count_by p (xs ++ ys) ≡ count_by p xs + count_by p ys
count-append p [] ys = omega arith
count-append p (x ∷ xs) ys = let rest = count-append p xs ys in
    omega (arith, count_cons p x (xs ++ ys), count_cons p x xs)
