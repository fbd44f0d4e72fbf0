-- Sums over lists in which the elements that pass a test change or go.
use Rattle.std.proofs.Common.{◌≡◌, ℕ, ◌+◌, ◌≤◌, Bool, true, false, List, [], ◌∷◌, length, map, refl, sym, ap, arith, Some, None, cond}
use Rattle.std.specs.Prelude.{not, count_by, find, filter, sum_by}
use Rattle.std.proofs.lemmas.List.Sums.{sum_by-cons}
use Rattle.std.proofs.lemmas.Option.{none-some, same_Some}
use Rattle.flat_model.proofs.Laws.{count_cons}

module _ {X : Type 0} (p : X → Bool) where
  -- none is found: none passes
  pub none_passes : (xs : List X) → find p xs ≡ None → count_by p xs ≡ 0
  none_passes [] e = refl
  none_passes (x ∷ xs) e = go (p x) refl (none_passes xs) e (count_cons p x xs)
    where
      go : (b : Bool) → p x ≡ b → (find p xs ≡ None → count_by p xs ≡ 0) → cond b (Some x) (find p xs) ≡ None
          → count_by p (x ∷ xs) ≡ cond {A = ℕ} (p x) 1 0 + count_by p xs → count_by p (x ∷ xs) ≡ 0
      go true t rest e n = absurd (none-some x (sym e))
      go false t rest e n =
          let zero_here : cond {A = ℕ} (p x) 1 0 ≡ 0 = ap (λ b. cond {A = ℕ} b 1 0) t in
          let later = rest e in
          omega arith

  pub count-changed : (f : X → X) → ((x : X) → p (f x) ≡ p x) → (xs : List X) → count_by p (map f xs) ≡ count_by p xs
  count-changed f same [] = refl
  count-changed f same (x ∷ xs) =
      let here : cond {A = ℕ} (p (f x)) 1 0 ≡ cond (p x) 1 0 = ap (λ b. cond {A = ℕ} b 1 0) (same x) in
      let rest = count-changed f same xs in
      omega (arith, count_cons p (f x) (map f xs), count_cons p x xs)

  pub count-less : (q : X → Bool) (xs : List X) → count_by p (filter q xs) ≤ count_by p xs
  count-less q [] = omega arith
  count-less q (x ∷ xs) = go (q x) (count-less q xs)
    where
      go : (b : Bool) → count_by p (filter q xs) ≤ count_by p xs
          → count_by p (cond b (x ∷ filter q xs) (filter q xs)) ≤ count_by p (x ∷ xs)
      go true le = omega (arith, count_cons p x (filter q xs), count_cons p x xs)
      go false le = omega (arith, count_cons p x xs)

  module _ (w : X → ℕ) where
    -- each that passes grows by 1
    pub sum-grown : (f : X → X) → ((x : X) → w (f x) ≡ w x + 1) → (xs : List X)
        → sum_by w (map (λ x. cond (p x) (f x) x) xs) ≡ sum_by w xs + count_by p xs
    sum-grown f more [] = refl
    sum-grown f more (x ∷ xs) = go (p x) refl (sum-grown f more xs) (count_cons p x xs)
      where
        go : (b : Bool) → p x ≡ b → sum_by w (map (λ x. cond (p x) (f x) x) xs) ≡ sum_by w xs + count_by p xs
            → count_by p (x ∷ xs) ≡ cond {A = ℕ} (p x) 1 0 + count_by p xs
            → sum_by w (cond b (f x) x ∷ map (λ x. cond (p x) (f x) x) xs) ≡ sum_by w (x ∷ xs) + count_by p (x ∷ xs)
        go true t rest n =
            let one : cond {A = ℕ} (p x) 1 0 ≡ 1 = ap (λ b. cond {A = ℕ} b 1 0) t in
            let here = more x in
            omega (arith, sum_by-cons w (f x) (map (λ x. cond (p x) (f x) x) xs), sum_by-cons w x xs)
        go false t rest n =
            let none : cond {A = ℕ} (p x) 1 0 ≡ 0 = ap (λ b. cond {A = ℕ} b 1 0) t in
            omega (arith, sum_by-cons w x (map (λ x. cond (p x) (f x) x) xs), sum_by-cons w x xs)

    -- a change that leaves the number
    pub sum-same : (f : X → X) → ((x : X) → w (f x) ≡ w x) → (xs : List X)
        → sum_by w (map (λ x. cond (p x) (f x) x) xs) ≡ sum_by w xs
    sum-same f same [] = refl
    sum-same f same (x ∷ xs) =
        let rest = sum-same f same xs in
        let here = go (p x) in
        omega (arith, sum_by-cons w (cond (p x) (f x) x) (map (λ x. cond (p x) (f x) x) xs), sum_by-cons w x xs)
      where
        go : (b : Bool) → w (cond b (f x) x) ≡ w x
        go true = same x
        go false = refl

    none-changed : (f : X → X) (xs : List X) → count_by p xs ≡ 0
        → sum_by w (map (λ x. cond (p x) (f x) x) xs) ≡ sum_by w xs
    none-changed f [] e = refl
    none-changed f (x ∷ xs) e = go (p x) refl (none-changed f xs) (count_cons p x xs)
      where
        go : (b : Bool) → p x ≡ b
            → (count_by p xs ≡ 0 → sum_by w (map (λ x. cond (p x) (f x) x) xs) ≡ sum_by w xs)
            → count_by p (x ∷ xs) ≡ cond {A = ℕ} (p x) 1 0 + count_by p xs
            → sum_by w (cond b (f x) x ∷ map (λ x. cond (p x) (f x) x) xs) ≡ sum_by w (x ∷ xs)
        go true t rest n =
            let one : cond {A = ℕ} (p x) 1 0 ≡ 1 = ap (λ b. cond {A = ℕ} b 1 0) t in absurd (omega arith)
        go false t rest n =
            let later = rest (omega arith) in
            omega (arith, sum_by-cons w x (map (λ x. cond (p x) (f x) x) xs), sum_by-cons w x xs)

    -- the only one that passes changes
    pub sum-replaced : (f : X → X) (k : ℕ) → ((x : X) → w (f x) ≡ k) → (xs : List X) (x : X) → count_by p xs ≤ 1
        → find p xs ≡ Some x → sum_by w (map (λ x. cond (p x) (f x) x) xs) + w x ≡ sum_by w xs + k
    sum-replaced f k is [] x c e = absurd (none-some x e)
    sum-replaced f k is (y ∷ ys) x c e =
        go (p y) refl (sum-replaced f k is ys x) (none-changed f ys) (count_cons p y ys) e
      where
        go : (b : Bool) → p y ≡ b
            → (count_by p ys ≤ 1 → find p ys ≡ Some x
            → sum_by w (map (λ x. cond (p x) (f x) x) ys) + w x ≡ sum_by w ys + k)
            → (count_by p ys ≡ 0 → sum_by w (map (λ x. cond (p x) (f x) x) ys) ≡ sum_by w ys)
            → count_by p (y ∷ ys) ≡ cond {A = ℕ} (p y) 1 0 + count_by p ys → cond b (Some y) (find p ys) ≡ Some x
            → sum_by w (cond b (f y) y ∷ map (λ x. cond (p x) (f x) x) ys) + w x ≡ sum_by w (y ∷ ys) + k
        go true t rest same n e =
            let one : cond {A = ℕ} (p y) 1 0 ≡ 1 = ap (λ b. cond {A = ℕ} b 1 0) t in
            let it : w y ≡ w x = ap w (same_Some y x e) in
            let now = is y in
            let later = same (omega arith) in
            omega (arith, sum_by-cons w (f y) (map (λ x. cond (p x) (f x) x) ys), sum_by-cons w y ys)
        go false t rest same n e =
            let later = rest (omega arith) e in
            omega (arith, sum_by-cons w y (map (λ x. cond (p x) (f x) x) ys), sum_by-cons w y ys)

    none-gone : (xs : List X) → count_by p xs ≡ 0 → sum_by w (filter (λ x. not (p x)) xs) ≡ sum_by w xs
    none-gone [] e = refl
    none-gone (x ∷ xs) e = go (p x) refl (none-gone xs) (count_cons p x xs)
      where
        go : (b : Bool) → p x ≡ b → (count_by p xs ≡ 0 → sum_by w (filter (λ x. not (p x)) xs) ≡ sum_by w xs)
            → count_by p (x ∷ xs) ≡ cond {A = ℕ} (p x) 1 0 + count_by p xs
            → sum_by w (cond (not b) (x ∷ filter (λ x. not (p x)) xs) (filter (λ x. not (p x)) xs))
            ≡ sum_by w (x ∷ xs)
        go true t rest n =
            let one : cond {A = ℕ} (p x) 1 0 ≡ 1 = ap (λ b. cond {A = ℕ} b 1 0) t in absurd (omega arith)
        go false t rest n =
            let later = rest (omega arith) in
            omega (arith, sum_by-cons w x (filter (λ x. not (p x)) xs), sum_by-cons w x xs)

    -- the only one that passes goes
    pub sum-removed : (xs : List X) (x : X) → count_by p xs ≤ 1 → find p xs ≡ Some x
        → sum_by w (filter (λ x. not (p x)) xs) + w x ≡ sum_by w xs
    sum-removed [] x c e = absurd (none-some x e)
    sum-removed (y ∷ ys) x c e = go (p y) refl (sum-removed ys x) (none-gone ys) (count_cons p y ys) e
      where
        go : (b : Bool) → p y ≡ b
            → (count_by p ys ≤ 1 → find p ys ≡ Some x
            → sum_by w (filter (λ x. not (p x)) ys) + w x ≡ sum_by w ys)
            → (count_by p ys ≡ 0 → sum_by w (filter (λ x. not (p x)) ys) ≡ sum_by w ys)
            → count_by p (y ∷ ys) ≡ cond {A = ℕ} (p y) 1 0 + count_by p ys → cond b (Some y) (find p ys) ≡ Some x
            → sum_by w (cond (not b) (y ∷ filter (λ x. not (p x)) ys) (filter (λ x. not (p x)) ys)) + w x
            ≡ sum_by w (y ∷ ys)
        go true t rest same n e =
            let one : cond {A = ℕ} (p y) 1 0 ≡ 1 = ap (λ b. cond {A = ℕ} b 1 0) t in
            let it : w y ≡ w x = ap w (same_Some y x e) in
            let later = same (omega arith) in
            omega (arith, sum_by-cons w y ys)
        go false t rest same n e =
            let later = rest (omega arith) e in
            omega (arith, sum_by-cons w y (filter (λ x. not (p x)) ys), sum_by-cons w y ys)

-- a list's length is a sum
pub length-sum : {X : Type 0} (xs : List X) → sum_by (λ x. 1) xs ≡ length xs
length-sum [] = refl
length-sum (x ∷ xs) = omega (arith, sum_by-cons (λ x. 1) x xs, length-sum xs)
