-- Lists of descriptors: how often a descriptor occurs in one, and sums over them.
use Rattle.std.proofs.Common.{◌≡◌, ℕ, zero, suc, ◌+◌, ◌<◌, ◌≤◌, Bool, true, false, ◌==◌, cond, List, [], ◌∷◌, map, filter, count_by, refl, sym, ap, ◌∙◌, arith}
use Rattle.std.specs.Prelude.{sum_by}
use Rattle.std.specs.List.{range_with_len}
use Rattle.std.proofs.lemmas.Bool.{eqb-true, eqb-false, eq-eqb, ne_eqb}
use Rattle.std.proofs.lemmas.List.Sums.{sum_by-cons}
use Rattle.flat_model.specs.Amounts.Weight.{times}
use Rattle.flat_model.specs.Sockets.Lookup.{up_to_first}
use Rattle.pcb_table.specs.declared.block.Block.{Block}
use Rattle.pcb_table.specs.Apart.{has_fd}
use Rattle.flat_model.proofs.Laws.{count_cons}

abbrev pub fds_of : List Block → List ℕ
fds_of bs = map (λ b. b.fd) bs

-- ---- how often a descriptor occurs

pub named_times : (fd : ℕ) (bs : List Block) → times fd (fds_of bs) ≡ count_by (has_fd fd) bs
named_times fd [] = refl
named_times fd (b ∷ bs) =
    omega (arith, named_times fd bs, count_cons (has_fd fd) b bs, count_cons (λ k. k == fd) b.fd (fds_of bs))

pub up_to_few : (fd : ℕ) (p : Block → Bool) (bs : List Block)
    → count_by (has_fd fd) (up_to_first p bs) ≤ count_by (has_fd fd) bs
up_to_few fd p [] = omega arith
up_to_few fd p (b ∷ bs) = go (up_to_few fd p bs) (p b)
  where
    go : count_by (has_fd fd) (up_to_first p bs) ≤ count_by (has_fd fd) bs → (t : Bool)
        → count_by (has_fd fd) (cond t (b ∷ []) (b ∷ up_to_first p bs)) ≤ count_by (has_fd fd) (b ∷ bs)
    go later true = omega (arith, count_cons (has_fd fd) b bs, count_cons (has_fd fd) b [])
    go later false = omega (arith, later, count_cons (has_fd fd) b bs, count_cons (has_fd fd) b (up_to_first p bs))

pub filter_few : (fd : ℕ) (p : Block → Bool) (bs : List Block)
    → count_by (has_fd fd) (filter p bs) ≤ count_by (has_fd fd) bs
filter_few fd p [] = omega arith
filter_few fd p (b ∷ bs) = go (filter_few fd p bs) (p b)
  where
    go : count_by (has_fd fd) (filter p bs) ≤ count_by (has_fd fd) bs → (t : Bool)
        → count_by (has_fd fd) (cond t (b ∷ filter p bs) (filter p bs)) ≤ count_by (has_fd fd) (b ∷ bs)
    go later true = omega (arith, later, count_cons (has_fd fd) b bs, count_cons (has_fd fd) b (filter p bs))
    go later false = omega (arith, later, count_cons (has_fd fd) b bs)

-- ---- sums over a list, and over all numbers of a range that has its elements

sum_by-add : (f g : ℕ → ℕ) (xs : List ℕ) → sum_by (λ k. f k + g k) xs ≡ sum_by f xs + sum_by g xs
sum_by-add f g [] = refl
sum_by-add f g (x ∷ xs) =
    omega (arith, sum_by-add f g xs, sum_by-cons (λ k. f k + g k) x xs, sum_by-cons f x xs, sum_by-cons g x xs)

sum_by-zero : (xs : List ℕ) → sum_by (λ k. 0) xs ≡ 0
sum_by-zero [] = refl
sum_by-zero (x ∷ xs) = omega (arith, sum_by-zero xs, sum_by-cons (λ k. 0) x xs)

-- v at x, and 0 elsewhere
abbrev only_at : ℕ → ℕ → ℕ → ℕ
only_at x v k = cond (x == k) v 0

only_here : (x v k : ℕ) → x ≡ k → only_at x v k ≡ v
only_here x v k e = ap (λ t. cond {A = ℕ} t v 0) (eq-eqb x k e)

only_elsewhere : (x v k : ℕ) → (x ≡ k → ⊥) → only_at x v k ≡ 0
only_elsewhere x v k ne = ap (λ t. cond {A = ℕ} t v 0) (ne_eqb x k ne)

sum_past : (x v at n : ℕ) → x < at → sum_by (only_at x v) (range_with_len at n) ≡ 0
sum_past x v at zero lt = refl
sum_past x v at (suc n) lt =
    omega (
      arith,
      sum_by-cons (only_at x v) at (range_with_len (at + 1) n),
      only_elsewhere x v at (λ e. omega arith),
      sum_past x v (at + 1) n (omega arith),
    )

sum_only : (x v at n : ℕ) → at ≤ x → x < at + n → sum_by (only_at x v) (range_with_len at n) ≡ v
sum_only x v at zero low high = absurd (omega arith)
sum_only x v at (suc n) low high = go (sum_only x v (at + 1) n) (x == at) refl
  where
    go : (at + 1 ≤ x → x < at + 1 + n → sum_by (only_at x v) (range_with_len (at + 1) n) ≡ v) → (t : Bool)
        → (x == at) ≡ t → sum_by (only_at x v) (at ∷ range_with_len (at + 1) n) ≡ v
    go later true e =
        let same : x ≡ at = eqb-true x at e in
        omega (
          arith,
          sum_by-cons (only_at x v) at (range_with_len (at + 1) n),
          only_here x v at same,
          sum_past x v (at + 1) n (omega arith),
        )
    go later false e =
        let other : x ≡ at → ⊥ = eqb-false x at e in
        omega (
          arith,
          sum_by-cons (only_at x v) at (range_with_len (at + 1) n),
          only_elsewhere x v at other,
          later (omega arith) (omega arith),
        )

-- the sum of f over the elements equal to k
abbrev share : (ℕ → ℕ) → List ℕ → ℕ → ℕ
share f xs k = sum_by (λ x. only_at x (f x) k) xs

shares : (f : ℕ → ℕ) (at n : ℕ) (xs : List ℕ) → ((k : ℕ) → 0 < times k xs → at ≤ k)
    → ((k : ℕ) → 0 < times k xs → k < at + n) → sum_by (share f xs) (range_with_len at n) ≡ sum_by f xs
shares f at n [] low high = sum_by-zero (range_with_len at n)
shares f at n (x ∷ xs) low high =
    let some : 0 < times x (x ∷ xs) = omega (arith, count_cons (λ k. k == x) x xs, only_here x 1 x refl) in
    omega (
      arith,
      ap (λ (g : ℕ → ℕ). sum_by g (range_with_len at n)) (λ i k. sum_by-cons (λ y. only_at y (f y) k) x xs i),
      sum_by-add (only_at x (f x)) (share f xs) (range_with_len at n),
      sum_only x (f x) at n (low x some) (high x some),
      shares f at n xs (λ k s. low k (omega (arith, s, count_cons (λ y. y == k) x xs)))
          (λ k s. high k (omega (arith, s, count_cons (λ y. y == k) x xs))),
      sum_by-cons f x xs,
    )

share_none : (f : ℕ → ℕ) (xs : List ℕ) (k : ℕ) → times k xs ≡ 0 → share f xs k ≡ 0
share_none f [] k none = refl
share_none f (x ∷ xs) k none = go (share_none f xs k) (x == k) refl
  where
    go : (times k xs ≡ 0 → share f xs k ≡ 0) → (t : Bool) → (x == k) ≡ t → share f (x ∷ xs) k ≡ 0
    go later true e = absurd (omega (arith, none, count_cons (λ y. y == k) x xs, only_here x 1 k (eqb-true x k e)))
    go later false e =
        let ne : x ≡ k → ⊥ = eqb-false x k e in
        omega (
          arith,
          sum_by-cons (λ y. only_at y (f y) k) x xs,
          only_elsewhere x (f x) k ne,
          later (omega (arith, none, count_cons (λ y. y == k) x xs)),
        )

share_one : (f : ℕ → ℕ) (xs : List ℕ) (k : ℕ) → times k xs ≡ 1 → share f xs k ≡ f k
share_one f [] k one = absurd (omega arith)
share_one f (x ∷ xs) k one = go (share_one f xs k) (x == k) refl
  where
    go : (times k xs ≡ 1 → share f xs k ≡ f k) → (t : Bool) → (x == k) ≡ t → share f (x ∷ xs) k ≡ f k
    go later true e =
        let same : x ≡ k = eqb-true x k e in
        omega (
          arith,
          sum_by-cons (λ y. only_at y (f y) k) x xs,
          only_here x (f x) k same,
          ap f same,
          share_none f xs k (omega (arith, one, count_cons (λ y. y == k) x xs, only_here x 1 k same)),
        )
    go later false e =
        let ne : x ≡ k → ⊥ = eqb-false x k e in
        omega (
          arith,
          sum_by-cons (λ y. only_at y (f y) k) x xs,
          only_elsewhere x (f x) k ne,
          later (omega (arith, one, count_cons (λ y. y == k) x xs, only_elsewhere x 1 k ne)),
        )

-- If no number occurs twice in the list, and f is 0 for each number that isn't in it, the sums are the same.
pub sum_in_range : (f : ℕ → ℕ) (at n : ℕ) (xs : List ℕ) → ((k : ℕ) → times k xs ≤ 1)
    → ((k : ℕ) → 0 < times k xs → at ≤ k) → ((k : ℕ) → 0 < times k xs → k < at + n)
    → ((k : ℕ) → times k xs ≡ 0 → f k ≡ 0) → sum_by f xs ≡ sum_by f (range_with_len at n)
sum_in_range f at n xs once low high none =
    sym (shares f at n xs low high) ∙ (λ i. sum_by (λ k. same k (times k xs) refl i) (range_with_len at n))
  where
    same : (k m : ℕ) → times k xs ≡ m → share f xs k ≡ f k
    same k zero e = share_none f xs k e ∙ sym (none k e)
    same k (suc zero) e = share_one f xs k e
    same k (suc (suc m)) e = absurd (omega (arith, once k, e))
