-- Where each of n tests is passed by a block, and no block passes two of them, there are n blocks at least.
use Rattle.std.proofs.Common.{◌≡◌, ℕ, zero, suc, ◌+◌, ◌<◌, ◌≤◌, Bool, true, false, cond, List, [], ◌∷◌, length, count_by, refl, ap, ◌∙◌, arith}
use Rattle.pcb_table.specs.declared.block.Block.{Block}
use Rattle.flat_model.proofs.Laws.{count_cons}

module _ (t : ℕ → Block → Bool) where
  -- how many of the first n tests the block passes
  abbrev pub passed : ℕ → Block → ℕ
  passed zero b = 0
  passed (suc n) b = passed n b + cond (t n b) 1 0

  -- how many passes there are in all
  abbrev pub passes : ℕ → List Block → ℕ
  passes zero bs = 0
  passes (suc n) bs = passes n bs + count_by (t n) bs

  passes-cons : (n : ℕ) (b : Block) (bs : List Block) → passes n (b ∷ bs) ≡ passed n b + passes n bs
  passes-cons zero b bs = refl
  passes-cons (suc n) b bs =
      joined (passes n (b ∷ bs)) (passed n b) (cond (t n b) 1 0) (passes n bs) (count_by (t n) bs)
      (count_by (t n) (b ∷ bs)) (passes-cons n b bs) (count_cons (t n) b bs)
    where
      joined : (x a c y z w : ℕ) → x ≡ a + y → w ≡ c + z → x + w ≡ (a + c) + (y + z)
      joined x a c y z w e f = omega arith

  passes-nil : (n : ℕ) → passes n [] ≡ 0
  passes-nil zero = refl
  passes-nil (suc n) = ap (λ k. k + 0) (passes-nil n) ∙ omega arith

  module _ (top : ℕ) (apart : (b : Block) (j k : ℕ) → j < k → k < top → t j b ≡ true → t k b ≡ true → ⊥) where
    passed_none : (n m : ℕ) (b : Block) → n ≤ m → m < top → t m b ≡ true → passed n b ≡ 0
    passed_none zero m b le lt met = refl
    passed_none (suc n) m b le lt met = go (passed_none n m b (omega arith) lt met) (t n b) refl
      where
        go : passed n b ≡ 0 → (v : Bool) → t n b ≡ v → passed n b + cond v 1 0 ≡ 0
        go none true e = absurd (apart b n m (omega arith) lt e met)
        go none false e = omega (arith, none)

    passed_one : (n : ℕ) (b : Block) → n ≤ top → passed n b ≤ 1
    passed_one zero b le = omega arith
    passed_one (suc n) b le = go (passed_one n b (omega arith)) (t n b) refl
      where
        go : passed n b ≤ 1 → (v : Bool) → t n b ≡ v → passed n b + cond v 1 0 ≤ 1
        go most true e = omega (arith, passed_none n n b (omega arith) (omega arith) e)
        go most false e = omega (arith, most)

    passes_most : (bs : List Block) → passes top bs ≤ length bs
    passes_most [] = omega (arith, passes-nil top)
    passes_most (b ∷ bs) = omega (arith, passes-cons top b bs, passed_one top b (omega arith), passes_most bs)

    passes_least : (n : ℕ) (bs : List Block) → ((k : ℕ) → k < n → 1 ≤ count_by (t k) bs) → n ≤ passes n bs
    passes_least zero bs some = omega arith
    passes_least (suc n) bs some = omega (arith, passes_least n bs (λ k lt. some k (omega arith)), some n (omega arith))

    pub pigeons : (bs : List Block) → ((k : ℕ) → k < top → 1 ≤ count_by (t k) bs) → top ≤ length bs
    pigeons bs some = omega (arith, passes_least top bs some, passes_most bs)
