-- A walk over the clusters: the sum and the maximum of their counts, after one more cluster.
use Rattle.std.proofs.Common.{◌≡◌, ℕ, zero, suc, ◌+◌, List, [], ◌∷◌, ◌++◌, ap, ◌∙◌, arith}
use Rattle.std.specs.Prelude.{map, sum, fold, max}
use Rattle.std.specs.List.{range_with_len}
use Rattle.std.proofs.lemmas.List.{map-append}
use Rattle.std.proofs.lemmas.List.Sums.{fold-append}

range_more : (a n : ℕ) → range_with_len a (n + 1) ≡ range_with_len a n ++ (a + n) ∷ []
range_more a zero = ap (λ (k : ℕ). k ∷ []) (omega arith)
range_more a (suc n) =
    let one : suc n + 1 ≡ suc (n + 1) = omega arith in
    let last : a + 1 + n ≡ a + suc n = omega arith in
    ap (range_with_len a) one ∙ ap (λ (l : List ℕ). a ∷ l) (range_more (a + 1) n)
    ∙ ap (λ (k : ℕ). a ∷ (range_with_len (a + 1) n ++ k ∷ [])) last

module _ (g : ℕ → ℕ) where
  more : (n : ℕ) → map g (range_with_len 0 (n + 1)) ≡ map g (range_with_len 0 n) ++ g n ∷ []
  more n =
      ap (map g) (range_more 0 n) ∙ map-append g (range_with_len 0 n) ((0 + n) ∷ [])
      ∙ ap (λ (k : ℕ). map g (range_with_len 0 n) ++ g k ∷ []) (omega arith)

  pub sum_more : (n : ℕ) → sum (map g (range_with_len 0 (n + 1))) ≡ sum (map g (range_with_len 0 n)) + g n
  sum_more n = ap sum (more n) ∙ fold-append (λ a x. a + x) 0 (map g (range_with_len 0 n)) (g n ∷ [])

  pub greatest_more : (n : ℕ) → fold max 0 (map g (range_with_len 0 (n + 1)))
      ≡ max (fold max 0 (map g (range_with_len 0 n))) (g n)
  greatest_more n = ap (fold max 0) (more n) ∙ fold-append max 0 (map g (range_with_len 0 n)) (g n ∷ [])
