-- A list whose elements move down by one index, one step at a time.
use Rattle.std.proofs.Common.{◌≡◌, ℕ, zero, suc, ◌+◌, ◌<◌, List, [], ◌∷◌, length, get_or, set, subst, ap, refl, arith}
use Rattle.std.specs.Prelude.{remove}

-- removing element i: the next one is copied to index i, and then index i + 1 is removed
remove_next : {X : Type 0} (xs : List X) (i : ℕ) (d : X) → suc i < length xs
    → remove (set xs i (get_or xs (suc i) d)) (suc i) ≡ remove xs i
remove_next [] i d lt = absurd (omega arith)
remove_next (x ∷ []) i d lt = absurd (omega arith)
remove_next (x ∷ y ∷ xs) zero d lt = refl
remove_next (x ∷ y ∷ xs) (suc i) d lt = ap (λ ys. x ∷ ys) (remove_next (y ∷ xs) i d (omega arith))

pub remove_moves : {X : Type 0} (xs : List X) (i : ℕ) (d : X) → i + 1 < length xs
    → remove (set xs i (get_or xs (i + 1) d)) (i + 1) ≡ remove xs i
remove_moves xs i d lt =
    let e : suc i ≡ i + 1 = omega arith in
    subst (λ k. remove (set xs i (get_or xs k d)) k ≡ remove xs i) e (remove_next xs i d (omega (arith, lt)))
