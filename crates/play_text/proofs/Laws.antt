-- A list whose elements are a function of those of another list.
use Rattle.std.proofs.Common.{◌≡◌, ℕ, suc, ◌<◌, List, [], ◌∷◌, length, get_or, map, refl, ap₂, arith}
use Rattle.play_text.specs.declared.table.Row.{Row}
use Rattle.play_text.specs.declared.table.Table.{Table}

pub mapped : {A B : Type 0} (f : A → B) (xs : List A) (ys : List B) (d : A) (e : B) → length ys ≡ length xs
    → ((k : ℕ) → k < length xs → get_or ys k e ≡ f (get_or xs k d)) → ys ≡ map f xs
mapped f [] [] d e len same = refl
mapped f [] (y ∷ ys) d e len same = absurd (omega (arith, len))
mapped f (x ∷ xs) [] d e len same = absurd (omega (arith, len))
mapped {B = B} f (x ∷ xs) (y ∷ ys) d e len same =
    ap₂ (λ (b : B) (bs : List B). b ∷ bs) (same 0 (omega arith))
    (mapped f xs ys d e (omega (arith, len)) (λ k h. same (suc k) (omega (arith, h))))

abbrev pub table_of : List Row → Table
table_of rows = record { rows = rows }
