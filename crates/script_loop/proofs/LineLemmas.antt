-- One more byte after an input.
use Rattle.std.proofs.Common.{◌≡◌, ◌≢◌, ℕ, ◌==◌, true, false, cond, List, [], ◌∷◌, ◌++◌, refl, ap, ◌∙◌, arith, append-nil}
use Rattle.flat_model.specs.Scripts.Lines.{whole_lines_after, begun_after, whole_lines, begun_line}

pub whole_lines_after-append : (begun xs ys : List ℕ)
    → whole_lines_after begun (xs ++ ys) ≡ whole_lines_after begun xs ++ whole_lines_after (begun_after begun xs) ys
whole_lines_after-append begun [] ys = refl
whole_lines_after-append begun (b ∷ xs) ys =
    elim (b == 10) as (λ v. cond v (begun ∷ whole_lines_after [] (xs ++ ys))
    (whole_lines_after (begun ++ b ∷ []) (xs ++ ys))
    ≡ cond v (begun ∷ whole_lines_after [] xs) (whole_lines_after (begun ++ b ∷ []) xs)
    ++ whole_lines_after (cond v (begun_after [] xs) (begun_after (begun ++ b ∷ []) xs)) ys) [
      | true ↦ ap (λ (t : List (List ℕ)). begun ∷ t) (whole_lines_after-append [] xs ys)
      | false ↦ whole_lines_after-append (begun ++ b ∷ []) xs ys
    ]

pub begun_after-append : (begun xs ys : List ℕ) → begun_after begun (xs ++ ys) ≡ begun_after (begun_after begun xs) ys
begun_after-append begun [] ys = refl
begun_after-append begun (b ∷ xs) ys =
    elim (b == 10) as (λ v. cond v (begun_after [] (xs ++ ys)) (begun_after (begun ++ b ∷ []) (xs ++ ys))
    ≡ begun_after (cond v (begun_after [] xs) (begun_after (begun ++ b ∷ []) xs)) ys) [
      | true ↦ begun_after-append [] xs ys
      | false ↦ begun_after-append (begun ++ b ∷ []) xs ys
    ]

-- the byte that ends a line
pub whole_lines-end : (seen : List ℕ) → whole_lines (seen ++ 10 ∷ []) ≡ whole_lines seen ++ begun_line seen ∷ []
unfolding whole_lines begun_line
whole_lines-end seen = whole_lines_after-append [] seen (10 ∷ [])

pub begun_line-end : (seen : List ℕ) → begun_line (seen ++ 10 ∷ []) ≡ []
unfolding begun_line
begun_line-end seen = begun_after-append [] seen (10 ∷ [])

-- another byte
other_byte : (b : ℕ) → b ≢ 10 → (b == 10) ≡ false
other_byte b other = grind arith

pub whole_lines-more : (seen : List ℕ) (b : ℕ) → b ≢ 10 → whole_lines (seen ++ b ∷ []) ≡ whole_lines seen
unfolding whole_lines
whole_lines-more seen b other =
    whole_lines_after-append [] seen (b ∷ []) ∙ (let e : (b == 10) ≡ false = other_byte b other in rw e (append-nil _))

pub begun_line-more : (seen : List ℕ) (b : ℕ) → b ≢ 10 → begun_line (seen ++ b ∷ []) ≡ begun_line seen ++ b ∷ []
unfolding begun_line
begun_line-more seen b other =
    begun_after-append [] seen (b ∷ []) ∙ (let e : (b == 10) ≡ false = other_byte b other in rw e)
