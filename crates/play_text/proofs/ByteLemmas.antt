-- How many leading bytes two lists have in common.
use Rattle.std.proofs.Common.{◌≡◌, ℕ, ◌+◌, ◌<◌, ◌≤◌, true, List, [], ◌∷◌, length, drop, get_or, inl, inr, refl, sym, ap, ap₂, ◌∙◌, arith}
use Rattle.std.specs.Prelude.{◌/◌, ◌&&◌, ◌||◌, Bool, ◌++◌, codes, decimal, min, nat_lt}
use Rattle.std.proofs.lemmas.Bool.{cases_lt}
use Rattle.std.proofs.lemmas.List.{drop_all, drop_more}
use Rattle.play_text.specs.Bytes.{alike, apart_text, is_long}

both : (a b : List ℕ) (at : ℕ) → at < length a → at < length b
    → alike (drop at a) (drop at b) ≡ alike (get_or a at 0 ∷ drop (at + 1) a) (get_or b at 0 ∷ drop (at + 1) b)
both a b at h k = ap₂ alike (drop_more a at 0 h) (drop_more b at 0 k)

none_left : (a : List ℕ) → alike a [] ≡ 0
none_left [] = refl
none_left (x ∷ a) = refl

pub alike_ends : (a b : List ℕ) (at : ℕ) → min (length a) (length b) ≤ at → alike (drop at a) (drop at b) ≡ 0
alike_ends a b at h =
    elim (cases_lt at (length a)) [
      | inr le ↦ ap (λ (t : List ℕ). alike t (drop at b)) (drop_all at a le)
      | inl lt ↦
          ap (λ (t : List ℕ). alike (drop at a) t) (drop_all at b (omega (arith, h, lt))) ∙ none_left (drop at a)
    ]

-- one list is abbreviated, and neither of them ends at the first difference
abbrev are_apart : List ℕ → List ℕ → ℕ → Bool
are_apart a b same = (is_long a || is_long b) && nat_lt same (min (length a) (length b))

abbrev from_text : ℕ → List ℕ
from_text same = codes ", which differ from byte " ++ decimal (same / 2) ++ codes " on"

apart_so : (a b : List ℕ) → are_apart a b (alike a b) ≡ true → apart_text a b ≡ from_text (alike a b)
apart_so a b h = rw h refl

pub apart_is : (a b : List ℕ) (same : ℕ) (so : Bool) (old new : List ℕ) → same ≡ alike a b → so ≡ are_apart a b same
    → so ≡ true → new ≡ old ++ from_text same → new ≡ old ++ apart_text a b
apart_is a b same so old new e f t is =
    let h : are_apart a b (alike a b) ≡ true = ap (λ (n : ℕ). are_apart a b n) (sym e) ∙ sym f ∙ t in
    is ∙ ap (λ (n : ℕ). old ++ from_text n) e ∙ ap (λ (text : List ℕ). old ++ text) (sym (apart_so a b h))
