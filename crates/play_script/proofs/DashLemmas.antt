-- Laws of lines of settings.
use Rattle.std.proofs.Common.{◌≡◌, ℕ, ◌==◌, ◌&&◌, Bool, true, false, List, [], ◌∷◌, get_or, refl, sym, ap, subst}
use Rattle.std.specs.List.{onto_first}
use Rattle.std.proofs.lemmas.Bool.{eqb-true, false≢true}
use Rattle.flat_model.specs.Scripts.Grammar.{words}
use Rattle.play_script.specs.Settings.{has_dashes}

both : (a b : Bool) → (a && b) ≡ true → a ≡ true
both true b h = refl
both false b h = h

first_onto : (x : ℕ) (ws more : List (List ℕ)) (word : List ℕ) → onto_first x ws ≡ word ∷ more → get_or word 0 0 ≡ x
first_onto x [] more word e = let h : x ∷ [] ≡ word = cc in ap (λ (t : List ℕ). get_or t 0 0) (sym h)
first_onto x (w ∷ ws) more word e = let h : x ∷ w ≡ word = cc in ap (λ (t : List ℕ). get_or t 0 0) (sym h)

-- the first word of a line of settings begins with a dash
pub first_dash : (plain word : List ℕ) (more : List (List ℕ)) → has_dashes plain ≡ true → words plain ≡ word ∷ more
    → get_or word 0 0 ≡ 45
first_dash [] word more h e = absurd (false≢true h)
first_dash (b ∷ bs) word more h e =
    let is : b ≡ 45 = eqb-true b 45 (both (b == 45) _ h) in
    let at : words (45 ∷ bs) ≡ word ∷ more = subst (λ (n : ℕ). words (n ∷ bs) ≡ word ∷ more) is e in
    first_onto 45 (words bs) more word at
