-- The output for one more line.
use Rattle.std.proofs.Common.{◌≡◌, ℕ, List, [], ◌∷◌, ◌++◌, refl, sym, ap, ◌∙◌, append_assoc, append-nil, subst}
use Rattle.script_loop.specs.Printed.{Prints}

pub Prints-push : {S : Type 0} (gives : S → List ℕ → List ℕ → S → Type 0) (old mid new : S) (lines : List (List ℕ))
    (printed line text : List ℕ)
    → Prints gives old lines printed mid → gives mid line text new
    → Prints gives old (lines ++ line ∷ []) (printed ++ text) new
Prints-push gives old mid new [] printed line text p a = (
  new,
  text,
  [],
  subst (λ s. gives s line text new) p.0 a,
  (refl, refl),
  ap (λ (t : List ℕ). t ++ text) p.1
      ∙ sym (append-nil text),
)
Prints-push gives old mid new (l ∷ lines) printed line text p a = (
  p.0,
  p.1,
  p.2 ++ text,
  p.3,
  Prints-push gives p.0 mid new lines p.2 line text p.4 a,
  ap (λ (t : List ℕ). t ++ text) p.5 ∙ append_assoc p.1 p.2 text,
)

pub Prints-same : {S : Type 0} (gives : S → List ℕ → List ℕ → S → Type 0) (old new : S) (lines lines' : List (List ℕ))
    (printed printed' : List ℕ)
    → lines ≡ lines' → printed ≡ printed' → Prints gives old lines printed new → Prints gives old lines' printed' new
Prints-same gives old new lines lines' printed printed' e e' h =
    subst (λ (ls : List (List ℕ)). Prints gives old ls printed' new) e
    (subst (λ (t : List ℕ). Prints gives old lines t new) e' h)
