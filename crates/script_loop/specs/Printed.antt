-- The output for lines, for any program that replies to them one after another (this project's own).
use Rattle.std.specs.Prelude.{◌≡◌, ℕ, List, [], ◌∷◌, ◌++◌}

-- `gives` says which text a line may get in a state, and which state follows.
module _ {S : Type 0} (gives : S → List ℕ → List ℕ → S → Type 0) where
  -- the possible output for these lines, on the way from old to new
  abbrev pub Prints : S → List (List ℕ) → List ℕ → S → Type 0
  Prints old [] printed new = (new ≡ old) × (printed ≡ [])
  Prints old (line ∷ lines) printed new =
      (mid : S) × (text rest : List ℕ) × gives old line text mid × Prints mid lines rest new × (printed ≡ text ++ rest)
