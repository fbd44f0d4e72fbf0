-- Numbers in lines of the wire and of hosts' links (this project's own).
use Rattle.std.specs.Prelude.{◌≡◌, ◌⊎◌, ℕ, ◌<◌, List, [], ◌∷◌}
use Rattle.flat_model.specs.Scripts.Grammar.{IsNumber}

-- one number of at most `most`, and no other word
abbrev pub IsOneNumber : ℕ → List (List ℕ) → ℕ → Type 0
IsOneNumber most args n = (word : List ℕ) × (args ≡ word ∷ []) × IsNumber most word n

-- how many ticks: 1 if no word is left
abbrev pub IsTickCount : List (List ℕ) → ℕ → Type 0
IsTickCount args n = ((args ≡ []) × (n ≡ 1)) ⊎ (IsOneNumber 65535 args n × (0 < n))
