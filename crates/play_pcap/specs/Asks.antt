-- The lines that play a capture (this project's own).
use Rattle.std.specs.Prelude.{◌≡◌, ◌⊎◌, ℕ, ◌<◌, ◌≤◌, ◌+◌, ◌==◌, true, false, List, [], ◌∷◌, take, drop, position, codes, Option, Some, None}
use Rattle.flat_model.specs.Scripts.Grammar.{words, IsNumber}
use Rattle.play_pcap.specs.declared.ask.Details.{Details}
use Rattle.play_pcap.specs.declared.ask.Range.{Range}

-- the records from one number, which isn't 0, to another, which isn't less than the first
pub record IsPair (first last : List ℕ) (r : Range) : Type 0 where
  pub begins : IsNumber 4294967295 first r.first
  pub ends : IsNumber 4294967295 last r.last
  pub some : 0 < r.first
  pub order : r.first ≤ r.last

-- the same as `N-M`, split at the first dash
abbrev pub IsRange : List ℕ → Range → Type 0
IsRange word r =
    (at : ℕ) × (position (λ byte. byte == 45) word ≡ Some at) × IsPair (take at word) (drop (at + 1) word) r

abbrev pub IsRanged : List ℕ → Option Range → Type 0
IsRanged word None = ⊥
IsRanged word (Some r) = IsRange word r

-- the words after a file's name
abbrev pub IsDetails : List (List ℕ) → Details → Type 0
IsDetails [] d = (d.range ≡ None) × (d.ticks ≡ false)
IsDetails (word ∷ []) d =
    ((word ≡ codes "ticks") × (d.range ≡ None) × (d.ticks ≡ true)) ⊎ (IsRanged word d.range × (d.ticks ≡ false))
IsDetails (word ∷ second ∷ []) d = IsRanged word d.range × (second ≡ codes "ticks") × (d.ticks ≡ true)
IsDetails (word ∷ second ∷ third ∷ more) d = ⊥

-- the line plays the capture in the file of this name
abbrev pub IsAsked : List ℕ → List ℕ → Details → Type 0
IsAsked line name d =
    (rest : List (List ℕ)) × (words line ≡ codes "rx" ∷ codes "pcap" ∷ name ∷ rest) × IsDetails rest d
