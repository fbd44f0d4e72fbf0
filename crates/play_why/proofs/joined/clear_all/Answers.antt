use Rattle.std.proofs.Common.{◌≡◌, ℕ, ◌<◌, ◌≤◌, ◌⊎◌, inl, inr, List, Option, None, length, ap, arith}
use Rattle.std.proofs.lemmas.Bool.{cases_lt}
use Rattle.std.proofs.lemmas.List.{get_or_past}
use Rattle.play_why.specs.Joined.{spot_held, spots_map}
use Rattle.play_why.specs.declared.joined.Spot.{Spot}
use Rattle.play_why.proofs.joined.clear_all.Goals as goal

all_clear : (spots : List (Option Spot)) (i k : ℕ) → ((j : ℕ) → j < i → spots_map spots j ≡ None) → length spots ≤ i
    → spots_map spots k ≡ None
all_clear spots i k below end = go (cases_lt k i)
  where
    go : (k < i) ⊎ (i ≤ k) → spots_map spots k ≡ None
    go (inl less) = below k less
    go (inr more) = ap spot_held (get_or_past spots k None (omega (arith, end, more)))

pub returns : goal.returns
returns c = λ k. all_clear c.places.spots c.places.k k c.places.invariant (omega arith)
