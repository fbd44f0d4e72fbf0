use Rattle.std.proofs.Common.{◌≡◌, ℕ, ◌<◌, ◌≤◌, List, Option, None}
use Rattle.std.specs.Prelude.{slice_index_or}
use Rattle.flat_model.specs.Fragments.Overlay.{Fragment, overlay}
use Rattle.play_why.specs.Joined.{as_fragment, spots_map}
use Rattle.play_why.specs.declared.joined.Spot.{Spot}
use Rattle.play_why.proofs.joined.insert.Given as goal

-- the offsets below i have their new bytes, and all others the old ones
pub record IsInserted (old new : List (Option Spot)) (f : Fragment) (i : ℕ) : Type 0 where
  pub below : (k : ℕ) → k < i → spots_map new k ≡ overlay (spots_map old) f k
  pub ahead : (k : ℕ) → i ≤ k → slice_index_or new k None ≡ slice_index_or old k None

abbrev pub invariant-places : goal.invariant-places
invariant-places l = IsInserted l.fn.spots l.spots (as_fragment l.offset l.bytes) l.k
