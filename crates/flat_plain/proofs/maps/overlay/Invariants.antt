use Rattle.std.proofs.Common.{◌≡◌, ℕ, ◌<◌, ◌≤◌, List, Option, None}
use Rattle.std.specs.Prelude.{slice_index_or}
use Rattle.flat_model.specs.Fragments.Overlay as Overlay
use Rattle.flat_plain.specs.declared.maps.Cell.{Cell}
use Rattle.flat_plain.specs.Tables.{plain_map, plain_fragment}
use Rattle.flat_plain.proofs.maps.overlay.Given as goal

-- what was passed has its new cell, what is ahead its old one
pub record IsOverlaid (old new : List (Option Cell)) (f : Overlay.Fragment) (i : ℕ) : Type 0 where
  pub below : (k : ℕ) → k < i → plain_map new k ≡ Overlay.overlay (plain_map old) f k
  pub ahead : (k : ℕ) → i ≤ k → slice_index_or new k None ≡ slice_index_or old k None

abbrev pub invariant-loop-k : goal.invariant-loop-k
invariant-loop-k l = IsOverlaid l.fn.cells l.cells (plain_fragment l.fragment l.bytes) l.k
