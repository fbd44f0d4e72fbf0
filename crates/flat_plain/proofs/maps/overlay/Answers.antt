use Rattle.std.proofs.Common.{arith, ℕ, ◌<◌, ◌≤◌, length, ap, sym, ◌∙◌, ◌⊎◌, inl, inr, None, ◌≡◌, Option, List}
use Rattle.std.proofs.lemmas.Bool.{cases_lt}
use Rattle.std.proofs.lemmas.List.{get_or_past}
use Rattle.flat_model.specs.Fragments.Overlay as Overlay
use Rattle.flat_plain.specs.declared.maps.Cell.{Cell}
use Rattle.flat_plain.specs.Tables.{plain_map, held_of}
use Rattle.flat_plain.proofs.Placing.{place_next}
use Rattle.flat_plain.proofs.maps.overlay.Invariants.{IsOverlaid}
use Rattle.flat_plain.proofs.maps.overlay.Goals as goal

all_overlaid : (old new : List (Option Cell)) (f : Overlay.Fragment) (i k : ℕ) → IsOverlaid old new f i → length old ≤ i
    → length new ≡ length old → Overlay.fragment_end f ≤ length old
    → plain_map new k ≡ Overlay.overlay (plain_map old) f k
all_overlaid old new f i k is past same inside = go (cases_lt k i)
  where
    go : (k < i) ⊎ (i ≤ k) → plain_map new k ≡ Overlay.overlay (plain_map old) f k
    go (inl lt) = is.below k lt
    go (inr le) =
        ap held_of (get_or_past new k None (omega arith))
        ∙ sym (place_next (plain_map old) f k (length old) (omega arith) inside
        (ap held_of (get_or_past old k None (omega arith))))

pub returns : goal.returns
returns c =
    λ k. all_overlaid _ _ _ c.loop-k.k k c.loop-k.invariant (omega arith) (omega arith)
    (omega (arith, c.requires.inside))
