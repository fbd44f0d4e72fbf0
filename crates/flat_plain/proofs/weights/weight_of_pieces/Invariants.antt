use Rattle.std.proofs.Common.{◌≡◌, ℕ, ◌*◌, ◌^◌, ◌≤◌}
use Rattle.flat_model.specs.Amounts.Weight as flat
use Rattle.flat_model.specs.Fragments.Whole.{pieces_below}
use Rattle.flat_plain.specs.Tables.{plain_map}
use Rattle.flat_plain.specs.Weights.{plain_weight}
use Rattle.flat_plain.proofs.weights.weight_of_pieces.Given as goal

-- the pieces that begin below k were added
pub record AreAdded (have pieces : flat.Weight) (k : ℕ) : Type 0 where
  pub weight : have ≡ pieces
  pub most : have.mbufs ≤ 2 ^ 32 * k

abbrev pub invariant-loop-k : goal.invariant-loop-k
invariant-loop-k l =
    AreAdded (plain_weight l.weight) (flat.all_of (λ piece. piece.weight) (pieces_below l.k (plain_map l.cells))) l.k
