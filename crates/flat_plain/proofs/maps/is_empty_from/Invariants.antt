use Rattle.std.proofs.Common.{ℕ, ◌<◌, ◌≤◌, ◌≡◌, None}
use Rattle.flat_plain.specs.Tables.{plain_map}
use Rattle.flat_plain.proofs.maps.is_empty_from.Given as goal

abbrev pub invariant-loop-k : goal.invariant-loop-k
invariant-loop-k l = (j : ℕ) → l.n ≤ j → j < l.k → plain_map l.cells j ≡ None
