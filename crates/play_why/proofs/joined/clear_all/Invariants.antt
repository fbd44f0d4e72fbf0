use Rattle.std.proofs.Common.{◌≡◌, ℕ, ◌<◌, None}
use Rattle.play_why.specs.Joined.{spots_map}
use Rattle.play_why.proofs.joined.clear_all.Given as goal

abbrev pub invariant-places : goal.invariant-places
invariant-places l = (k : ℕ) → k < l.k → spots_map l.spots k ≡ None
