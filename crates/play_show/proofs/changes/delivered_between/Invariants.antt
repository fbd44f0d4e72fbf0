use Rattle.std.proofs.Common.{◌≡◌, ℕ, ◌<◌, false, length, get_or}
use Rattle.std.specs.Prelude.{nat_lt}
use Rattle.params.specs.declared.TheConstants.{MAX_SOCKETS}
use Rattle.play_show.proofs.changes.delivered_between.Given as goal

abbrev pub invariant-places : goal.invariant-places
invariant-places l = record {
  len : length l.delivered ≡ MAX_SOCKETS;
  compared : (k : ℕ) → k < l.place
      → get_or l.delivered k false ≡ nat_lt (get_or l.before.waiting k 0) (get_or l.after.waiting k 0);
}
