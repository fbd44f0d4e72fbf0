use Rattle.std.proofs.Common.{◌≡◌, ℕ, ◌<◌, false, length, get_or}
use Rattle.flat_model.specs.declared.counters.Why.TheVariants.{TooSmall}
use Rattle.play_text.specs.Fates.{is_dropped_for}
use Rattle.play_text.specs.declared.words.TheConstants.{CAUSES}
use Rattle.play_text.proofs.fate.drops_between.Given as goal

abbrev pub invariant-places : goal.invariant-places
invariant-places l = record {
  len : length l.drops ≡ CAUSES;
  made : (k : ℕ) → k < l.place
      → get_or l.drops k false ≡ is_dropped_for l.before l.after (get_or l.whys k TooSmall);
}
