use Rattle.std.proofs.Common.{◌≡◌, ℕ, ◌<◌, length, get_or}
use Rattle.flat_model.specs.declared.counters.Why.TheVariants.{TooSmall}
use Rattle.play_text.specs.Tables.{never_for}
use Rattle.play_text.specs.declared.words.TheConstants.{CAUSES}
use Rattle.play_text.proofs.table.Table.new.Given as goal

abbrev pub invariant-places : goal.invariant-places
invariant-places l = record {
  len : length l.rows ≡ CAUSES;
  made : (k : ℕ) → k < l.place → get_or l.rows k (never_for TooSmall) ≡ never_for (get_or l.whys k TooSmall);
}
