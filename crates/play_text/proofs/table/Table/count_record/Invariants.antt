use Rattle.std.proofs.Common.{◌≡◌, ℕ, ◌<◌, ◌≤◌, length, get_or}
use Rattle.flat_model.specs.declared.counters.Why.TheVariants.{TooSmall}
use Rattle.play_text.specs.Tables.{never_for, row_after}
use Rattle.play_text.specs.declared.words.TheConstants.{CAUSES}
use Rattle.play_text.proofs.table.Table.count_record.Given as goal

abbrev pub invariant-places : goal.invariant-places
invariant-places l = record {
  was : length l.fn.self.rows ≡ CAUSES;
  len : length l.self.rows ≡ CAUSES;
  counted : (k : ℕ) → k < l.place
      → get_or l.self.rows k (never_for TooSmall)
      ≡ row_after l.number l.before l.after (get_or l.fn.self.rows k (never_for TooSmall));
  left : (k : ℕ) → l.place ≤ k
      → get_or l.self.rows k (never_for TooSmall) ≡ get_or l.fn.self.rows k (never_for TooSmall);
}
