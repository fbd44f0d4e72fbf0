use Rattle.std.proofs.Common.{◌≡◌, ℕ, ◌<◌, ◌≤◌, length, get_or}
use Rattle.flat_model.specs.declared.counters.Why.TheVariants.{TooSmall}
use Rattle.play_text.specs.Tables.{never_for}
use Rattle.play_text.specs.declared.words.TheConstants.{CAUSES}
use Rattle.play_why.specs.Verdicts.{row_judged}
use Rattle.play_why.proofs.table.causes_judged.Given as goal

abbrev pub invariant-places : goal.invariant-places
invariant-places l = record {
  was : length l.fn.table.rows ≡ CAUSES;
  len : length l.rows ≡ CAUSES;
  judged : (k : ℕ) → k < l.place
      → get_or l.rows k (never_for TooSmall)
      ≡ row_judged l.seen l.before l.after (get_or l.fn.table.rows k (never_for TooSmall));
  left : (k : ℕ) → l.place ≤ k
      → get_or l.rows k (never_for TooSmall) ≡ get_or l.fn.table.rows k (never_for TooSmall);
}
