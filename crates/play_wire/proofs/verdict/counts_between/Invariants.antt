use Rattle.std.proofs.Common.{◌≡◌, ℕ, ◌<◌, false, length, get_or}
use Rattle.play_wire.specs.Verdicts.{is_counted}
use Rattle.play_wire.specs.declared.link_count.LinkCount.TheVariants.{Ignored}
use Rattle.play_wire.specs.declared.verdict.TheConstants.{COUNTS}
use Rattle.play_wire.proofs.verdict.counts_between.Given as goal

abbrev pub invariant-places : goal.invariant-places
invariant-places l = record {
  len : length l.counted ≡ COUNTS;
  made : (k : ℕ) → k < l.place
      → get_or l.counted k false ≡ is_counted l.before l.after (get_or l.which k Ignored);
}
