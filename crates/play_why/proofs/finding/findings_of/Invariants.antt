use Rattle.std.proofs.Common.{◌≡◌, ℕ, ◌<◌, None, length, get_or}
use Rattle.flat_model.specs.declared.counters.Why.TheVariants.{TooSmall}
use Rattle.play_text.specs.declared.words.TheConstants.{CAUSES}
use Rattle.play_why.specs.Findings.{finding_if}
use Rattle.play_why.proofs.finding.findings_of.Given as goal

abbrev pub invariant-places : goal.invariant-places
invariant-places l = record {
  len : length l.found ≡ CAUSES;
  made : (k : ℕ) → k < l.place
      → get_or l.found k None
      ≡ finding_if l.seen l.counted.before.now l.counted.after.now l.ours (get_or l.whys k TooSmall);
}
