use Rattle.std.proofs.Common.{◌≡◌, drop}
use Rattle.play_text.specs.Words.{all_causes}
use Rattle.play_why.specs.Verdicts.{blamed_by}
use Rattle.play_why.proofs.table.blamed.Given as goal

abbrev pub invariant-loop-why : goal.invariant-loop-why
invariant-loop-why l =
    blamed_by l.blame l.seen l.before l.after (drop l.why-index l.why-items) l.now
    ≡ blamed_by l.blame l.seen l.before l.after all_causes l.fn.count
