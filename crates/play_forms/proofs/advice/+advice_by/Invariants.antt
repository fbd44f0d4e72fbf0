use Rattle.std.proofs.Common.{length}
use Rattle.play_forms.proofs.advice.+advice_by.Given as goal

abbrev pub decreases-advice_by : goal.decreases-advice_by
decreases-advice_by l = length l.wanted.now
