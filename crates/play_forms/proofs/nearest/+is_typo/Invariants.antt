use Rattle.std.proofs.Common.{length}
use Rattle.play_forms.proofs.nearest.+is_typo.Given as goal

abbrev pub decreases-is_typo : goal.decreases-is_typo
decreases-is_typo l = length l.word.now
