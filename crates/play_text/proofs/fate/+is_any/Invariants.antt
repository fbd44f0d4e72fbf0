use Rattle.std.proofs.Common.{length}
use Rattle.play_text.proofs.fate.+is_any.Given as goal

abbrev pub decreases-is_any : goal.decreases-is_any
decreases-is_any l = length l.all.now
