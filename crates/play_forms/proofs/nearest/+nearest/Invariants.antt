use Rattle.std.proofs.Common.{length}
use Rattle.play_forms.proofs.nearest.+nearest.Given as goal

abbrev pub decreases-nearest : goal.decreases-nearest
decreases-nearest l = length l.commands.now
