use Rattle.std.proofs.Common.{length}
use Rattle.play_forms.proofs.nearest.+named.Given as goal

abbrev pub decreases-named : goal.decreases-named
decreases-named l = length l.commands.now
