use Rattle.std.proofs.Common.{length}
use Rattle.play_packet.proofs.mark.+named.Given as goal

abbrev pub decreases-named : goal.decreases-named
decreases-named l = length l.among.now
