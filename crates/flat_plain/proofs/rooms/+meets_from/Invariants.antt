use Rattle.std.proofs.Common.{length}
use Rattle.flat_plain.proofs.rooms.+meets_from.Given as goal

abbrev pub decreases-meets_from : goal.decreases-meets_from
decreases-meets_from l = length l.rooms.now
