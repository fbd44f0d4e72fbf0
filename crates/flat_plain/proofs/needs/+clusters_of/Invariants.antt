use Rattle.std.proofs.Common.{length}
use Rattle.flat_plain.proofs.needs.+clusters_of.Given as goal

abbrev pub decreases-clusters_of : goal.decreases-clusters_of
decreases-clusters_of l = length l.rooms.now
