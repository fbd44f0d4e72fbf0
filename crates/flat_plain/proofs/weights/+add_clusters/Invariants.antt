use Rattle.std.proofs.Common.{length}
use Rattle.flat_plain.proofs.weights.+add_clusters.Given as goal

abbrev pub decreases-add_clusters : goal.decreases-add_clusters
decreases-add_clusters l = length l.clusters.now
