use Rattle.std.proofs.Common.{◌≡◌, ◌≤◌, ◌++◌}
use Rattle.page.specs.States.{below, cluster_object}
use Rattle.page.proofs.mbufs.put_clusters.Given as goal

abbrev pub invariant-clusters : goal.invariant-clusters
invariant-clusters l = record {
  within : l.cluster ≤ l.stack.pool.clusters;
  items : l.text.items ≡ l.fn.text.items ++ below (cluster_object l.stack) l.cluster;
}
