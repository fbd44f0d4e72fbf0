use Rattle.std.proofs.Common.{arith}
use Rattle.mbuf_pool.specs.Store.{cluster_count}
use Rattle.mbuf_pool.proofs.Sums.{sum_more, greatest_more}
use Rattle.mbuf_pool.proofs.store.Store.counts.Goals as goal

pub clusters-preserved : goal.clusters-preserved
clusters-preserved c = record {
  sum =
      omega (
        arith,
        c.clusters.invariant.sum,
        c.count-count.ensures.value,
        sum_more (cluster_count c.args.self.now) c.clusters.cluster,
      );
  few = omega (arith, c.clusters.invariant.few, c.count-count.ensures.few);
  greatest = elim c.if-greatest-count.branch [
    | goal.then-greatest-count w ↦ omega (
      arith,
      greatest_more (cluster_count c.args.self.now) c.clusters.cluster,
      c.clusters.invariant.greatest,
      c.count-count.ensures.value,
    )
    | goal.else-greatest-count w ↦ omega (
      arith,
      greatest_more (cluster_count c.args.self.now) c.clusters.cluster,
      c.clusters.invariant.greatest,
      c.count-count.ensures.value,
    )
  ];
}
