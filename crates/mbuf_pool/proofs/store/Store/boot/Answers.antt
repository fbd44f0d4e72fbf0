use Rattle.std.proofs.Common.{◌≡◌, arith, subst}
use Rattle.mbuf_pool.proofs.Booting.{MbufsLeft, ClustersLeft, clusters_first, all_free}
use Rattle.mbuf_pool.proofs.store.Store.boot.Goals as goal

pub loop-cluster-init : goal.loop-cluster-init
loop-cluster-init c =
    let end : c.loop-index.index ≡ 0 = omega arith in
    clusters_first c.args.sizes c.loop-index.store
    (subst (MbufsLeft c.args.sizes c.loop-index.store) end c.loop-index.invariant)

pub returns-clause-ok : goal.returns-clause-ok
returns-clause-ok c =
    let end : c.loop-cluster.cluster ≡ 0 = omega arith in
    all_free c.args.sizes c.loop-cluster.store
    (subst (ClustersLeft c.args.sizes c.loop-cluster.store) end c.loop-cluster.invariant)
