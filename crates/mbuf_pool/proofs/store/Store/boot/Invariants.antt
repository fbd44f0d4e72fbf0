use Rattle.mbuf_pool.proofs.Booting.{MbufsLeft, ClustersLeft}
use Rattle.mbuf_pool.proofs.store.Store.boot.Given as goal

abbrev pub invariant-loop-index : goal.invariant-loop-index
invariant-loop-index l = MbufsLeft l.fn.sizes l.store l.index

abbrev pub invariant-loop-cluster : goal.invariant-loop-cluster
invariant-loop-cluster l = ClustersLeft l.fn.sizes l.store l.cluster
