use Rattle.mbuf_pool.proofs.Reading.{free_clusters_are}
use Rattle.mbuf_pool.proofs.store.Store.free_clusters.Goals as goal

pub returns : goal.returns
returns c = free_clusters_are c.self.inside c.args.self.now c.self.invariant c.self.view_is
