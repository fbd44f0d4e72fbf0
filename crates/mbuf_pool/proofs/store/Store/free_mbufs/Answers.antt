use Rattle.mbuf_pool.proofs.Reading.{free_mbufs_are, rest_are}
use Rattle.mbuf_pool.proofs.store.Store.free_mbufs.Goals as goal

pub returns-clause-value : goal.returns-clause-value
returns-clause-value c = free_mbufs_are c.self.inside c.args.self.now c.self.invariant c.self.view_is

pub returns-clause-rest : goal.returns-clause-rest
returns-clause-rest c = rest_are c.self.inside c.args.self.now c.self.invariant c.self.view_is
