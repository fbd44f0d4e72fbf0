use Rattle.std.proofs.Common.{arith}
use Rattle.mbuf_pool.proofs.Reading.{counts_are, store_is}
use Rattle.mbuf_pool.proofs.store.Store.clusters.Goals as goal

pub returns-clause-value : goal.returns-clause-value
returns-clause-value c = omega (arith, counts_are c.self.inside c.args.self.now c.self.invariant c.self.view_is)

pub returns-clause-store : goal.returns-clause-store
returns-clause-store c = store_is c.self.inside c.args.self.now c.self.invariant c.self.view_is
