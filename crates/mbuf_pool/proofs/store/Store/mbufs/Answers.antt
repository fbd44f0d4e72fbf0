use Rattle.std.proofs.Common.{◌∙◌}
use Rattle.mbuf_pool.proofs.Reading.{heads_are, store_is}
use Rattle.mbuf_pool.proofs.store.Store.mbufs.Goals as goal

pub returns-clause-value : goal.returns-clause-value
returns-clause-value c = c.self.invariant.0 ∙ heads_are c.self.inside c.args.self.now c.self.invariant c.self.view_is

pub returns-clause-store : goal.returns-clause-store
returns-clause-store c = store_is c.self.inside c.args.self.now c.self.invariant c.self.view_is
