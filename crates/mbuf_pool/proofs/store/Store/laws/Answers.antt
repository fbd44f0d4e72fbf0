use Rattle.mbuf_pool.proofs.Reading.{store_is}
use Rattle.mbuf_pool.proofs.store.Store.laws.Goals as goal

pub returns : goal.returns
returns c = store_is c.self.inside c.args.self.now c.self.invariant c.self.view_is
