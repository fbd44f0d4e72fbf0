use Rattle.mbuf_chain.proofs.Opening.{over_pool, over_empty}
use Rattle.mbuf_chain.proofs.pool.Pool.over.Goals as goal

pub invariant_of-result : goal.invariant_of-result
invariant_of-result c = over_pool c.args.store c.requires.mbufs c.requires.clusters c.laws.ensures

pub returns : goal.returns
returns c = over_empty c.args.store c.requires.mbufs c.requires.clusters c.laws.ensures
