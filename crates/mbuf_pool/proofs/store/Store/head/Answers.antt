use Rattle.std.proofs.Common.{◌∙◌}
use Rattle.mbuf_pool.proofs.Reading.{index_is, head_is}
use Rattle.mbuf_pool.proofs.store.Store.head.Goals as goal

pub head-requires : goal.head-requires
head-requires c = index_is c.self.inside c.args.self.now c.self.invariant c.self.view_is c.args.index c.requires

pub returns-clause-value : goal.returns-clause-value
returns-clause-value c =
    c.head.ensures.value ∙ head_is c.self.inside c.args.self.now c.self.invariant c.self.view_is c.args.index c.requires
