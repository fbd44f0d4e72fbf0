use Rattle.std.proofs.Common.{sym, ap, ◌∙◌}
use Rattle.mbuf_chain.specs.Chain.{PoolView, references}
use Rattle.mbuf_chain.proofs.Made.{unreferenced}
use Rattle.mbuf_chain.proofs.pool.Pool.count.Goals as goal

pub returns : goal.returns
returns c =
    c.count.ensures.value ∙ sym (unreferenced c.self.inside.store c.self.invariant c.args.cluster)
    ∙ ap (λ (p : PoolView). references p c.args.cluster) c.self.view_is
