use Rattle.std.proofs.Common.{sym, ap, ◌∙◌}
use Rattle.mbuf_chain.specs.Chain.{free_clusters}
use Rattle.mbuf_chain.proofs.Made.{free_are}
use Rattle.mbuf_chain.proofs.pool.Pool.free_clusters.Goals as goal

pub returns : goal.returns
returns c =
    c.free_clusters.ensures ∙ sym (free_are c.self.inside.store c.self.invariant) ∙ ap free_clusters c.self.view_is
