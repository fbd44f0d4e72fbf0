use Rattle.std.proofs.Common.{sym, ap, ◌∙◌}
use Rattle.std.specs.Prelude.{sum, fold, max}
use Rattle.mbuf_chain.specs.Chain.{PoolView, reference_counts}
use Rattle.mbuf_chain.proofs.Made.{counts_are}
use Rattle.mbuf_chain.proofs.pool.Pool.usage.Goals as goal

pub returns-clause-references : goal.returns-clause-references
returns-clause-references c =
    c.counts-counts.ensures.sum ∙ ap sum (sym (counts_are c.self.inside.store c.self.invariant))
    ∙ ap (λ (p : PoolView). sum (reference_counts p)) c.self.view_is

pub returns-clause-greatest : goal.returns-clause-greatest
returns-clause-greatest c =
    c.counts-counts.ensures.greatest ∙ ap (fold max 0) (sym (counts_are c.self.inside.store c.self.invariant))
    ∙ ap (λ (p : PoolView). fold max 0 (reference_counts p)) c.self.view_is
