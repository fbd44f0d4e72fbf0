use Rattle.std.proofs.Common.{ℕ, Option, Some, sym, subst, ◌∙◌}
use Rattle.std.specs.Option.{IsSome}
use Rattle.mbuf_pool.specs.Store.{StoreView, mbuf_head}
use Rattle.mbuf_chain.specs.Inside.Cells.{cells_from, Freed}
use Rattle.mbuf_chain.proofs.Drops.{Dropped, dropped, first_ready, next_some}
use Rattle.mbuf_chain.proofs.links.free_first.Goals as goal

pub free_mbuf-requires-clause-out : goal.free_mbuf-requires-clause-out
free_mbuf-requires-clause-out c = (first_ready c.args.store.now c.args.first c.requires.chain.pool c.requires.chain.live).out

pub free_mbuf-requires-clause-known : goal.free_mbuf-requires-clause-known
free_mbuf-requires-clause-known c = (first_ready c.args.store.now c.args.first c.requires.chain.pool c.requires.chain.live).known

pub unwrap-requires : goal.unwrap-requires
unwrap-requires c =
    subst (λ (n : Option ℕ). IsSome n) (sym c.free_mbuf.ensures.next)
    (next_some c.args.store.now c.args.first c.requires.chain.pool c.requires.chain.live c.requires.several)

-- the rest of the chain
left : (c : goal.After-unwrap) → Dropped c.args.store.now c.free_mbuf.new.store c.args.first c.unwrap.result
left c =
    dropped c.args.store.now c.free_mbuf.new.store c.args.first c.unwrap.result c.requires.chain.pool c.requires.chain.live
    (sym c.free_mbuf.ensures.next ∙ c.unwrap.ensures)
    (subst (λ (t : StoreView). Freed c.args.store.now t (cells_from c.args.store.now (Some c.args.first))
    (cells_from c.args.store.now (mbuf_head c.args.store.now c.args.first).next)) (sym
    c.free_mbuf.ensures.freed) (first_ready c.args.store.now c.args.first c.requires.chain.pool c.requires.chain.live).freed)
    c.free_mbuf.ensures.store

pub returns-clause-pool : goal.returns-clause-pool
returns-clause-pool c = (left c).pool

pub returns-clause-change : goal.returns-clause-change
returns-clause-change c = (left c).adds
