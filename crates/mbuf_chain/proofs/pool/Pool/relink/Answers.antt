use Rattle.std.proofs.Common.{◌≡◌, true, sym, subst, ap, ◌∙◌}
use Rattle.std.specs.Option.{IfSome}
use Rattle.mbuf_chain.specs.Chain.{PoolView, IsLive, chain_of, with_chain}
use Rattle.mbuf_chain.specs.Steps.{placed}
use Rattle.mbuf_chain.specs.Inside.Cells.{pool_of}
use Rattle.mbuf_chain.proofs.Bounds.{bounded, reported}
use Rattle.mbuf_chain.proofs.Focused.{open_on, first_out}
use Rattle.mbuf_chain.proofs.Trained.{Placed, relinked}
use Rattle.mbuf_chain.proofs.pool.Pool.relink.Goals as goal
use Rattle.mbuf_chain.proofs.pool.Pool.relink.Goals.{After-change_head}

pub change_head-requires-clause-out : goal.change_head-requires-clause-out
change_head-requires-clause-out c =
    first_out c.self.inside.store c.args.number (open_on c.self.inside.store c.args.number c.self.invariant
    (subst (λ (p : PoolView). IsLive p c.args.number) (sym c.self.view_is) c.requires.live)).at

pub change_head-requires-clause-possible : goal.change_head-requires-clause-possible
change_head-requires-clause-possible c =
    reported c.self.inside.store c.args.next c.self.invariant
    (subst (λ (p : PoolView). IfSome c.args.next (IsLive p)) (sym c.self.view_is) c.requires.link)

-- the packet has its new link
links : (c : After-change_head)
    → Placed c.self.inside.store c.change_head.new.self c.args.number c.args.next
    (chain_of (pool_of c.self.inside.store) c.args.number).front.tag
links c =
    relinked c.self.inside.store c.change_head.new.self c.args.number c.args.next c.self.invariant
    (subst (λ (p : PoolView). IsLive p c.args.number) (sym c.self.view_is) c.requires.live)
    (subst (λ (p : PoolView). (chain_of p c.args.number).front.header ≡ true) (sym c.self.view_is) c.requires.headed)
    c.change_head.ensures.change c.change_head.ensures.store

pub invariant_of-self : goal.invariant_of-self
invariant_of-self c = (links (goal.at.invariant_of-self c).After-change_head).pool

pub returns-clause-placed : goal.returns-clause-placed
returns-clause-placed c =
    (links (goal.at.returns-clause-placed c).After-change_head).map_is
    ∙ ap (λ (p : PoolView). with_chain p c.args.number
    (placed (chain_of p c.args.number) c.args.next (chain_of p c.args.number).front.tag)) c.self.view_is

pub returns-clause-bounds : goal.returns-clause-bounds
returns-clause-bounds c = bounded c.change_head.new.self (links (goal.at.returns-clause-bounds c).After-change_head).pool
