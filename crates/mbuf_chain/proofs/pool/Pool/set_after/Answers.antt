use Rattle.std.proofs.Common.{sym, subst, ap, ◌∙◌}
use Rattle.std.specs.Option.{IfSome}
use Rattle.mbuf_pool.proofs.Laws.{sets_out}
use Rattle.mbuf_chain.specs.Chain.{PoolView, IsLive, chain_of, with_chain}
use Rattle.mbuf_chain.specs.Steps.{placed}
use Rattle.mbuf_chain.proofs.Bounds.{bounded, reported}
use Rattle.mbuf_chain.proofs.Focused.{open_on, first_out}
use Rattle.mbuf_chain.proofs.Trained.{Placed, has_packet_in, packet_after, placed_made, trained_twice}
use Rattle.mbuf_chain.proofs.pool.Pool.set_after.Goals as goal
use Rattle.mbuf_chain.proofs.pool.Pool.set_after.Goals.{After-change_head-2}

pub change_head-requires-clause-out : goal.change_head-requires-clause-out
change_head-requires-clause-out c =
    first_out c.self.inside.store c.args.number (open_on c.self.inside.store c.args.number c.self.invariant
    (subst (λ (p : PoolView). IsLive p c.args.number) (sym c.self.view_is) c.requires.live)).at

pub change_head-requires-clause-possible : goal.change_head-requires-clause-possible
change_head-requires-clause-possible c =
    reported c.self.inside.store c.args.after c.self.invariant
    (subst (λ (p : PoolView). IfSome c.args.after (IsLive p)) (sym c.self.view_is) c.requires.link)

pub change_head-requires-2-clause-out : goal.change_head-requires-2-clause-out
change_head-requires-2-clause-out c =
    sets_out c.self.inside.store c.change_head.new.self c.args.number _
    (first_out c.self.inside.store c.args.number (open_on c.self.inside.store c.args.number c.self.invariant
    (subst (λ (p : PoolView). IsLive p c.args.number) (sym c.self.view_is) c.requires.live)).at)
    c.change_head.ensures.change

pub change_head-requires-2-clause-possible : goal.change_head-requires-2-clause-possible
change_head-requires-2-clause-possible c =
    let has = has_packet_in c.self.invariant c.self.view_is c.requires.live c.requires.headed in
    packet_after c.self.inside.store c.change_head.new.self c.args.number c.args.after has.packet c.self.invariant
    has.live has.is c.change_head.ensures.change

made : (c : After-change_head-2)
    → Placed c.self.inside.store c.change_head-2.new.self c.args.number c.args.after c.args.tag
made c =
    let has = has_packet_in c.self.invariant c.self.view_is c.requires.live c.requires.headed in
    placed_made c.self.inside.store c.change_head-2.new.self c.args.number c.args.after c.args.tag has.packet
    c.self.invariant has.live has.headed has.is
    (trained_twice c.self.inside.store c.change_head.new.self c.change_head-2.new.self c.args.number c.args.after
    c.args.tag has.packet c.self.invariant has.live has.is c.change_head.ensures.change
    c.change_head-2.ensures.change) c.change_head-2.ensures.store

pub invariant_of-self : goal.invariant_of-self
invariant_of-self c = (made (goal.at.invariant_of-self c).After-change_head-2).pool

pub returns-clause-placed : goal.returns-clause-placed
returns-clause-placed c =
    (made (goal.at.returns-clause-placed c).After-change_head-2).map_is
    ∙ ap (λ (p : PoolView). with_chain p c.args.number (placed (chain_of p c.args.number) c.args.after c.args.tag))
    c.self.view_is

pub returns-clause-bounds : goal.returns-clause-bounds
returns-clause-bounds c =
    bounded c.change_head-2.new.self (made (goal.at.returns-clause-bounds c).After-change_head-2).pool
