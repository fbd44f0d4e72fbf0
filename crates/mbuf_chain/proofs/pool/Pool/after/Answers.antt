use Rattle.std.proofs.Common.{sym, subst, ap, ◌∙◌}
use Rattle.mbuf_pool.specs.Cells.{Head}
use Rattle.mbuf_chain.specs.Chain.{Front, PoolView, IsLive, chain_of}
use Rattle.mbuf_chain.proofs.Focused.{open_on, first_out}
use Rattle.mbuf_chain.proofs.Places.{front_is}
use Rattle.mbuf_chain.proofs.pool.Pool.after.Goals as goal

pub head-requires : goal.head-requires
head-requires c =
    first_out c.self.inside.store c.args.number (open_on c.self.inside.store c.args.number c.self.invariant
    (subst (λ (p : PoolView). IsLive p c.args.number) (sym c.self.view_is) c.requires)).at

pub returns : goal.returns
returns c =
    ap (λ (h : Head). h.next_packet) c.head.ensures.value
    ∙ ap (λ (f : Front). f.after) (front_is c.self.inside.store c.args.number c.self.invariant
    (subst (λ (p : PoolView). IsLive p c.args.number) (sym c.self.view_is) c.requires))
    ∙ ap (λ (p : PoolView). (chain_of p c.args.number).front.after) c.self.view_is
