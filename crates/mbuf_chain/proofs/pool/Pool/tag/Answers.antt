use Rattle.std.proofs.Common.{◌≡◌, Option, sym, subst, ap, ◌∙◌}
use Rattle.mbuf_pool.specs.Cells.{Head, PacketHeader}
use Rattle.mbuf_chain.specs.Chain.{Front, PoolView, IsLive, chain_of}
use Rattle.mbuf_chain.specs.Inside.Cells.{arrival_of}
use Rattle.mbuf_chain.proofs.Focused.{open_on, first_out}
use Rattle.mbuf_chain.proofs.Places.{front_is}
use Rattle.mbuf_chain.proofs.pool.Pool.tag.Goals as goal
use Rattle.mbuf_chain.proofs.pool.Pool.tag.Goals.{After-head}

pub head-requires : goal.head-requires
head-requires c =
    first_out c.self.inside.store c.args.number (open_on c.self.inside.store c.args.number c.self.invariant
    (subst (λ (p : PoolView). IsLive p c.args.number) (sym c.self.view_is) c.requires)).at

tag_is : (c : After-head) (packet : Option PacketHeader) → c.head.result.packet ≡ packet
    → arrival_of packet ≡ (chain_of c.args.self.now c.args.number).front.tag
tag_is c packet is =
    ap arrival_of (sym (ap (λ (h : Head). h.packet) (sym c.head.ensures.value) ∙ is))
    ∙ ap (λ (f : Front). f.tag) (front_is c.self.inside.store c.args.number c.self.invariant
    (subst (λ (p : PoolView). IsLive p c.args.number) (sym c.self.view_is) c.requires))
    ∙ ap (λ (p : PoolView). (chain_of p c.args.number).front.tag) c.self.view_is

pub returns-in-Some : goal.returns-in-Some
returns-in-Some c = tag_is (goal.at.returns-in-Some c).After-head _ c.in-Some.is

pub returns-in-None : goal.returns-in-None
returns-in-None c = tag_is (goal.at.returns-in-None c).After-head _ c.in-None.is
