use Rattle.std.proofs.Common.{◌≡◌, Option, Some, arith, refl, sym, ap, subst, ◌∙◌}
use Rattle.std.specs.Prelude.{IsSome}
use Rattle.mbuf_pool.specs.Cells.{Head, PacketHeader}
use Rattle.mbuf_pool.specs.Store.{mbuf_head}
use Rattle.mbuf_chain.proofs.Heads.{IsSet, total_known, total_right, total_set, total_sets}
use Rattle.mbuf_chain.proofs.data.set_total.Goals as goal
use Rattle.mbuf_chain.proofs.data.set_total.Goals.{After-change_head, In-Some}

pub head-head-requires : goal.head-head-requires
head-head-requires c = (total_known _ _ _ _ c.requires.off c.requires.live).out

packet : (c : In-Some) → (mbuf_head c.args.store.now c.args.first).packet ≡ Some c.in-Some.packet
packet c = ap (λ (h : Head). h.packet) (sym c.head-head.ensures.value) ∙ c.in-Some.is

pub overflow_add-len : goal.overflow_add-len
overflow_add-len c =
    omega (
      arith,
      ((total_known _ _ _ _ c.requires.off c.requires.live).fits _ (packet (goal.at.overflow_add-len c).In-Some)).0,
      c.requires.few,
    )

pub overflow_sub-len : goal.overflow_sub-len
overflow_sub-len c =
    omega (
      arith,
      ((total_known _ _ _ _ c.requires.off c.requires.live).fits _ (packet (goal.at.overflow_sub-len c).In-Some)).1,
    )

pub change_head-requires-clause-out : goal.change_head-requires-clause-out
change_head-requires-clause-out c = (total_known _ _ _ _ c.requires.off c.requires.live).out

pub change_head-requires-clause-possible : goal.change_head-requires-clause-possible
change_head-requires-clause-possible c =
    subst (λ (o : Option PacketHeader). IsSome o)
    (sym (packet (goal.at.change_head-requires-clause-possible c).In-Some)) refl

set : (c : After-change_head) → IsSet c.args.store.now c.change_head.new.self
set c =
    let is = ap (λ (h : Head). h.packet) (sym c.head-head.ensures.value) ∙ c.in-Some.is in
    total_set _ _ _ _ _ c.in-Some.packet c.requires.off c.requires.live is
    (total_sets _ _ _ c.args.added c.args.removed c.in-Some.packet is c.change_head.ensures.change)
    c.change_head.ensures.store

pub returns-in-Some-clause-pool : goal.returns-in-Some-clause-pool
returns-in-Some-clause-pool c = (set (goal.at.returns-in-Some-clause-pool c).After-change_head).pool

pub returns-in-Some-clause-same : goal.returns-in-Some-clause-same
returns-in-Some-clause-same c = (set (goal.at.returns-in-Some-clause-same c).After-change_head).same

pub returns-in_default-clause-pool : goal.returns-in_default-clause-pool
returns-in_default-clause-pool c =
    total_right _ _ _ _ c.requires.off c.requires.live
    (ap (λ (h : Head). h.packet) (sym c.head-head.ensures.value) ∙ c.in_default.is)
