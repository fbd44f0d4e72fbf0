use Rattle.std.proofs.Common.{sym, ◌∙◌}
use Rattle.mbuf_chain.proofs.Heads.{shown_at}
use Rattle.mbuf_chain.proofs.Grows.{BackElse, BackReported, rooms_at, back_then, back_else}
use Rattle.mbuf_chain.proofs.links.trailing_space.Goals as goal
use Rattle.mbuf_chain.proofs.links.trailing_space.Goals.{Then-is_some, Else-is_some}

pub head-head-requires : goal.head-head-requires
head-head-requires c = (shown_at c.requires).out

-- the room in a cluster, and in an mbuf without one
of_cluster : (c : Then-is_some) → BackReported c.args.store.now c.args.first c.args.at 0
of_cluster c =
    back_then c.args.store.now c.args.first c.args.at c.head-head.result
    (rooms_at c.requires c.head-head.ensures.value) (sym c.is_some.ensures ∙ c.if-is_some.true)

own : (c : Else-is_some) → BackElse c.args.store.now c.args.first c.args.at c.head-head.result
own c =
    back_else c.args.store.now c.args.first c.args.at c.head-head.result
    (rooms_at c.requires c.head-head.ensures.value) (sym c.is_some.ensures ∙ c.if-is_some.false)

pub overflow_sub-result : goal.overflow_sub-result
overflow_sub-result c = (own (goal.at.overflow_sub-result c).Else-is_some).less

pub overflow_sub-result-else-is_some : goal.overflow_sub-result-else-is_some
overflow_sub-result-else-is_some c = (own (goal.at.overflow_sub-result-else-is_some c).Else-is_some).fits

pub returns-then-is_some-clause-value : goal.returns-then-is_some-clause-value
returns-then-is_some-clause-value c = (of_cluster (goal.at.returns-then-is_some-clause-value c).Then-is_some).value

pub returns-then-is_some-clause-within : goal.returns-then-is_some-clause-within
returns-then-is_some-clause-within c = (of_cluster (goal.at.returns-then-is_some-clause-within c).Then-is_some).within

pub returns-else-is_some-clause-value : goal.returns-else-is_some-clause-value
returns-else-is_some-clause-value c = (own (goal.at.returns-else-is_some-clause-value c).Else-is_some).reported.value

pub returns-else-is_some-clause-within : goal.returns-else-is_some-clause-within
returns-else-is_some-clause-within c = (own (goal.at.returns-else-is_some-clause-within c).Else-is_some).reported.within
