use Rattle.std.proofs.Common.{sym, ◌∙◌}
use Rattle.mbuf_chain.proofs.Heads.{shown_at}
use Rattle.mbuf_chain.proofs.Grows.{FrontElse, FrontReported, rooms_at, front_then, front_else}
use Rattle.mbuf_chain.proofs.links.leading_space.Goals as goal
use Rattle.mbuf_chain.proofs.links.leading_space.Goals.{Then-is_some, After-data_start}

pub head-head-requires : goal.head-head-requires
head-head-requires c = (shown_at c.requires).out

-- the room in a cluster, and in an mbuf without one
of_cluster : (c : Then-is_some) → FrontReported c.args.store.now c.args.first c.args.at 0
of_cluster c =
    front_then c.args.store.now c.args.first c.args.at c.head-head.result
    (rooms_at c.requires c.head-head.ensures.value) (sym c.is_some.ensures ∙ c.if-is_some.true)

own : (c : After-data_start)
    → FrontElse c.args.store.now c.args.first c.args.at c.head-head.result c.data_start.result
own c =
    front_else c.args.store.now c.args.first c.data_start.result c.args.at c.head-head.result
    (rooms_at c.requires c.head-head.ensures.value) (sym c.is_some.ensures ∙ c.if-is_some.false) c.data_start.ensures

pub overflow_sub-result : goal.overflow_sub-result
overflow_sub-result c = (own (goal.at.overflow_sub-result c).After-data_start).less

pub returns-then-is_some-clause-value : goal.returns-then-is_some-clause-value
returns-then-is_some-clause-value c = (of_cluster (goal.at.returns-then-is_some-clause-value c).Then-is_some).value

pub returns-then-is_some-clause-within : goal.returns-then-is_some-clause-within
returns-then-is_some-clause-within c = (of_cluster (goal.at.returns-then-is_some-clause-within c).Then-is_some).within

pub returns-else-is_some-clause-value : goal.returns-else-is_some-clause-value
returns-else-is_some-clause-value c = (own (goal.at.returns-else-is_some-clause-value c).After-data_start).reported.value

pub returns-else-is_some-clause-within : goal.returns-else-is_some-clause-within
returns-else-is_some-clause-within c = (own (goal.at.returns-else-is_some-clause-within c).After-data_start).reported.within
