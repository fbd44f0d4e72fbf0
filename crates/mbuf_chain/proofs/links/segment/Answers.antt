use Rattle.std.proofs.Common.{arith}
use Rattle.mbuf_chain.proofs.Heads.{shown_at}
use Rattle.mbuf_chain.proofs.Places.{segment_is}
use Rattle.mbuf_chain.proofs.Grows.{rooms_at}
use Rattle.mbuf_chain.proofs.Reading.{cluster_known}
use Rattle.mbuf_chain.proofs.links.segment.Goals as goal

pub head-head-requires : goal.head-head-requires
head-head-requires c = (shown_at c.requires).out

pub returns-clause-value : goal.returns-clause-value
returns-clause-value c =
    segment_is _ _ _ _ (shown_at c.requires) c.head-head.ensures.value

pub returns-clause-known : goal.returns-clause-known
returns-clause-known c = cluster_known c.requires

pub returns-clause-low : goal.returns-clause-low
returns-clause-low c =
    let r =
    rooms_at c.requires c.head-head.ensures.value in
    omega (arith, r.low, r.low_is)

pub returns-clause-high : goal.returns-clause-high
returns-clause-high c =
    let r =
    rooms_at c.requires c.head-head.ensures.value in
    omega (arith, r.high, r.high_is)
