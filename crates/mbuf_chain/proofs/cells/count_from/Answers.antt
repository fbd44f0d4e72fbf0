use Rattle.std.proofs.Common.{Some, arith}
use Rattle.mbuf_chain.specs.Inside.Cells.{cells_from, weigh, one}
use Rattle.mbuf_chain.proofs.Lists.{Goes, goes, few_cells}
use Rattle.mbuf_chain.proofs.cells.count_from.Goals as goal
use Rattle.mbuf_chain.proofs.cells.count_from.Goals.{After-head-head}

step : (c : After-head-head)
    → Goes c.args.store.now one (weigh one (cells_from c.args.store.now (Some c.args.first))) c.mbufs.total
    c.in-Some.cell c.head-head.result
step c =
    goes c.args.store.now one _ c.mbufs.total _ _ _ c.in-Some.is c.mbufs.invariant.whole c.mbufs.invariant.sum
    c.head-head.ensures.value

pub overflow_add-total : goal.overflow_add-total
overflow_add-total c =
    omega (
      arith,
      (step (goal.at.overflow_add-total c).After-head-head).sum,
      few_cells c.args.store.now (Some c.args.first),
      c.requires.store.mbufs,
    )

pub mbufs-smaller : goal.mbufs-smaller
mbufs-smaller c = (step (goal.at.mbufs-smaller c).After-head-head).shorter _ c.in-Some.is c.mbufs.invariant.whole

pub mbufs-preserved : goal.mbufs-preserved
mbufs-preserved c =
    let on = step (goal.at.mbufs-preserved c).After-head-head in
    record { whole = on.whole; sum = on.sum }
