use Rattle.std.proofs.Common.{Some, arith, ap}
use Rattle.mbuf_pool.specs.Cells.{Head}
use Rattle.mbuf_chain.specs.Inside.Cells.{cells_from, len_at, weigh}
use Rattle.mbuf_chain.proofs.Lists.{Goes, goes, few_cells, bytes_bound}
use Rattle.mbuf_chain.proofs.cells.bytes_from.Goals as goal
use Rattle.mbuf_chain.proofs.cells.bytes_from.Goals.{After-head-head}

step : (c : After-head-head)
    → Goes c.args.store.now (len_at c.args.store.now)
    (weigh (len_at c.args.store.now) (cells_from c.args.store.now (Some c.args.first))) c.mbufs.total c.in-Some.cell
    c.head-head.result
step c =
    goes c.args.store.now (len_at c.args.store.now) _ c.mbufs.total _ _ _ c.in-Some.is c.mbufs.invariant.whole
    c.mbufs.invariant.sum c.head-head.ensures.value

pub overflow_add-total : goal.overflow_add-total
overflow_add-total c =
    let s = c.args.store.now in
    omega (
      arith,
      (step (goal.at.overflow_add-total c).After-head-head).sum,
      ap (λ (h : Head). h.len) c.head-head.ensures.value,
      bytes_bound s (Some c.args.first) (cells_from s (Some c.args.first)) c.requires.whole,
      few_cells s (Some c.args.first),
      c.requires.store.mbufs,
    )

pub mbufs-smaller : goal.mbufs-smaller
mbufs-smaller c = (step (goal.at.mbufs-smaller c).After-head-head).shorter _ c.in-Some.is c.mbufs.invariant.whole

pub mbufs-preserved : goal.mbufs-preserved
mbufs-preserved c =
    let on = step (goal.at.mbufs-preserved c).After-head-head in
    record { whole = on.whole; sum = omega (arith, on.sum, ap (λ (h : Head). h.len) c.head-head.ensures.value) }
