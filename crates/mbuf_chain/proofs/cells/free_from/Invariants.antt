use Rattle.std.proofs.Common.{Some}
use Rattle.mbuf_pool.specs.Store.{IsStore}
use Rattle.mbuf_chain.specs.Inside.Cells.{LeadsToEnd, cells_from, weigh, one, Freed}
use Rattle.mbuf_chain.proofs.cells.free_from.Given as goal

abbrev pub invariant-mbufs : goal.invariant-mbufs
invariant-mbufs l = record {
  whole : LeadsToEnd l.fn.store l.at;
  freed : Freed l.fn.store l.store (cells_from l.fn.store (Some l.fn.first)) (cells_from l.fn.store l.at);
  store : IsStore l.store;
}

abbrev pub decreases-mbufs : goal.decreases-mbufs
decreases-mbufs l = weigh one (cells_from l.fn.store l.at)
