use Rattle.std.proofs.Common.{◌≡◌, ◌+◌, Some}
use Rattle.mbuf_chain.specs.Inside.Cells.{LeadsToEnd, cells_from, len_at, weigh, one}
use Rattle.mbuf_chain.proofs.cells.bytes_from.Given as goal

abbrev pub invariant-mbufs : goal.invariant-mbufs
invariant-mbufs l = record {
  whole : LeadsToEnd l.store l.at;
  sum : l.total + weigh (len_at l.store) (cells_from l.store l.at)
      ≡ weigh (len_at l.store) (cells_from l.store (Some l.fn.first));
}

abbrev pub decreases-mbufs : goal.decreases-mbufs
decreases-mbufs l = weigh one (cells_from l.store l.at)
