use Rattle.std.proofs.Common.{◌≡◌, ◌+◌, ◌-◌, ◌≤◌, Some, drop}
use Rattle.mbuf_pool.specs.Store.{mbuf_head}
use Rattle.mbuf_chain.specs.Inside.Cells.{LeadsToEnd, cells_from, len_at, weigh}
use Rattle.mbuf_chain.proofs.links.end_of.Given as goal

abbrev pub invariant-mbufs : goal.invariant-mbufs
invariant-mbufs l = record {
  some : 1 ≤ l.counter;
  head : l.head ≡ mbuf_head l.store l.at;
  whole : LeadsToEnd l.store (Some l.at);
  rest : cells_from l.store (Some l.at) ≡ drop (l.counter - 1) (cells_from l.store (Some l.first));
  sum : l.bytes + weigh (len_at l.store) (drop l.counter (cells_from l.store (Some l.first)))
      ≡ weigh (len_at l.store) (cells_from l.store (Some l.first));
}
