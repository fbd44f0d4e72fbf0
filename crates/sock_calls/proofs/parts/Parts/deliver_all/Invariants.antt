use Rattle.std.proofs.Common.{◌≤◌, ◌-◌}
use Rattle.sock_calls.specs.Delivery.{net_view}
use Rattle.sock_calls.specs.Inside.Delivering.{IsUnderWay}
use Rattle.sock_calls.specs.Inside.Parts.{socks_of}
use Rattle.sock_calls.proofs.parts.Parts.deliver_all.Given as goal

abbrev pub invariant-receivers : goal.invariant-receivers
invariant-receivers g l = record {
  way : IsUnderWay
      (net_view l.fn.pool (socks_of l.fn.self) (g.R.Waiting.unfinished l.fn.pool l.fn.waiting)
      (g.R.Reclaim.owned l.fn.pool l.fn.waiting) l.fn.counters)
      l.datagram.chain l.fds l.datagram.sender l.i l.reached
      (net_view l.pool (socks_of l.self) (g.R.Waiting.unfinished l.pool l.waiting)
      (g.R.Reclaim.owned l.pool l.waiting) l.counters);
  within : l.i ≤ l.last;
  waits : g.R.Reclaim.is_ready l.pool l.waiting;
}

abbrev pub decreases-receivers : goal.decreases-receivers
decreases-receivers g l = l.last - l.i
