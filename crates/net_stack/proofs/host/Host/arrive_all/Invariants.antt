use Rattle.std.proofs.Common.{◌++◌}
use Rattle.mbuf_chain.specs.Owners.{IsOwned}
use Rattle.mbuf_chain.specs.Train.{IsHeld, numbers}
use Rattle.ip_out.specs.Packets.{BeginPlain}
use Rattle.ip_reass.specs.Table.{IsReady}
use Rattle.sock_calls.specs.Delivery.{chains_at}
use Rattle.net_stack.specs.Inside.Arrivals.{AreArriving}
use Rattle.net_stack.specs.Inside.Hosts.{KeepsOutput, arrival_view}
use Rattle.net_stack.proofs.host.Host.arrive_all.Given as goal

abbrev pub invariant-packets : goal.invariant-packets
invariant-packets l = record {
  way : AreArriving (arrival_view l.fn.self) l.fn.train (arrival_view l.self) l.train;
  reass : IsReady l.self.pool l.self.reass;
  held : IsHeld l.self.pool l.train;
  plain : BeginPlain l.self.pool l.train;
  owned : IsOwned l.self.pool (numbers l.self.pool l.train ++ chains_at (arrival_view l.self));
  output : KeepsOutput l.fn.self.net l.self.net;
}

abbrev pub decreases-packets : goal.decreases-packets
decreases-packets l = l.train.len
