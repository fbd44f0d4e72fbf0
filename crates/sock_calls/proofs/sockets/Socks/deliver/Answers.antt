use Rattle.std.proofs.Common.{sym, subst}
use Rattle.sock_calls.specs.Sockets.{SocksFit, SocksView}
use Rattle.sock_calls.specs.Delivery.{net_view, whole_of}
use Rattle.sock_calls.specs.Inside.Parts.{socks_of}
use Rattle.sock_calls.specs.Whole.{DeliversWhole}
use Rattle.sock_calls.proofs.sockets.Socks.deliver.Goals as goal

pub deliver_packet-requires-clause-fit : goal.deliver_packet-requires-clause-fit
deliver_packet-requires-clause-fit g c =
    let p = c.args.pool.now in
    subst (λ (v : SocksView). SocksFit p v (g.R.Reclaim.owned p c.args.waiting.now)) (sym c.self.view_is) c.requires.fit

pub returns-clause-delivered : goal.returns-clause-delivered
returns-clause-delivered g c =
    let p = c.args.pool.now in
    let w = c.args.waiting.now in
    let r = c.deliver_packet.new.pool in
    subst (λ (v : SocksView). DeliversWhole
    (net_view p v (g.R.Waiting.unfinished p w) (g.R.Reclaim.owned p w) c.args.counters.now)
    c.args.packet.now.packet.now (whole_of c.deliver_packet.result c.deliver_packet.new.reached)
    (net_view r (socks_of c.deliver_packet.new.self) (g.R.Waiting.unfinished r c.deliver_packet.new.waiting)
    (g.R.Reclaim.owned r c.deliver_packet.new.waiting) c.deliver_packet.new.counters))
    c.self.view_is c.deliver_packet.ensures.delivered
