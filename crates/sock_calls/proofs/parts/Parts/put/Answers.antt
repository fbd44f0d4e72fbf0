use Rattle.std.proofs.Common.{refl}
use Rattle.mbuf_chain.proofs.Laws.Trains.{beside_adds, apart_adds}
use Rattle.sock_calls.specs.declared.packets.Heading.{Heading}
use Rattle.sock_calls.specs.Inside.Putting.{send_config, sent_as}
use Rattle.sock_calls.proofs.Made.{packets_fit, packets_made}
use Rattle.sock_calls.proofs.Making.{ready}
use Rattle.sock_calls.proofs.Queueing.{put_is}
use Rattle.sock_calls.proofs.parts.Parts.put.Goals as goal
use Rattle.sock_calls.proofs.parts.Parts.put.Goals.{After-datagram-chain}

pub send_packets-requires-clause-datagram : goal.send_packets-requires-clause-datagram
send_packets-requires-clause-datagram c = ready c.datagram-chain.ensures.lies c.requires.most

pub send_packets-requires-clause-queue : goal.send_packets-requires-clause-queue
send_packets-requires-clause-queue c = record {
  held = (beside_adds c.args.net.now.out c.datagram-chain.ensures.lies.made c.requires.queue.held).held;
  room = c.requires.queue.room;
}

pub send_packets-requires-clause-apart : goal.send_packets-requires-clause-apart
send_packets-requires-clause-apart c = apart_adds c.args.net.now.out c.datagram-chain.ensures.lies.made
    c.requires.queue.held

abbrev heading : (c : After-datagram-chain) → Heading
heading c = record {
  id = c.args.net.now.next_id;
  source = c.source_of.result;
  port = c.ensure_port_of.result;
  to = c.args.route.to;
}

pub unreachable-requires : goal.unreachable-requires
unreachable-requires c =
    let h = heading (goal.at.unreachable-requires c).After-datagram-chain in
    packets_fit (send_config c.args.self.now.pcbs c.args.net.now.mtu) (sent_as h c.args.bytes.now) c.requires.routed
    c.requires.uncut c.requires.free c.datagram-chain.ensures c.requires.way c.requires.longest c.in-Err.ensures.err

pub returns-clause-put : goal.returns-clause-put
returns-clause-put c =
    let h = heading (goal.at.returns-clause-put c).After-datagram-chain in
    put_is h refl refl c.source_of.ensures c.ensure_port_of.ensures.port c.ensure_port_of.ensures.descriptors
    (packets_made (send_config c.args.self.now.pcbs c.args.net.now.mtu) (sent_as h c.args.bytes.now)
    c.datagram-chain.ensures c.requires.way c.requires.longest c.ip_head-head.ensures c.requires.queue.held
    c.in-Ok.ensures.link c.in-Ok.ensures.lost c.in-Ok.ensures.looped c.in-Ok.ensures.cut c.in-Ok.ensures.held
    c.in-Ok.ensures.plain c.in-Ok.ensures.queue c.in-Ok.ensures.moves)
    c.count_send.ensures c.replace.ensures.after
