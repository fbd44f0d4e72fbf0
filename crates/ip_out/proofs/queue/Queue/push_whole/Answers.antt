use Rattle.std.proofs.Common.{ℕ, ◌≤◌, sym, subst, arith}
use Rattle.mbuf_chain.specs.Chain.{chain_of}
use Rattle.mbuf_chain.proofs.Laws.Owners.{moves_without}
use Rattle.ip_out.specs.Packets.{AreBegunPlain}
use Rattle.ip_out.proofs.Sends.{aside, aside_gone, no_room, one_packet}
use Rattle.ip_out.proofs.queue.Queue.push_whole.Goals as goal

pub returns-then-len-ge-OUTPUT_QUEUE_PACKETS : goal.returns-then-len-ge-OUTPUT_QUEUE_PACKETS
returns-then-len-ge-OUTPUT_QUEUE_PACKETS c =
    let has = c.requires.has in
    let held = c.requires.queue.held in
    let a =
    aside c.args.chain c.args.self.now
    (moves_without c.args.pool.now c.free_chain.new.self c.args.chain has.live c.free_chain.ensures) has.live held
    c.requires.apart in
    let gone = aside_gone c.args.chain c.args.self.now c.free_chain.ensures has.live held c.requires.apart in
    let left = λ (mtu : ℕ). λ (fits : c.args.len ≤ mtu).
    no_room c.args.pool.now c.free_chain.new.self c.args.self.now _ c.requires.queue
    (omega (arith, c.len.ensures, c.if-len-ge-OUTPUT_QUEUE_PACKETS.true))
    (one_packet (chain_of c.args.pool.now c.args.chain) c.args.head c.args.len mtu has.datagram has.len fits)
    a.same_packets in
    record {
      packets = λ mtu fits. (left mtu fits).items;
      is_lost = λ mtu fits. (left mtu fits).is_lost;
      plain = subst AreBegunPlain (sym a.same_queued);
      queue = record { held = gone.0; room = c.requires.queue.room };
      moves = gone.1;
    }

pub returns : goal.returns
returns c = record {
  packets = c.push_one.ensures.packets;
  is_lost = c.push_one.ensures.lost;
  plain = c.push_one.ensures.plain;
  queue = c.push_one.ensures.queue;
  moves = c.push_one.ensures.moves;
}
