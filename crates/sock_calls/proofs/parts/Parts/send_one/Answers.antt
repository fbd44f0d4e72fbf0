use Rattle.std.proofs.Common.{◌≡◌, ℕ, ◌+◌, ◌%◌, ◌≤◌, ◌∷◌, [], ◌++◌, List, false, map, length, refl, sym, ap, subst, ◌∙◌, arith}
use Rattle.std.specs.Prelude.{Ok, Some}
use Rattle.flat_model.specs.Amounts.Layout.{Need, need}
use Rattle.flat_model.specs.Machine.Send.{need_to}
use Rattle.flat_model.specs.declared.config.Config.{Config}
use Rattle.mbuf_chain.specs.Owners.{Moves}
use Rattle.mbuf_chain.specs.Train.{QueuedPacket, follow, numbers, queued_packet_of, queued_packets}
use Rattle.mbuf_chain.proofs.Laws.Trains.{beside_adds, apart_adds, held_same}
use Rattle.mbuf_chain.specs.Frames.{SameAt}
use Rattle.mbuf_chain.proofs.Laws.Owners.{moves_adds, same_nothing}
use Rattle.ledger.specs.Accounts.{item_of}
use Rattle.ledger.specs.Reserve.{are_free}
use Rattle.ip_out.specs.Packets.{AreBegunPlain}
use Rattle.ip_out.specs.declared.sending.Sent.{Sent}
use Rattle.ip_out.specs.declared.ways.Way.{Way}
use Rattle.pcb_table.specs.Table.{block_at}
use Rattle.sock_calls.specs.Inside.Destination.{ChecksSend}
use Rattle.sock_calls.specs.Inside.Putting.{AreMade, IsPut, send_config, sent_as, way_of}
use Rattle.sock_calls.specs.declared.packets.Heading.{Heading}
use Rattle.sock_calls.proofs.Going.{sent_is}
use Rattle.sock_calls.proofs.Copies.{named_at}
use Rattle.sock_calls.proofs.Made.{packets_made}
use Rattle.sock_calls.proofs.Making.{ready}
use Rattle.sock_calls.proofs.OnePacket.{by_link, mtu_link, need_link}
use Rattle.sock_calls.proofs.Queueing.{put_is}
use Rattle.sock_calls.proofs.parts.Parts.send_one.Goals as goal
use Rattle.sock_calls.proofs.parts.Parts.send_one.Goals.{In-Some-indexed}

-- the block is that of its own descriptor
its_own : (c : In-Some-indexed)
    → block_at c.in-Some-indexed.block.now.fd c.args.self.now.pcbs ≡ Some c.in-Some-indexed.block.now
its_own c =
    ap (λ (k : ℕ). block_at k c.args.self.now.pcbs)
    (named_at c.args.self.now.pcbs c.args.fd c.in-Some-indexed.block.now c.in-Some-indexed.ensures)
    ∙ c.in-Some-indexed.ensures

pub port_of-requires : goal.port_of-requires
port_of-requires c = its_own (goal.at.port_of-requires c).In-Some-indexed

pub link_target-requires : goal.link_target-requires
link_target-requires c = its_own (goal.at.link_target-requires c).In-Some-indexed

pub source_of-requires : goal.source_of-requires
source_of-requires c = its_own (goal.at.source_of-requires c).In-Some-indexed

pub push_one-requires-clause-queue : goal.push_one-requires-clause-queue
push_one-requires-clause-queue c = record {
  held = (beside_adds c.args.net.now.out c.datagram_of_one-chain.ensures.lies.made c.requires.out.held).held;
  room = c.requires.out.room;
}

few : {n : ℕ} → n ≤ 1992 → n ≤ 9216
few most = omega arith

pub push_one-requires-clause-datagram : goal.push_one-requires-clause-datagram
push_one-requires-clause-datagram c = ready c.datagram_of_one-chain.ensures.lies (few c.in-Some.ensures.most)

pub push_one-requires-clause-apart : goal.push_one-requires-clause-apart
push_one-requires-clause-apart c =
    apart_adds c.args.net.now.out c.datagram_of_one-chain.ensures.lies.made c.requires.out.held

pub returns-clause-sent : goal.returns-clause-sent
returns-clause-sent c = λ _.
    let p = c.args.pool.now in
    let q = c.datagram_of_one-chain.new.pool in
    let r = c.push_one.new.pool in
    let t = c.args.self.now.pcbs in
    let n = c.args.net.now in
    let b = c.in-Some-indexed.block.now in
    let len : ℕ = length c.args.bytes.now in
    let mtu : ℕ = n.mtu in
    let ip : ℕ = c.in-Some-link_target.target.ip in
    let cfg : Config = send_config t n.mtu in
    let h : Heading =
    record {
      id = n.next_id;
      source = c.source_of.result;
      port = c.in-Some-port_of.port;
      to = c.in-Some-link_target.target;
    } in
    let made : Sent = record { looped = n.looped; is_cut = false; is_lost = false } in
    let none : numbers r n.looped ≡ [] = ap (λ (k : ℕ). follow r k n.looped.first) c.requires.none in
    let none_queued : queued_packets r n.looped ≡ [] = ap (map (queued_packet_of r)) none in
    let same : SameAt p r (numbers p n.looped) =
    same_nothing p r (numbers p n.looped) (ap (λ (k : ℕ). follow p k n.looped.first) c.requires.none)
    (c.push_one.ensures.moves.mbufs ∙ (moves_adds c.datagram_of_one-chain.ensures.lies.made).mbufs) in
    let link : Way.Link ≡ way_of cfg ip = by_link cfg ip c.in-Some-link_target.ensures.other in
    let fits : len + 28 ≤ mtu = c.in-Some.ensures.fits in
    let are : AreMade p cfg (sent_as h c.args.bytes.now) n.out r made c.push_one.new.self =
    packets_made {p = p} {q = q} {r = r} {chain = c.datagram_of_one-chain.result} {mtu = mtu} {way = Way.Link}
    {head = c.ip_head.result} {o = n.out} {u = c.push_one.new.self} {made = made} cfg (sent_as h c.args.bytes.now)
    c.datagram_of_one-chain.ensures link (sym (mtu_link cfg ip link)) c.ip_head.ensures c.requires.out.held
    (c.push_one.ensures.packets mtu fits) (c.push_one.ensures.lost mtu fits)
    (ap (map (λ (queued_packet : QueuedPacket). item_of queued_packet.entries)) none_queued)
    (c.push_one.ensures.cut mtu fits) (held_same p r n.looped same c.requires.looped)
    (subst AreBegunPlain (sym none_queued) tt) c.push_one.ensures.queue
    (subst (λ (xs : List ℕ). Moves q (c.datagram_of_one-chain.result ∷ numbers q n.out) r
    (xs ++ numbers r c.push_one.new.self)) (sym none) c.push_one.ensures.moves) in
    let named : b.fd ≡ c.args.fd = named_at t c.args.fd b c.in-Some-indexed.ensures in
    let put =
    put_is {p = p} {q = r} {t = t} {u = t} {n = n} {made = made} {o = c.push_one.new.self} {back = n.looped}
    {d = c.count.new.self} {fd = b.fd} {to = c.in-Some-link_target.target} {bytes = c.args.bytes.now} h refl refl
    c.source_of.ensures c.in-Some-port_of.ensures.same refl are c.count.ensures refl in
    let put_here =
    subst (λ (k : ℕ). IsPut k c.in-Some-link_target.target c.args.bytes.now p t n false r t
    (record {
      mtu = n.mtu;
      next_id = (n.next_id + 1) % 65536;
      counters = c.count.new.self;
      out = c.push_one.new.self;
      looped = n.looped;
    })) named put in
    let checked =
    subst (λ (k : ℕ). ChecksSend t n.mtu k c.args.to len (Ok c.in-Some-link_target.target)) named
    (c.in-Some-link_target.ensures.target n.mtu len (few c.in-Some.ensures.most)) in
    let wanted : c.in-Some.wants ≡ need_to cfg ip len =
    c.in-Some.ensures.need ∙ ap (need len) (sym (mtu_link cfg ip link)) ∙ sym (need_link cfg ip len link) in
    sent_is b (Ok len) c.requires put_here c.requires.socks.apart c.in-Some-indexed.ensures checked
    (ap (λ (x : Need). are_free p x.mbufs x.clusters) (sym wanted) ∙ sym c.are_free.ensures ∙ c.if-not-are_free.false)
    refl tt
