use Rattle.std.proofs.Common.{◌≡◌, ◌++◌, List, length, take, drop, arith, ap, sym, ◌∙◌, subst}
use Rattle.std.specs.Prelude.{nat_lt, sum_by}
use Rattle.params.specs.declared.TheConstants.{OUTPUT_QUEUE_PACKETS}
use Rattle.flat_model.specs.Amounts.Weight.{Item}
use Rattle.flat_model.specs.Fragments.Cuts.{Part}
use Rattle.mbuf_chain.specs.Chain.{chain_of}
use Rattle.mbuf_chain.specs.Train.{numbers}
use Rattle.mbuf_chain.proofs.Laws.Owners.{moves_without}
use Rattle.ip_out.specs.declared.ways.Way.{Way}
use Rattle.ip_out.specs.Packets.{train_packets, packets_of, part_need, AreBegunPlain}
use Rattle.ip_out.specs.Ways.{to_link_by, way_need}
use Rattle.ip_out.proofs.Sends.{IsAside, IsSentOut, aside, aside_gone, link_owned, one_part, sent_out}
use Rattle.ip_out.proofs.queue.Queue.send_packets.Goals as goal
use Rattle.ip_out.proofs.queue.Queue.send_packets.Goals.{After-push_all-is_lost, In_ok-link-in_default}

pub returns-in_err-link-in_default-clause-queue : goal.returns-in_err-link-in_default-clause-queue
returns-in_err-link-in_default-clause-queue c = record {
  held =
      (aside_gone c.args.chain c.args.self.now c.in_err-link-in_default.ensures.freed c.requires.live
      c.requires.queue.held c.requires.apart).0;
  room = c.requires.queue.room;
}

-- the queue, beside the packets that were made
beside : (c : In_ok-link-in_default) → IsAside c.args.pool.now c.make_packets.new.pool c.args.chain
    (numbers c.make_packets.new.pool c.in_ok-link-in_default.field-0.link
    ++ numbers c.make_packets.new.pool c.in_ok-link-in_default.field-0.looped) c.args.self.now
beside c =
    aside c.args.chain c.args.self.now c.in_ok-link-in_default.ensures.moves c.requires.live c.requires.queue.held
    c.requires.apart

-- the packets of the queue and those for the link
all : (c : In_ok-link-in_default) → train_packets c.make_packets.new.pool c.args.self.now
    ++ train_packets c.make_packets.new.pool c.in_ok-link-in_default.field-0.link
    ≡ train_packets c.args.pool.now c.args.self.now
    ++ to_link_by c.args.way (packets_of (chain_of c.args.pool.now c.args.chain) c.args.head c.args.mtu)
all c = λ i. (beside c).same_packets i ++ c.in_ok-link-in_default.ensures.link i

pub push_all-is_lost-requires-clause-queue : goal.push_all-is_lost-requires-clause-queue
push_all-is_lost-requires-clause-queue c = record {
  held = (beside (goal.at.push_all-is_lost-requires-clause-queue c).In_ok-link-in_default).held;
  room = c.requires.queue.room;
}

pub push_all-is_lost-requires-clause-owned : goal.push_all-is_lost-requires-clause-owned
push_all-is_lost-requires-clause-owned c =
    link_owned c.args.self.now c.in_ok-link-in_default.field-0.link c.in_ok-link-in_default.field-0.looped
    (beside (goal.at.push_all-is_lost-requires-clause-owned c).In_ok-link-in_default)

-- the packets that come back, once the others are queued
out : (c : After-push_all-is_lost)
    → IsAside c.args.pool.now c.make_packets.new.pool c.args.chain
    (numbers c.make_packets.new.pool c.in_ok-link-in_default.field-0.link
    ++ numbers c.make_packets.new.pool c.in_ok-link-in_default.field-0.looped) c.args.self.now
    → IsSentOut c.args.pool.now c.make_packets.new.pool c.push_all-is_lost.new.pool c.args.chain c.args.self.now
    c.in_ok-link-in_default.field-0.looped c.push_all-is_lost.new.self
out c a =
    sent_out c.args.self.now c.in_ok-link-in_default.field-0.link c.in_ok-link-in_default.field-0.looped
    c.push_all-is_lost.new.self a c.in_ok-link-in_default.ensures.held.1 c.push_all-is_lost.ensures.moves

pub returns-in-Link-clause-cut : goal.returns-in-Link-clause-cut
returns-in-Link-clause-cut c =
    sym (ap (λ (ps : List Part). nat_lt 1 (length ps))
    (one_part (chain_of c.args.pool.now c.args.chain) c.len-len.result c.args.mtu c.requires.datagram
    c.len-len.ensures (omega (arith, c.if-len-mtu.true))))

pub returns-in-Link-clause-enough : goal.returns-in-Link-clause-enough
returns-in-Link-clause-enough c =
    let v = chain_of c.args.pool.now c.args.chain in
    omega (
      arith,
      ap (λ (way : Way). way_need way v c.args.mtu) c.in-Link.is,
      ap (λ (ps : List Part). sum_by (part_need v) (drop 1 ps))
          (one_part v c.len-len.result c.args.mtu c.requires.datagram c.len-len.ensures
          (omega (arith, c.if-len-mtu.true))),
      c.laws.ensures.few,
    )

pub returns-in_ok-link-in_default-clause-link : goal.returns-in_ok-link-in_default-clause-link
returns-in_ok-link-in_default-clause-link c =
    c.push_all-is_lost.ensures.packets
    ∙ ap (take OUTPUT_QUEUE_PACKETS)
    (all (goal.at.returns-in_ok-link-in_default-clause-link c).In_ok-link-in_default)

pub returns-in_ok-link-in_default-clause-lost : goal.returns-in_ok-link-in_default-clause-lost
returns-in_ok-link-in_default-clause-lost c =
    c.push_all-is_lost.ensures.lost
    ∙ ap (λ (xs : List Item). nat_lt OUTPUT_QUEUE_PACKETS (length xs))
    (all (goal.at.returns-in_ok-link-in_default-clause-lost c).In_ok-link-in_default)

pub returns-in_ok-link-in_default-clause-looped : goal.returns-in_ok-link-in_default-clause-looped
returns-in_ok-link-in_default-clause-looped c =
    let at = goal.at.returns-in_ok-link-in_default-clause-looped c in
    (out at.After-push_all-is_lost (beside at.In_ok-link-in_default)).same_packets
    ∙ c.in_ok-link-in_default.ensures.looped

pub returns-in_ok-link-in_default-clause-held : goal.returns-in_ok-link-in_default-clause-held
returns-in_ok-link-in_default-clause-held c =
    let at = goal.at.returns-in_ok-link-in_default-clause-held c in
    (out at.After-push_all-is_lost (beside at.In_ok-link-in_default)).held

pub returns-in_ok-link-in_default-clause-plain : goal.returns-in_ok-link-in_default-clause-plain
returns-in_ok-link-in_default-clause-plain c =
    let at = goal.at.returns-in_ok-link-in_default-clause-plain c in
    subst AreBegunPlain (sym (out at.After-push_all-is_lost (beside at.In_ok-link-in_default)).same_queued)
    c.in_ok-link-in_default.ensures.plain.1

pub returns-in_ok-link-in_default-clause-link_plain : goal.returns-in_ok-link-in_default-clause-link_plain
returns-in_ok-link-in_default-clause-link_plain c = λ before.
    let a = beside (goal.at.returns-in_ok-link-in_default-clause-link_plain c).In_ok-link-in_default in
    c.push_all-is_lost.ensures.plain (subst AreBegunPlain (sym a.same_queued) before)
    c.in_ok-link-in_default.ensures.plain.0

pub returns-in_err-link-in_default-clause-link_plain : goal.returns-in_err-link-in_default-clause-link_plain
returns-in_err-link-in_default-clause-link_plain c = λ before.
    let gone =
    moves_without c.args.pool.now c.make_packets.new.pool c.args.chain c.requires.live
    c.in_err-link-in_default.ensures.freed in
    subst AreBegunPlain (sym (aside c.args.chain c.args.self.now gone c.requires.live c.requires.queue.held
    c.requires.apart).same_queued) before

pub returns-in_ok-link-in_default-clause-moves : goal.returns-in_ok-link-in_default-clause-moves
returns-in_ok-link-in_default-clause-moves c =
    let at = goal.at.returns-in_ok-link-in_default-clause-moves c in
    (out at.After-push_all-is_lost (beside at.In_ok-link-in_default)).moves
