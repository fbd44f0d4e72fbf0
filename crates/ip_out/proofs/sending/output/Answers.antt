use Rattle.std.proofs.Common.{◌≡◌, ◌++◌, List, length, take, ap, sym, ◌∙◌, subst}
use Rattle.std.specs.Prelude.{nat_lt}
use Rattle.std.proofs.lemmas.Bool.{ltb-true}
use Rattle.params.specs.declared.TheConstants.{OUTPUT_QUEUE_PACKETS}
use Rattle.flat_model.specs.Amounts.Weight.{Item}
use Rattle.mbuf_chain.specs.Chain.{chain_of}
use Rattle.mbuf_chain.proofs.Laws.Owners.{moves_trans, moves_without}
use Rattle.mbuf_chain.specs.Train.{numbers}
use Rattle.ip_out.specs.Packets.{train_packets, packets_of, AreBegunPlain}
use Rattle.ip_out.proofs.Sends.{IsAside, aside, aside_gone, all_fit}
use Rattle.ip_out.proofs.sending.output.Goals as goal
use Rattle.ip_out.proofs.sending.output.Goals.{In-Ok}

pub returns-in_default-clause-plain : goal.returns-in_default-clause-plain
returns-in_default-clause-plain c = λ before.
    let gone =
    moves_without c.args.pool.now c.fragments.new.pool c.args.chain c.requires.live c.in_default.ensures.freed in
    subst AreBegunPlain (sym (aside c.args.chain c.args.queue.now gone c.requires.live c.requires.queue.held
    c.requires.apart).same_queued) before

pub returns-in_default-clause-queue : goal.returns-in_default-clause-queue
returns-in_default-clause-queue c = record {
  held =
      (aside_gone c.args.chain c.args.queue.now c.in_default.ensures.freed c.requires.live c.requires.queue.held
      c.requires.apart).0;
  room = c.requires.queue.room;
}

pub returns-in_default-clause-moves : goal.returns-in_default-clause-moves
returns-in_default-clause-moves c =
    (aside_gone c.args.chain c.args.queue.now c.in_default.ensures.freed c.requires.live c.requires.queue.held
    c.requires.apart).1

-- the queue, beside the packets that were made
beside : (c : In-Ok) → IsAside c.args.pool.now c.fragments.new.pool c.args.chain
    (numbers c.fragments.new.pool c.in-Ok.packets) c.args.queue.now
beside c =
    aside c.args.chain c.args.queue.now c.in-Ok.ensures.moves c.requires.live c.requires.queue.held c.requires.apart

-- the packets of the queue and those that were made
all : (c : In-Ok)
    → train_packets c.fragments.new.pool c.args.queue.now ++ train_packets c.fragments.new.pool c.in-Ok.packets
    ≡ train_packets c.args.pool.now c.args.queue.now
    ++ packets_of (chain_of c.args.pool.now c.args.chain) c.args.head c.args.mtu
all c = λ i. (beside c).same_packets i ++ c.in-Ok.ensures.packets i

pub push_all-requires-clause-queue : goal.push_all-requires-clause-queue
push_all-requires-clause-queue c = record {
  held = (beside (goal.at.push_all-requires-clause-queue c).In-Ok).held;
  room = c.requires.queue.room;
}

pub push_all-requires-clause-owned : goal.push_all-requires-clause-owned
push_all-requires-clause-owned c = (beside (goal.at.push_all-requires-clause-owned c).In-Ok).owned

pub returns-then-push_all-clause-err : goal.returns-then-push_all-clause-err
returns-then-push_all-clause-err c =
    let same = all (goal.at.returns-then-push_all-clause-err c).In-Ok in
    let over =
    sym (ap (λ (xs : List Item). nat_lt OUTPUT_QUEUE_PACKETS (length xs)) same) ∙ sym c.push_all.ensures.lost
    ∙ c.if-push_all.true in
    (c.in-Ok.ensures.enough, ltb-true _ _ over, c.push_all.ensures.packets ∙ ap (take OUTPUT_QUEUE_PACKETS) same)

pub returns-then-push_all-clause-plain : goal.returns-then-push_all-clause-plain
returns-then-push_all-clause-plain c = λ before.
    let a = beside (goal.at.returns-then-push_all-clause-plain c).In-Ok in
    c.push_all.ensures.plain (subst AreBegunPlain (sym a.same_queued) before) c.in-Ok.ensures.plain

pub returns-then-push_all-clause-moves : goal.returns-then-push_all-clause-moves
returns-then-push_all-clause-moves c =
    moves_trans (beside (goal.at.returns-then-push_all-clause-moves c).In-Ok).moves c.push_all.ensures.moves

pub returns-clause-ok : goal.returns-clause-ok
returns-clause-ok c =
    let same = all (goal.at.returns-clause-ok c).In-Ok in
    let within =
    sym (ap (λ (xs : List Item). nat_lt OUTPUT_QUEUE_PACKETS (length xs)) same) ∙ sym c.push_all.ensures.lost
    ∙ c.if-push_all.false in
    (c.in-Ok.ensures.enough, c.push_all.ensures.packets ∙ ap (take OUTPUT_QUEUE_PACKETS) same ∙ all_fit _ within)

pub returns-clause-plain : goal.returns-clause-plain
returns-clause-plain c = λ before.
    let a = beside (goal.at.returns-clause-plain c).In-Ok in
    c.push_all.ensures.plain (subst AreBegunPlain (sym a.same_queued) before) c.in-Ok.ensures.plain

pub returns-clause-moves : goal.returns-clause-moves
returns-clause-moves c = moves_trans (beside (goal.at.returns-clause-moves c).In-Ok).moves c.push_all.ensures.moves
