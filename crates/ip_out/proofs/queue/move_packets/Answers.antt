use Rattle.std.proofs.Common.{◌≡◌, ℕ, arith, ap, ◌∙◌, inl, inr}
use Rattle.std.specs.Prelude.{◌⊎◌, nat_lt}
use Rattle.std.specs.List.{insert}
use Rattle.params.specs.declared.TheConstants.{OUTPUT_QUEUE_PACKETS}
use Rattle.mbuf_chain.specs.Chain.{chain_of}
use Rattle.mbuf_chain.specs.Train.{QueuedPacket, queued_packets}
use Rattle.ip_out.proofs.Queues.{IsTaken, takes, puts, enqueued, full_is}
use Rattle.ip_out.proofs.queue.move_packets.Goals as goal
use Rattle.ip_out.proofs.queue.move_packets.Goals.{After-take-packet, then-packets-test+else-len-gt0, else-packets-test}

-- the oldest packet that is left, taken
taken : (c : After-take-packet) → IsTaken c.args.pool.now c.args.train.now c.args.more c.take-packet.new.pool
    c.packets.train c.take-packet.new.self c.take-packet.result.0
taken c =
    takes _ _ _ _ _ _ _ _ _ _ c.packets.invariant (omega (arith, c.if-len-gt0.true, c.len-in-packets.ensures))
    c.take-packet.ensures.queued_packets c.take-packet.ensures.taken c.take-packet.ensures.held
    c.take-packet.ensures.moves

pub insert-requires-clause-held : goal.insert-requires-clause-held
insert-requires-clause-held c = (taken (goal.at.insert-requires-clause-held c).After-take-packet).beside

pub insert-requires-clause-apart : goal.insert-requires-clause-apart
insert-requires-clause-apart c = (taken (goal.at.insert-requires-clause-apart c).After-take-packet).apart

pub packets-preserved : goal.packets-preserved
packets-preserved c =
    let new : QueuedPacket =
    record {
      number = c.take-packet.result.0;
      entries = (chain_of c.take-packet.new.pool c.take-packet.result.0).entries;
      tag = 0;
    } in
    let end : insert (queued_packets c.take-packet.new.pool c.packets.train) c.len-end.result new
    ≡ insert (queued_packets c.take-packet.new.pool c.packets.train) c.packets.train.len new =
    ap (λ (k : ℕ). insert (queued_packets c.take-packet.new.pool c.packets.train) k new) c.len-end.ensures in
    puts _ _ _ _ _ _ _ _ _ (taken (goal.at.packets-preserved c).After-take-packet)
    (omega (arith, c.packets-test.true, c.len.ensures)) (c.insert.ensures.queued_packets ∙ end)
    c.insert.ensures.held c.insert.ensures.len c.insert.ensures.moves

pub returns : goal.returns
returns c =
    let m = c.packets.invariant in
    let ends : (c.packets.rest.len ≡ 0) ⊎ (c.packets.train.len ≡ OUTPUT_QUEUE_PACKETS) = elim c.packets-test.branch [
      | then-packets-test+else-len-gt0 w ↦ inl (omega (arith, w.if-len-gt0, w.len-in-packets.ensures))
      | else-packets-test w ↦ inr (omega (arith, w.packets-test, c.len.ensures, m.room))
    ] in
    let e = enqueued _ _ _ _ _ _ _ m ends c.free.ensures in
    record {
      packets = e.items;
      is_lost = ap (nat_lt 0) c.len-is_lost.ensures ∙ full_is _ _ _ _ _ _ m ends;
      plain = e.plain;
      queue = record { held = e.queue; room = m.room };
      moves = e.moves;
    }
