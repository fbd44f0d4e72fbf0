use Rattle.callers.proofs.Rounds.{is_round}
use Rattle.callers.proofs.laws_on_a_wire.round.Goals as goal

pub returns : goal.returns
returns c = λ e.
    is_round c.queue_law.ensures c.args.bytes.now c.args.first.now c.send.new.stack c.give-late_len.new.stack
    c.give-early_len.new.stack c.is_drained.new.stack _ _ c.send.ensures.0 c.requires c.send.ensures.1
    c.give-late_len.ensures.given c.give-early_len.ensures.given (c.is_drained.ensures e) c.args.second.now
    c.read.new.stack c.hand_over.new.stack c.hand_over-2.new.stack c.tick.new.self c.read.ensures.0 c.read.ensures.1
    c.read.ensures.2 c.hand_over.ensures c.hand_over-2.ensures c.tick.ensures
