use Rattle.callers.proofs.Rounds.{if_ok, is_one_of_both}
use Rattle.callers.proofs.laws_on_a_wire.send_in_turn.Goals as goal

pub returns-then-done : goal.returns-then-done
returns-then-done c =
    if_ok c.args.one.now c.args.other.now _ c.recvfrom-answer.result c.recvfrom-answer.new.buffer
    (is_one_of_both c.in_ok-first.ensures.booted.0 c.in-Ok.ensures.booted.0 c.in_ok-first.first c.socket.new.self
    c.in-Ok.second c.socket-2.new.self c.bind.new.self c.all_rounds-done.new.first c.all_rounds-done.new.second
    c.recvfrom-answer.new.self c.args.one.now c.args.other.now _ _ _ c.in_ok-first.ensures.booted.1
    c.in-Ok.ensures.booted.1 c.socket.ensures c.socket-2.ensures c.bind.ensures
    (c.all_rounds-done.ensures c.if-done.true) _ _ c.recvfrom-answer.ensures.step
    c.stacks_on_a_wire_for_ever.ensures.received c.pace_law.ensures)
