use Rattle.std.proofs.Common.{ap, sym, ◌∙◌}
use Rattle.flat_model.specs.Machine.Count.{value_of}
use Rattle.flat_model.specs.declared.counter.Counter.TheVariants.{IpLocalout}
use Rattle.callers.proofs.Calls.{both, counted, all_received}
use Rattle.callers.proofs.laws_on_a_wire.receive_out_of_order.Goals as goal

pub returns : goal.returns
returns c =
    let calls =
    both c.in_ok-first.first c.socket.new.self c.in-Ok.second c.socket-2.new.self c.bind.new.self
    c.in_ok-first.ensures.booted.1 c.socket.ensures c.send.ensures c.send-2.ensures c.send-3.ensures
    c.give.ensures.given c.give-late_len.ensures.given c.give-early_len.ensures.given
    c.in-Ok.ensures.booted.1 c.socket-2.ensures c.bind.ensures c.hand_over.ensures c.hand_over-2.ensures
    c.hand_over-3.ensures in
    all_received c.calls_are_run.ensures c.stacks_on_a_wire.ensures.received c.stacks_on_a_wire_for_ever.ensures.whole
    c.in_ok-first.ensures.booted.0 c.in-Ok.ensures.booted.0 c.recvfrom-answer.new.self calls
    c.recvfrom-answer.ensures.step
    (ap (value_of IpLocalout) (sym (counted _ _ c.counters.ensures.0)) ∙ sym c.value-sends.ensures)
