use Rattle.flat_model.specs.Machine.Event.{Transmit}
use Rattle.flat_model.specs.Machine.Replies.{given_reply}
use Rattle.std.proofs.Common.{◌≤◌, length, subst, sym}
use Rattle.net_stack.specs.Stack.{StackView}
use Rattle.net_stack.proofs.CallLemmas.{Called, are_within, output_called, with_out, lent, lent_inside, lent_shows}
use Rattle.net_stack.proofs.stack.Stack.tx.Goals as goal

all : (c : goal.After-slice_known-2-1) → Called c.args.self.now Transmit
    (given_reply c.take_packet.result c.take_packet.new.buffer)
    (with_out (lent c.self.inside c.as_mut-host.result.now) c.take_packet.new.pool c.take_packet.new.out)
all c = output_called (lent c.self.inside c.as_mut-host.result.now) c.args.self.now c.take_packet.new.pool
    c.take_packet.new.out (given_reply c.take_packet.result c.take_packet.new.buffer)
    (lent_inside c.self.inside c.as_mut-host.result.now c.as_mut-host.ensures.value c.self.invariant)
    (lent_shows c.self.inside c.as_mut-host.result.now c.args.self.now c.as_mut-host.ensures.value c.self.view_is)
    c.take_packet.ensures.given

pub take_packet-requires-clause-queue : goal.take_packet-requires-clause-queue
take_packet-requires-clause-queue c = (lent_inside c.self.inside c.as_mut-host.result.now c.as_mut-host.ensures.value
    c.self.invariant).stack.output

pub take_packet-requires-clause-within : goal.take_packet-requires-clause-within
take_packet-requires-clause-within c =
    are_within (lent c.self.inside c.as_mut-host.result.now) (length c.args.buffer.now)
    (lent_inside c.self.inside c.as_mut-host.result.now c.as_mut-host.ensures.value c.self.invariant)
    (subst (λ (s : StackView). s.config.mtu ≤ length c.args.buffer.now)
    (sym (lent_shows c.self.inside c.as_mut-host.result.now c.args.self.now c.as_mut-host.ensures.value
    c.self.view_is)) c.requires)

pub invariant_of-self : goal.invariant_of-self
invariant_of-self c = (all c).inside

pub returns-clause-step : goal.returns-clause-step
returns-clause-step c = (all c).step
