use Rattle.std.proofs.Common.{length, subst}
use Rattle.flat_model.specs.Machine.Event.{Receive}
use Rattle.flat_model.specs.Machine.Replies.{received_reply}
use Rattle.flat_model.specs.Machine.State.{State}
use Rattle.ip_reass.specs.Table.{unfinished}
use Rattle.net_stack.specs.Inside.Fields.{stack_of}
use Rattle.net_stack.specs.Questions.{WouldReply}
use Rattle.net_stack.specs.Stack.{StackView, rest_of_stack, state_of}
use Rattle.net_stack.proofs.CallLemmas.{lent, lent_inside, lent_shows}
use Rattle.net_stack.proofs.stack.Stack.peek.Goals as goal

pub copy_oldest-requires : goal.copy_oldest-requires
copy_oldest-requires c =
    (lent_inside c.self.inside c.as_ref-host.result.now c.as_ref-host.ensures c.self.invariant).stack.socks

pub returns-clause-reply : goal.returns-clause-reply
returns-clause-reply c =
    let s : StackView = stack_of (lent c.self.inside c.as_ref-host.result.now) in
    let rest : State =
    record (rest_of_stack s) { unfinished = unfinished s.pool s.reass.datagrams; counters = s.counters } in
    subst (λ (v : StackView). WouldReply (state_of v) (Receive c.args.fd (length c.args.buffer.now))
    (received_reply c.copy_oldest.result c.copy_oldest.new.buffer))
    (lent_shows c.self.inside c.as_ref-host.result.now c.args.self.now c.as_ref-host.ensures c.self.view_is)
    (c.copy_oldest.ensures.reply rest)
