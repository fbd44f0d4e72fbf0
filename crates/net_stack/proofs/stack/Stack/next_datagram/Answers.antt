use Rattle.std.proofs.Common.{◌≡◌, subst}
use Rattle.flat_model.specs.Machine.State.{State}
use Rattle.ip_reass.specs.Table.{unfinished}
use Rattle.sock_calls.specs.Questions.{next_datagram}
use Rattle.net_stack.specs.Inside.Fields.{stack_of}
use Rattle.net_stack.specs.Stack.{StackView, rest_of_stack, state_of}
use Rattle.net_stack.proofs.CallLemmas.{lent, lent_shows}
use Rattle.net_stack.proofs.stack.Stack.next_datagram.Goals as goal

pub returns : goal.returns
returns c =
    let s : StackView = stack_of (lent c.self.inside c.as_ref-host.result.now) in
    let rest : State =
    record (rest_of_stack s) { unfinished = unfinished s.pool s.reass.datagrams; counters = s.counters } in
    subst (λ (v : StackView). c.next_datagram.result ≡ next_datagram c.args.fd (state_of v))
    (lent_shows c.self.inside c.as_ref-host.result.now c.args.self.now c.as_ref-host.ensures c.self.view_is)
    (c.next_datagram.ensures rest)
