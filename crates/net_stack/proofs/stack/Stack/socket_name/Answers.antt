use Rattle.std.proofs.Common.{◌≡◌, subst}
use Rattle.flat_model.specs.Machine.State.{State}
use Rattle.ip_reass.specs.Table.{unfinished}
use Rattle.sock_calls.specs.Questions.{socket_name}
use Rattle.net_stack.specs.Inside.Fields.{stack_of}
use Rattle.net_stack.specs.Stack.{StackView, rest_of_stack, state_of}
use Rattle.net_stack.proofs.CallLemmas.{lent, lent_shows}
use Rattle.net_stack.proofs.stack.Stack.socket_name.Goals as goal

pub returns : goal.returns
returns c =
    let s : StackView = stack_of (lent c.self.inside c.deref.result.now) in
    let rest : State =
    record (rest_of_stack s) { unfinished = unfinished s.pool s.reass.datagrams; counters = s.counters } in
    subst (λ (v : StackView). c.name.result ≡ socket_name c.args.fd (state_of v))
    (lent_shows c.self.inside c.deref.result.now c.args.self.now c.deref.ensures c.self.view_is)
    (c.name.ensures s.pool rest)
