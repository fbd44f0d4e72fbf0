use Rattle.std.proofs.Common.{◌≡◌, subst}
use Rattle.flat_model.specs.Machine.State.{State}
use Rattle.ip_reass.specs.Table.{unfinished}
use Rattle.sock_calls.specs.Questions.{receive_limit_at}
use Rattle.net_stack.specs.Inside.Fields.{stack_of}
use Rattle.net_stack.specs.Stack.{StackView, rest_of_stack, state_of}
use Rattle.net_stack.proofs.CallLemmas.{lent, lent_shows}
use Rattle.net_stack.proofs.stack.Stack.receive_limit.Goals as goal

pub returns : goal.returns
returns c =
    let s : StackView = stack_of (lent c.self.inside c.deref.result.now) in
    let rest : State =
    record (rest_of_stack s) { unfinished = unfinished s.pool s.reass.datagrams; counters = s.counters } in
    subst (λ (v : StackView). c.receive_limit.result ≡ receive_limit_at c.args.fd (state_of v))
    (lent_shows c.self.inside c.deref.result.now c.args.self.now c.deref.ensures c.self.view_is)
    (c.receive_limit.ensures s.pool rest)
