use Rattle.std.proofs.Common.{◌≡◌, length, ◌∙◌, sym, subst}
use Rattle.ip_reass.specs.Same.{length-unfinished}
use Rattle.net_stack.specs.Inside.Fields.{stack_of}
use Rattle.net_stack.specs.Stack.{StackView, state_of}
use Rattle.net_stack.proofs.CallLemmas.{lent, lent_shows}
use Rattle.net_stack.proofs.stack.Stack.unfinished_len.Goals as goal

pub returns : goal.returns
returns c =
    let s : StackView = stack_of (lent c.self.inside c.deref.result.now) in
    subst (λ (v : StackView). c.len.result ≡ length (state_of v).unfinished)
    (lent_shows c.self.inside c.deref.result.now c.args.self.now c.deref.ensures c.self.view_is)
    (c.len.ensures ∙ sym (length-unfinished s.pool s.reass.datagrams))
