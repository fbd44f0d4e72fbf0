use Rattle.std.proofs.Common.{◌≡◌, subst}
use Rattle.ip_reass.specs.Questions.{nth_range}
use Rattle.net_stack.specs.Stack.{StackView, state_of}
use Rattle.net_stack.proofs.CallLemmas.{lent_inside, lent_shows}
use Rattle.net_stack.proofs.stack.Stack.unfinished_range.Goals as goal

pub range-requires : goal.range-requires
range-requires c = (lent_inside c.self.inside c.as_ref-host.result.now c.as_ref-host.ensures
    c.self.invariant).stack.reass.table

pub returns : goal.returns
returns c = subst (λ (v : StackView). c.range.result ≡ nth_range c.args.i c.args.k (state_of v).unfinished)
    (lent_shows c.self.inside c.as_ref-host.result.now c.args.self.now c.as_ref-host.ensures c.self.view_is)
    c.range.ensures
