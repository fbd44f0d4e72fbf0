use Rattle.std.proofs.Common.{◌≡◌, subst}
use Rattle.ip_reass.specs.Questions.{nth_unfinished}
use Rattle.net_stack.specs.Stack.{StackView, state_of}
use Rattle.net_stack.proofs.CallLemmas.{lent_inside, lent_shows}
use Rattle.net_stack.proofs.stack.Stack.unfinished.Goals as goal

pub unfinished-requires : goal.unfinished-requires
unfinished-requires c = (lent_inside c.self.inside c.as_ref-host.result.now c.as_ref-host.ensures
    c.self.invariant).stack.reass.table

pub returns : goal.returns
returns c = subst (λ (v : StackView). c.unfinished.result ≡ nth_unfinished c.args.i (state_of v).unfinished)
    (lent_shows c.self.inside c.as_ref-host.result.now c.args.self.now c.as_ref-host.ensures c.self.view_is)
    c.unfinished.ensures
