use Rattle.std.proofs.Common.{◌≡◌, refl, ap, ◌∙◌}
use Rattle.flat_model.specs.Machine.Ledger.{usage_of}
use Rattle.flat_model.proofs.Laws.{none_held}
use Rattle.net_stack.specs.Inside.Fields.{stack_of}
use Rattle.net_stack.specs.Stack.{StackView, state_of}
use Rattle.net_stack.proofs.PartSteps.{accounts}
use Rattle.net_stack.proofs.CallLemmas.{lent, lent_inside, lent_shows}
use Rattle.net_stack.proofs.stack.Stack.mbstat.Goals as goal

right : (c : goal.After-mbstat) → c.mbstat.result ≡ usage_of (state_of c.args.self.now)
right c = c.mbstat.ensures (state_of (stack_of (lent c.self.inside c.deref.result.now)))
    (accounts (stack_of (lent c.self.inside c.deref.result.now))
    (lent_inside c.self.inside c.deref.result.now c.deref.ensures c.self.invariant).stack)
    ∙ ap (λ (v : StackView). usage_of (state_of v))
    (lent_shows c.self.inside c.deref.result.now c.args.self.now c.deref.ensures c.self.view_is)

pub returns-clause-step : goal.returns-clause-step
returns-clause-step c = (c.mbstat.result, right c, refl, refl)

pub returns-clause-free : goal.returns-clause-free
returns-clause-free c = λ es eu eo. right c ∙ none_held (state_of c.args.self.now) es eu eo
