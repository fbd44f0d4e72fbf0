use Rattle.std.proofs.Common.{◌≤◌, subst}
use Rattle.params.specs.declared.TheConstants.{MAX_MTU}
use Rattle.flat_model.specs.Amounts.Weight.{nothing}
use Rattle.ledger.specs.Accounts.{IsAccounted}
use Rattle.net_stack.specs.Inside.Fields.{fields, stack_of}
use Rattle.net_stack.specs.Stack.{StackView, IsStack, state_of}
use Rattle.net_stack.proofs.PartSteps.{accounts}
use Rattle.net_stack.proofs.stack.Stack.laws.Goals as goal

pub returns-clause-stack : goal.returns-clause-stack
returns-clause-stack c = subst IsStack c.self.view_is c.self.invariant.stack

pub returns-clause-accounted : goal.returns-clause-accounted
returns-clause-accounted c = subst (λ (s : StackView). IsAccounted s.pool (state_of s) nothing) c.self.view_is
    (accounts (stack_of (fields c.self.inside)) c.self.invariant.stack)

pub returns-clause-link : goal.returns-clause-link
returns-clause-link c = subst (λ (s : StackView). s.config.mtu ≤ MAX_MTU) c.self.view_is
    c.self.invariant.stack.consistent.config.greatest_mtu
