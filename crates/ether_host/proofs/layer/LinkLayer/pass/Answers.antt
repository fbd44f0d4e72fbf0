use Rattle.std.proofs.Common.{ℕ, List, subst, sym, ◌∙◌}
use Rattle.flat_model.specs.Machine.Fate.{Fated}
use Rattle.net_stack.specs.Stack.{state_of}
use Rattle.ether_host.proofs.Plains.{stripped, unchanged}
use Rattle.ether_host.proofs.layer.LinkLayer.pass.Goals as goal

pub returns-then-not-has_options-clause-fate : goal.returns-then-not-has_options-clause-fate
returns-then-not-has_options-clause-fate c =
    subst (λ (p : List ℕ). Fated (state_of c.args.stack.now) p c.rx_told.result (state_of c.rx_told.new.self))
    (unchanged c.args.came.now (sym c.has_options.ensures ∙ c.if-not-has_options.true)) c.rx_told.ensures.fate

pub returns-clause-fate : goal.returns-clause-fate
returns-clause-fate c =
    subst (λ (p : List ℕ). Fated (state_of c.args.stack.now) p c.receive_plain.result
    (state_of c.receive_plain.new.stack))
    (stripped c.args.came.now (sym c.has_options.ensures ∙ c.if-not-has_options.false)) c.receive_plain.ensures.fate
