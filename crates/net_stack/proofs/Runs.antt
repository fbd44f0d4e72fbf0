-- Calls one after another are a run of the flat machine.
use Rattle.std.proofs.Common.{◌≡◌, List, [], ◌∷◌, ap, subst}
use Rattle.flat_model.specs.Machine.State.{State, boot}
use Rattle.flat_model.specs.Runs.Run.{Turn, Leads, Run}
use Rattle.flat_model.specs.Machine.Ledger.{exact_ledger}
use Rattle.flat_model.specs.declared.config.Config.{Config}
use Rattle.net_stack.specs.Stack.{StackView, state_of}
use Rattle.net_stack.specs.Runs.{AreCalls}

leads : (first last : StackView) (turns : List Turn) → AreCalls first turns last
    → Leads exact_ledger (state_of first) turns (state_of last)
leads first last [] same = ap state_of same
leads first last (turn ∷ turns) (is, mid, call, later) = (is, state_of mid, call, leads mid last turns later)

pub calls_run : (config : Config) (first last : StackView) (turns : List Turn) → state_of first ≡ boot config
    → AreCalls first turns last → Run config turns (state_of last)
calls_run config first last turns e calls = subst (λ (s : State). Leads exact_ledger s turns (state_of last)) e
    (leads first last turns calls)
