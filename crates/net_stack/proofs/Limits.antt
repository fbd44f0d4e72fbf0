-- Calls that set limits are a run of the flat machine that does.
use Rattle.std.proofs.Common.{◌≡◌, List, [], ◌∷◌, ap, subst}
use Rattle.flat_model.specs.Machine.State.{State, boot}
use Rattle.flat_model.specs.Runs.Isolation.{LeadsEmpty}
use Rattle.flat_model.specs.Runs.Run.{Turn}
use Rattle.flat_model.specs.declared.config.Config.{Config}
use Rattle.net_stack.specs.Isolation.{AreCallsWithLimits, IsLimited}
use Rattle.net_stack.specs.Stack.{StackView, state_of}

leads : (first last : StackView) (turns : List Turn) → AreCallsWithLimits first turns last
    → LeadsEmpty (state_of first) turns (state_of last)
leads first last [] same = ap state_of same
leads first last (turn ∷ turns) (empty, is, mid, call, later) =
    (empty, is, state_of mid, call, leads mid last turns later)

pub limited_run : (config : Config) (s : StackView) (l : IsLimited config s)
    → LeadsEmpty (boot config) l.turns (state_of s)
limited_run config s l =
    subst (λ (first : State). LeadsEmpty first l.turns (state_of s)) l.starts (leads l.first s l.turns l.calls)
