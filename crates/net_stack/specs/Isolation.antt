-- Calls of a stack that set receive limits, and the room that these leave in its pool (this project's own).
use Rattle.std.specs.Prelude.{◌≡◌, List, [], ◌∷◌}
use Rattle.flat_model.specs.Machine.Event.{IsEvent}
use Rattle.flat_model.specs.Machine.State.{IsConfig, boot}
use Rattle.flat_model.specs.Runs.Isolation.{SetsEmpty}
use Rattle.flat_model.specs.Runs.Run.{Turn}
use Rattle.flat_model.specs.declared.config.Config.{Config}
use Rattle.net_stack.specs.Stack.{StackView, state_of}
use Rattle.net_stack.specs.Runs.{IsTurnOf}

-- These calls, one after another, make the first stack the last, and each sets a limit only while that socket's queue
-- is empty: for example just after `socket`, or before `bind`.
abbrev pub AreCallsWithLimits : StackView → List Turn → StackView → Type 0
AreCallsWithLimits old [] new = new ≡ old
AreCallsWithLimits old (turn ∷ turns) new =
    SetsEmpty turn.event (state_of old) × IsEvent turn.event × (mid : StackView) × IsTurnOf old turn mid
    × AreCallsWithLimits mid turns new

-- such calls of a stack that has just started
pub record IsLimited (config : Config) (s : StackView) : Type 0 where
  pub boots : IsConfig config
  pub first : StackView
  pub starts : state_of first ≡ boot config
  pub turns : List Turn
  pub calls : AreCallsWithLimits first turns s
