-- Calls of a stack, one after another (this project's own).
use Rattle.std.specs.Prelude.{◌≡◌, List, [], ◌∷◌, map}
use Rattle.flat_model.specs.Machine.Event.{IsEvent}
use Rattle.flat_model.specs.Runs.Run.{Turn}
use Rattle.flat_model.specs.Machine.Step.{Step}
use Rattle.flat_wire.specs.Trail.{PassedStep}
use Rattle.net_stack.specs.Stack.{StackView, state_of}

-- the contract of each call for the stack before and after it, as a call with the turn's event and its reply
abbrev pub IsTurnOf : StackView → Turn → StackView → Type 0
IsTurnOf old turn new = Step (state_of old) turn.event turn.reply (state_of new)

-- these calls, one after another, make the first stack the last
abbrev pub AreCalls : StackView → List Turn → StackView → Type 0
AreCalls old [] new = new ≡ old
AreCalls old (turn ∷ turns) new =
    IsEvent turn.event × (mid : StackView) × IsTurnOf old turn mid × AreCalls mid turns new

-- a call, and the stacks before and after it
pub record PassedCall : Type 0 where
  pub old : StackView
  pub turn : Turn
  pub new : StackView

-- these calls, one after another, make the first stack the last
abbrev pub AreCallsOf : StackView → List PassedCall → StackView → Type 0
AreCallsOf old [] new = new ≡ old
AreCallsOf old (call ∷ calls) new =
    (call.old ≡ old) × IsEvent call.turn.event × IsTurnOf call.old call.turn call.new × AreCallsOf call.new calls new

-- the steps that they show
abbrev pub steps_of : List PassedCall → List PassedStep
steps_of calls =
    map (λ (call : PassedCall). record { old = state_of call.old; turn = call.turn; new = state_of call.new }) calls

abbrev pub turns_of_calls : List PassedCall → List Turn
turns_of_calls calls = map (λ (call : PassedCall). call.turn) calls
