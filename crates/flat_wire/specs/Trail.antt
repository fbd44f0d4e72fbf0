-- A run with the states between its steps (this project's own).
use Rattle.std.specs.Prelude.{◌≡◌, List, [], ◌∷◌, map}
use Rattle.flat_model.specs.Machine.Event.{IsEvent}
use Rattle.flat_model.specs.Machine.State.{State}
use Rattle.flat_model.specs.Machine.Ledger.{Ledger}
use Rattle.flat_model.specs.Machine.Step.{StepBy}
use Rattle.flat_model.specs.Runs.Run.{Turn}

-- a step: an event and its reply, and the states before and after it
pub record PassedStep : Type 0 where
  pub old : State
  pub turn : Turn
  pub new : State

-- these steps lead from old to new
abbrev pub IsTrail : Ledger → State → List PassedStep → State → Type 0
IsTrail L old [] new = new ≡ old
IsTrail L old (p ∷ later) new =
    (p.old ≡ old) × IsEvent p.turn.event × StepBy L p.old p.turn.event p.turn.reply p.new × IsTrail L p.new later new

abbrev pub trail_turns : List PassedStep → List Turn
trail_turns trail = map (λ p. p.turn) trail
