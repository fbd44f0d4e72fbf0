-- Whole runs (this project's own).
use Rattle.std.specs.Prelude.{◌≡◌, List, [], ◌∷◌}
use Rattle.flat_model.specs.Machine.Event.{Event, Reply, IsEvent}
use Rattle.flat_model.specs.Machine.State.{State, boot}
use Rattle.flat_model.specs.declared.config.Config.{Config}
use Rattle.flat_model.specs.Machine.Ledger.{Ledger, exact_ledger}
use Rattle.flat_model.specs.Machine.Step.{StepBy}

-- an event, and the reply to it
pub record Turn : Type 0 where
  pub event : Event
  pub reply : Reply

-- from old, these events may get these replies, and lead to new
abbrev pub Leads : Ledger → State → List Turn → State → Type 0
Leads L old [] new = new ≡ old
Leads L old (turn ∷ turns) new =
    IsEvent turn.event × (mid : State) × StepBy L old turn.event turn.reply mid × Leads L mid turns new

-- these turns lead from boot to this state, with exact accounts
abbrev pub Run : Config → List Turn → State → Type 0
Run config turns new = Leads exact_ledger (boot config) turns new
