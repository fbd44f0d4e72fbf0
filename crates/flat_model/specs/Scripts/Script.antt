-- A machine that replies to the lines of a script, and what is printed for them (this project's own).
use Rattle.std.specs.Prelude.{◌≡◌, ℕ, Bool, true, IsTrue, List, [], ◌∷◌, flat_map, Option, Some, None}
use Rattle.flat_model.specs.Machine.Event.{Event, Reply}
use Rattle.flat_model.specs.Machine.State.{State, boot}
use Rattle.flat_model.specs.declared.config.Config.{Config}
use Rattle.flat_model.specs.Machine.Ledger.{Ledger, exact_ledger}
use Rattle.flat_model.specs.Runs.Run.{Turn, Leads}
use Rattle.flat_model.specs.Scripts.Grammar.{IsLine}
use Rattle.flat_model.specs.Scripts.Texts.{answer_text}

-- the line requests an event that is served
pub record Asks (serves : Event → Bool) (line : List ℕ) (event : Event) : Type 0 where
  pub form : IsLine line event
  pub served : IsTrue (serves event)

-- A machine given by its steps, which serves some of the events.
module _ (serves : Event → Bool) (step : State → Event → Reply → State → Type 0) where
  -- From old the machine may give this reply to the line and go on to new. A line that requests nothing changes
  -- nothing.
  abbrev pub Answers : State → List ℕ → Option Reply → State → Type 0
  Answers old line (Some reply) new = (event : Event) × Asks serves line event × step old event reply new
  Answers old line None new = ((event : Event) → ¬ Asks serves line event) × (new ≡ old)

  -- it may give these replies to these lines, one after another
  abbrev pub AnswersAll : State → List (List ℕ) → List (Option Reply) → State → Type 0
  AnswersAll old [] [] new = new ≡ old
  AnswersAll old (line ∷ lines) (answer ∷ answers) new =
      (mid : State) × Answers old line answer mid × AnswersAll mid lines answers new
  AnswersAll old [] (answer ∷ answers) new = ⊥
  AnswersAll old (line ∷ lines) [] new = ⊥

  -- what may be printed for these lines, on the way from old to new
  abbrev pub Prints : State → List (List ℕ) → List ℕ → State → Type 0
  Prints old lines printed new =
      (answers : List (Option Reply)) × AnswersAll old lines answers new × (printed ≡ flat_map answer_text answers)

-- ---- the run that a script makes

-- the turns of the lines that request an event, in order, with the replies to these lines
abbrev pub AreTurns : (Event → Bool) → List (List ℕ) → List (Option Reply) → List Turn → Type 0
AreTurns serves [] [] turns = turns ≡ []
AreTurns serves (line ∷ lines) (Some reply ∷ answers) (turn ∷ turns) =
    Asks serves line turn.event × (turn.reply ≡ reply) × AreTurns serves lines answers turns
AreTurns serves (line ∷ lines) (None ∷ answers) turns =
    ((event : Event) → ¬ Asks serves line event) × AreTurns serves lines answers turns
AreTurns serves lines answers turns = ⊥

-- the output for the lines consists of the replies of a run from old to new
pub record IsPrintOfRun (L : Ledger) (serves : Event → Bool) (old : State) (lines : List (List ℕ)) (printed : List ℕ)
    (new : State) : Type 0 where
  pub answers : List (Option Reply)
  pub turns : List Turn
  pub are : AreTurns serves lines answers turns
  pub leads : Leads L old turns new
  pub text : printed ≡ flat_map answer_text answers

-- ---- the whole machine

-- all lines are served
abbrev pub all_events : Event → Bool
all_events event = true

-- a run of the machine with exact accounts prints this for the lines: `Run` leads through its turns
abbrev pub PrintsRun : Config → List (List ℕ) → List ℕ → State → Type 0
PrintsRun config lines printed new = IsPrintOfRun exact_ledger all_events (boot config) lines printed new
