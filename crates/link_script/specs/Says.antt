-- The possible output of a machine for a line, by its steps (this project's own).
use Rattle.std.specs.Prelude.{◌≡◌, ℕ, List, Option}
use Rattle.flat_model.specs.Machine.Event.{Event, Reply}
use Rattle.flat_model.specs.Machine.State.{State}
use Rattle.flat_model.specs.Scripts.Texts.{answer_text}
use Rattle.flat_model.specs.Scripts.Script.{Answers, all_events}

-- the text of a possible reply; all lines are served
abbrev pub SaysBy : (State → Event → Reply → State → Type 0) → State → List ℕ → List ℕ → State → Type 0
SaysBy step old line text new =
    (answer : Option Reply) × Answers all_events step old line answer new × (text ≡ answer_text answer)
