-- The output for a line of a host that the page plays (this project's own).
use Rattle.std.specs.Prelude.{◌≡◌, ℕ, List, Option, Some, None}
use Rattle.flat_model.specs.Machine.Event.{Event, Reply}
use Rattle.flat_model.specs.Machine.State.{State}
use Rattle.flat_model.specs.Scripts.Texts.{answer_text}
use Rattle.play_script.specs.Asks.{Calls}

-- From old the machine may give this reply to the line and go on to new. A line that requests nothing changes nothing.
abbrev pub RepliesTo : (State → Event → Reply → State → Type 0) → State → List ℕ → Option Reply → State → Type 0
RepliesTo step old line (Some reply) new = (event : Event) × Calls line event × step old event reply new
RepliesTo step old line None new = ((event : Event) → ¬ Calls line event) × (new ≡ old)

-- the text of a possible reply
abbrev pub SaysLine : (State → Event → Reply → State → Type 0) → State → List ℕ → List ℕ → State → Type 0
SaysLine step old line text new =
    (answer : Option Reply) × RepliesTo step old line answer new × (text ≡ answer_text answer)
