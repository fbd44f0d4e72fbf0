-- The effects of a line on a machine: events, one after another (this project's own).
use Rattle.std.specs.Prelude.{◌≡◌, ℕ, List, [], ◌∷◌, map, Option, None}
use Rattle.flat_model.specs.Machine.Event.{Event, Reply}
use Rattle.flat_model.specs.Machine.State.{State}
use Rattle.flat_model.specs.Runs.Run.{Turn}
use Rattle.play_script.specs.Captures.{moved_by, turn_of}

-- the turns of events that all have this reply
abbrev pub turns_with : List Event → Reply → List Turn
turns_with events reply = map (λ event. turn_of event reply) events

-- the packet that they move: no more than one event moves one
abbrev pub moved_in : List Event → Reply → Option (List ℕ)
moved_in [] reply = None
moved_in (event ∷ events) reply = moved_by event reply

module _ (step : State → Event → Reply → State → Type 0) where
  -- these events, one after another, have this reply, and lead from old to new
  abbrev pub Does : State → List Event → Reply → State → Type 0
  Does old [] reply new = new ≡ old
  Does old (event ∷ events) reply new = (mid : State) × step old event reply mid × Does mid events reply new
