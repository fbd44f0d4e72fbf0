-- A clock that ticks while nothing else happens (this project's own).
use Rattle.std.specs.Prelude.{ℕ, List, replicate}
use Rattle.flat_model.specs.Machine.Event.{Tick, Done}
use Rattle.flat_model.specs.Runs.Run.{Turn}

-- n ticks
abbrev pub only_ticks : ℕ → List Turn
only_ticks n = replicate n (record { event = Tick; reply = Done })
