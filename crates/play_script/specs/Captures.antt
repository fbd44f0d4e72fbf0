-- What a run adds to a capture: the packets that arrive and leave, in their order (this project's own).
use Rattle.std.specs.Prelude.{◌≡◌, ℕ, zero, suc, List, [], ◌∷◌, ◌++◌, Option, Some, None}
use Rattle.flat_model.specs.Machine.Count.{more_by}
use Rattle.flat_model.specs.Machine.Event.{Event, Reply, Comes, Transmit, Tick, Given}
use Rattle.flat_model.specs.Runs.Run.{Turn}
use Rattle.play_pcap.specs.Traces.{Keeps, Pass, Traced, later, pass_at, passes_bytes}

abbrev pub turn_of : Event → Reply → Turn
turn_of event reply = record { event = event; reply = reply }

-- ---- a turn

abbrev pub given_packet : Reply → Option (List ℕ)
given_packet (Given packet) = packet
given_packet reply = None

-- the packet that a turn moves: one that arrives from the wire, or one that the link takes
abbrev pub moved_by : Event → Reply → Option (List ℕ)
moved_by (Comes packet) reply = Some packet
moved_by Transmit reply = given_packet reply
moved_by event reply = None

-- how many ticks an event is
abbrev pub tick_in : Event → ℕ
tick_in Tick = 1
tick_in event = 0

-- this many ticks later
abbrev pub later_by : ℕ → ℕ → ℕ
later_by zero ticks = ticks
later_by (suc n) ticks = later_by n (later ticks)

abbrev pub after_ticks : ℕ → Traced → Traced
after_ticks n t = record t { ticks = later_by n t.ticks }

abbrev pub ticks_by : Event → ℕ → ℕ
ticks_by event ticks = later_by (tick_in event) ticks

abbrev pub pass_if : ℕ → ℕ → Option (List ℕ) → List Pass
pass_if ticks number None = []
pass_if ticks number (Some packet) = pass_at ticks number packet ∷ []

-- a capture after the packet that is moved, if there is one, and n ticks
abbrev pub Logs : ℕ → Traced → Option (List ℕ) → ℕ → Traced → Type 0
Logs number old moved n new =
    Keeps old new (passes_bytes (pass_if old.ticks number moved)) × (new.ticks ≡ later_by n old.ticks)

-- ---- the turns of a line

-- the packets that they move, by the line of this number, after this many ticks
abbrev pub passes : ℕ → ℕ → List Turn → List Pass
passes number ticks [] = []
passes number ticks (turn ∷ turns) =
    pass_if ticks number (moved_by turn.event turn.reply) ++ passes number (ticks_by turn.event ticks) turns

abbrev pub ticks_after : ℕ → List Turn → ℕ
ticks_after ticks [] = ticks
ticks_after ticks (turn ∷ turns) = ticks_after (ticks_by turn.event ticks) turns

-- what they add to a capture
abbrev pub Captures : ℕ → Traced → List Turn → Traced → Type 0
Captures number old turns new =
    Keeps old new (passes_bytes (passes number old.ticks turns)) × (new.ticks ≡ ticks_after old.ticks turns)

-- ---- the turns of all lines, a list of them for each line

-- the packets that they move, after this many lines and ticks
abbrev pub all_passes : ℕ → ℕ → List (List Turn) → List Pass
all_passes number ticks [] = []
all_passes number ticks (turns ∷ lines) =
    passes (more_by 1 number) ticks turns ++ all_passes (more_by 1 number) (ticks_after ticks turns) lines
