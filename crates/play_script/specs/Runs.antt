-- The run of a machine that a script describes (this project's own).
use Rattle.std.specs.Prelude.{◌≡◌, ◌⊎◌, ℕ, true, List, [], ◌∷◌, ◌++◌, replicate, Result, Ok, Err}
use Rattle.flat_model.specs.Machine.Event.{Event, Reply, Tick, Done}
use Rattle.flat_model.specs.Machine.Ledger.{exact_ledger}
use Rattle.flat_model.specs.Machine.State.{State, boot}
use Rattle.flat_model.specs.Runs.Run.{Turn, Leads}
use Rattle.flat_model.specs.declared.config.Config.{Config}
use Rattle.play_line.specs.Time.{TimedView, timed}
use Rattle.play_line.specs.declared.fault.SyntaxError.{SyntaxError}
use Rattle.play_script.specs.Settings.{IsSet}
use Rattle.play_pcap.specs.Traces.{Keeps, passes_bytes}
use Rattle.play_script.specs.Captures.{all_passes, turn_of}
use Rattle.play_script.specs.Asks.{Calls, IsTicks, Settings, Writes}
use Rattle.play_script.specs.Lines.{Reading, Nothing, TooLong, Faulty, Asks, reading_part}
use Rattle.play_script.specs.Plays.{PlaysIn}
use Rattle.play_script.specs.Reports.{Play}

-- The turns of a line, where `has` says which bytes the file of a name may have: one for the event that it requests,
-- one for each of its ticks, or those of the capture that it plays; none if it has no request, or the capture can't be
-- played.
abbrev pub AreAskedTurns : (List ℕ → List ℕ → Type 0) → List ℕ → List Turn → Type 0
AreAskedTurns has plain turns =
    ((event : Event) × (reply : Reply) × Calls plain event × (turns ≡ turn_of event reply ∷ []))
    ⊎ ((n : ℕ) × IsTicks plain n × (turns ≡ replicate n (turn_of Tick Done)))
    ⊎ PlaysIn has plain turns
    ⊎ (((event : Event) → ¬ Calls plain event) × ((n : ℕ) → ¬ IsTicks plain n) × (turns ≡ []))

-- the same for a line after this many ticks
abbrev pub ArePlayedTurns : (List ℕ → List ℕ → Type 0) → ℕ → Reading → List Turn → Type 0
ArePlayedTurns has ticks Nothing turns = turns ≡ []
ArePlayedTurns has ticks TooLong turns = turns ≡ []
ArePlayedTurns has ticks (Faulty error) turns = turns ≡ []
ArePlayedTurns has ticks (Asks shown plain wanted) turns =
    (rest : List Turn) × (turns ≡ replicate ticks (turn_of Tick Done) ++ rest) × AreAskedTurns has plain rest

-- the same for a line with its time
abbrev pub AreTimedTurns : (List ℕ → List ℕ → Type 0) → List ℕ → Result TimedView SyntaxError → List Turn → Type 0
AreTimedTurns has line (Err error) turns = turns ≡ []
AreTimedTurns has line (Ok t) turns = ArePlayedTurns has t.ticks (reading_part line t.part) turns

-- the turns of these lines, one list for each line
abbrev pub AreAllTurns : (List ℕ → List ℕ → Type 0) → List (List ℕ) → List (List Turn) → Type 0
AreAllTurns has [] turns = turns ≡ []
AreAllTurns has (line ∷ lines) [] = ⊥
AreAllTurns has (line ∷ lines) (first ∷ rest) =
    AreTimedTurns has line (timed line) first × AreAllTurns has lines rest

-- one after another
abbrev pub all_turns : List (List Turn) → List Turn
all_turns [] = []
all_turns (first ∷ rest) = first ++ all_turns rest

-- ---- settings

-- the configuration after a line in the head: unchanged, or with the line's settings
abbrev pub MaySet : Reading → Config → Config → Type 0
MaySet Nothing old new = new ≡ old
MaySet TooLong old new = new ≡ old
MaySet (Faulty error) old new = new ≡ old
MaySet (Asks shown plain wanted) old new =
    (new ≡ old) ⊎ ((named : List (List ℕ)) × Writes plain (Settings named) × IsSet old named (Ok new))

abbrev pub MayTimedSet : List ℕ → Result TimedView SyntaxError → Config → Config → Type 0
MayTimedSet line (Err error) old new = new ≡ old
MayTimedSet line (Ok t) old new = MaySet (reading_part line t.part) old new

-- after several lines
abbrev pub MaySetAll : List (List ℕ) → Config → Config → Type 0
MaySetAll [] old new = new ≡ old
MaySetAll (line ∷ lines) old new = (mid : Config) × MayTimedSet line (timed line) old mid × MaySetAll lines mid new

-- The machine that the turns begin with: the current one, or in the head one that settings have made.
abbrev pub Begins : Play → List (List ℕ) → State → Type 0
Begins old lines first =
    (first ≡ old.machine) ⊎ ((old.head ≡ true) × ((c : Config) × MaySetAll lines old.config c × (first ≡ boot c)))

-- The turns of these lines are a run of the machine that keeps exact accounts, and what the lines add to a capture are
-- the packets that these turns move, in their order: each once, whole, with the number of its line.
pub record IsRunOf (has : List ℕ → List ℕ → Type 0) (old : Play) (lines : List (List ℕ)) (new : Play) : Type 0 where
  pub first : State
  pub begins : Begins old lines first
  pub turns : List (List Turn)
  pub are : AreAllTurns has lines turns
  pub leads : Leads exact_ledger first (all_turns turns) new.machine
  pub kept : Keeps old.traced new.traced (passes_bytes (all_passes old.number old.traced.ticks turns))
