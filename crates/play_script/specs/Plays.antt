-- Captures that are played: the machine's steps, and their output (this project's own).
use Rattle.std.specs.Prelude.{◌≡◌, ℕ, Bool, true, false, List, [], ◌∷◌, ◌++◌, map, length, Result, Ok, Err}
use Rattle.flat_model.specs.Machine.Event.{Event, Reply, IsEvent, Done}
use Rattle.flat_model.specs.Machine.State.{State}
use Rattle.flat_model.specs.Runs.Run.{Turn}
use Rattle.flat_model.specs.declared.counters.Counters.{Counters}
use Rattle.capture.specs.Records.{Whole, Reads}
use Rattle.play_pcap.specs.Acts.{Act, Arrives, Passes, act_event}
use Rattle.play_pcap.specs.Asks.{IsAsked}
use Rattle.play_pcap.specs.Events.{HasRange, capture_acts}
use Rattle.play_pcap.specs.Files.{IsAvailable, PlaysNamed}
use Rattle.play_pcap.specs.Results.{capture_text}
use Rattle.play_pcap.specs.Traces.{Traced}
use Rattle.play_pcap.specs.declared.ask.Details.{Details}
use Rattle.play_pcap.specs.declared.fault.CaptureFault.{CaptureFault}
use Rattle.play_pcap.specs.declared.moves.Tally.{Tally}
use Rattle.play_text.specs.Tables.{no_drops, drops_added}
use Rattle.play_text.specs.declared.table.Table.{Table}
use Rattle.play_show.specs.Changes.{IsSnapshot}
use Rattle.play_show.specs.declared.snapshot.Snapshot.{Snapshot}
use Rattle.play_script.specs.Captures.{Captures, turn_of}
use Rattle.play_script.specs.Outcomes.{drops_text}

-- A machine, the capture of its packets, and the number of the current line.
pub record CapturedView : Type 0 where
  pub machine : State
  pub traced : Traced
  pub line : ℕ

abbrev pub captured_of : State → Traced → ℕ → CapturedView
captured_of machine traced line = record { machine = machine; traced = traced; line = line }

-- The same while a capture is played, and the causes for which its packets were dropped.
pub record ReplayView : Type 0 where
  pub seen : CapturedView
  pub causes : Table

abbrev pub replay_of : CapturedView → Table → ReplayView
replay_of seen causes = record { seen = seen; causes = causes }

-- ---- the turns of a line

-- a packet arrives, or a tick passes
abbrev pub came_turn : Act → Turn
came_turn act = turn_of (act_event act) Done

-- The plain line requests a capture in a file that exists, and that reads as a capture with all records of the range.
-- The turns are those of these records: their packets arrive one after another, with the ticks between them.
abbrev pub PlaysIn : (List ℕ → List ℕ → Type 0) → List ℕ → List Turn → Type 0
PlaysIn has plain turns =
    (word : List ℕ) × (d : Details) × (file : List ℕ) × (w : Whole)
    × IsAsked plain word d × IsAvailable has word file × Reads file (Ok w) × HasRange d.range (length w.records)
    × (turns ≡ map came_turn (capture_acts d w))

-- ---- the output

-- a packet counts for each cause whose counter went up by it
abbrev pub causes_by : Act → Counters → Counters → Table → Table
causes_by (Arrives place packet) before after causes = drops_added place.number before after causes
causes_by Passes before after causes = causes

-- whether a capture couldn't be played
abbrev pub has_failed : Result Tally CaptureFault → Bool
has_failed (Ok tally) = false
has_failed (Err fault) = true

module _ (step : State → Event → Reply → State → Type 0) where
  -- A packet arrives or a tick passes, and the capture records the machine's packets. The causes for which the packet
  -- was dropped are noted, with the number of its record.
  abbrev pub ComesTo : ReplayView → Act → ReplayView → Type 0
  ComesTo old act new =
      IsEvent (act_event act) × step old.seen.machine (act_event act) Done new.seen.machine
      × Captures old.seen.line old.seen.traced (came_turn act ∷ []) new.seen.traced × (new.seen.line ≡ old.seen.line)
      × (new.causes ≡ causes_by act old.seen.machine.counters new.seen.machine.counters old.causes)

  -- What may be printed for the capture in the file of this name: how many packets arrived, or what is wrong with the
  -- file, and why packets were dropped. For each cause, the number of packets and the first record are noted. It has
  -- failed if the file couldn't be played.
  abbrev pub IsPlayed : (List ℕ → List ℕ → Type 0) → Details → List ℕ → CapturedView → Bool → List ℕ → Table
      → CapturedView → Type 0
  IsPlayed has d word old failed reply_line causes new =
      (outcome : Result Tally CaptureFault) × (before after : Snapshot)
      × PlaysNamed has ComesTo d word outcome (replay_of old no_drops) (replay_of new causes)
      × IsSnapshot step old.machine before × IsSnapshot step new.machine after
      × (reply_line ≡ capture_text outcome ++ drops_text before.counters after.counters)
      × (failed ≡ has_failed outcome)
