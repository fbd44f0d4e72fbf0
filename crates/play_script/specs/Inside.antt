-- Definitions that only this crate uses.
use Rattle.std.specs.Prelude.{◌≡◌, ℕ, Bool, true, false, List, [], ◌∷◌, replicate, Some, None}
use Rattle.flat_model.specs.Machine.Event.{Event, Reply, Open, Bind, Connect, Send, Receive, Close, Set_option, Set_limit, Comes, Transmit, Tick, Ask_counters, Ask_usage}
use Rattle.flat_model.specs.Machine.State.{State}
use Rattle.flat_model.specs.declared.config.Config.{Config}
use Rattle.play_pcap.specs.Traces.{Traced}
use Rattle.play_script.specs.Asks.{Ask, AsksFor, Settings}
use Rattle.play_script.specs.Captures.{tick_in}
use Rattle.play_script.specs.Plays.{CapturedView}
use Rattle.play_script.specs.Reports.{Play, ReportsAsk, stays_head}
use Rattle.play_script.specs.declared.action.Action.{Action}
use Rattle.play_script.specs.declared.action.Action.TheVariants.{Call, Limit, Ticks}
use Rattle.play_script.specs.declared.printer.Printer.{Printer}
use Rattle.play_script.specs.declared.execute.Executed.{Executed}
use Rattle.play_script.specs.declared.execute.Executed.TheVariants as executed
use Rattle.request.specs.Requests.{event_of, room_of}

-- the events of an action
abbrev pub events_of : Action → List Event
events_of (Call request) = event_of request ∷ []
events_of (Limit fd limit) = Set_limit fd limit ∷ []
events_of (Ticks n) = replicate n Tick

-- Whether a call changes neither a counter nor the pool nor a queue; `Still-counters` in proofs/StillLemmas holds it to
-- the counters.
abbrev pub is_still : Event → Bool
is_still Open = true
is_still (Bind fd address) = true
is_still (Connect fd address) = true
is_still (Send fd to bytes) = false
is_still (Receive fd most) = false
is_still (Close fd) = false
is_still (Set_option fd option on) = true
is_still (Set_limit fd limit) = true
is_still (Comes packet) = false
is_still Transmit = false
is_still Tick = false
is_still Ask_counters = true
is_still Ask_usage = true

-- the same for an action
abbrev pub is_still_action : Action → Bool
is_still_action (Call request) = is_still (event_of request)
is_still_action (Limit fd limit) = true
is_still_action (Ticks n) = false

-- how many bytes it has, or requests
abbrev pub most_of : Action → ℕ
most_of (Call request) = room_of request
most_of (Limit fd limit) = 0
most_of (Ticks n) = 0

-- how many ticks it lets pass
abbrev pub ticks_of : Action → ℕ
ticks_of (Call request) = tick_in (event_of request)
ticks_of (Limit fd limit) = 0
ticks_of (Ticks n) = n

-- the state of a player, by its fields
abbrev pub play_of : State → Traced → Config → Bool → Printer → Play
play_of machine traced config head printer = record {
  machine = machine;
  traced = traced;
  config = config;
  head = head;
  number = printer.number;
  sound = printer.sound;
  lacks = printer.lacks;
  texts = printer.texts;
  form = printer.form;
  name = printer.name;
}

module _ (step : State → Event → Reply → State → Type 0) (has : List ℕ → List ℕ → Type 0) where
  -- The result of executing a request. Settings change nothing here.
  abbrev pub IsExecutedAs : Ask → Executed → CapturedView → List ℕ → CapturedView → Type 0
  IsExecutedAs ask executed.Nothing old text new = ⊥
  IsExecutedAs ask executed.Settings old text new = ((named : List (List ℕ)) × (ask ≡ Settings named)) × (new ≡ old)
  IsExecutedAs ask (executed.Done stays failed) old text new =
      ReportsAsk step has ask old failed text new × (stays ≡ stays_head ask)

  -- the result of executing a plain line; a line without a request changes nothing
  abbrev pub IsExecuted : List ℕ → Executed → CapturedView → List ℕ → CapturedView → Type 0
  IsExecuted plain executed.Nothing old text new = AsksFor plain None × (new ≡ old)
  IsExecuted plain executed.Settings old text new =
      (ask : Ask) × AsksFor plain (Some ask) × IsExecutedAs ask executed.Settings old text new
  IsExecuted plain (executed.Done stays failed) old text new =
      (ask : Ask) × AsksFor plain (Some ask) × IsExecutedAs ask (executed.Done stays failed) old text new
