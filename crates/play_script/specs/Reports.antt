-- What a player of commented scripts may print for a line, by a machine's steps (this project's own).
use Rattle.std.specs.Prelude.{◌≡◌, ◌⊎◌, ℕ, ◌-◌, ◌==◌, ◌&&◌, ◌||◌, Bool, true, false, not, List, [], ◌∷◌, length, replicate, codes, Option, Some, None, Result, Ok, Err}
use Rattle.flat_model.specs.Machine.Count.{more_by}
use Rattle.flat_model.specs.Machine.Event.{Event, Reply, Tick, Done}
use Rattle.flat_model.specs.Machine.State.{State, IsConfig, HasSizes, boot}
use Rattle.flat_model.specs.Scripts.Texts.{reply_text}
use Rattle.flat_model.specs.declared.config.Config.{Config}
use Rattle.script_loop.specs.declared.fault.RunFault.{RunFault}
use Rattle.script_loop.specs.declared.fault.RunFault.TheVariants.{Read, Write, Memory, TooManyLines, BadSizes, BadConfig}
use Rattle.play_line.specs.Time.{TimedView, timed}
use Rattle.play_line.specs.declared.fault.SyntaxError.{SyntaxError}
use Rattle.play_text.specs.Texts.{fault_text, line_error_text, outcome_text}
use Rattle.play_text.specs.declared.form.Form.{Form}
use Rattle.play_script.specs.Settings.{IsSet, fault_words, is_lack}
use Rattle.play_script.specs.declared.fault.SettingFault.{SettingFault}
use Rattle.play_script.specs.declared.fault.SettingFault.TheVariants as settings
use Rattle.play_pcap.specs.Traces.{Traced}
use Rattle.play_text.specs.declared.table.Table.{Table}
use Rattle.play_script.specs.Asks.{Ask, Call, Ticks, Show, Capture, Settings, AsksFor}
use Rattle.play_script.specs.Actions.{Does, turns_with}
use Rattle.play_script.specs.Captures.{Captures}
use Rattle.play_script.specs.Lines.{Reading, Nothing, TooLong, Faulty, Asks, has_text, reading_part, shifted}
use Rattle.play_script.specs.Outcomes.{reply_line, drops_between, meets_reply}
use Rattle.play_script.specs.Plays.{IsPlayed, CapturedView, captured_of}

-- The state of a player: its machine, the capture of its packets, and the configuration that the machine was booted
-- with; whether settings are still accepted; how many lines it has seen; whether all of them could be read and all
-- expectations were met; whether there was no memory for the settings of one of them; whether one of them contains a
-- text in quotes; the form in which it prints, and the script's name for errors.
pub record Play : Type 0 where
  pub machine : State
  pub traced : Traced
  pub config : Config
  pub head : Bool
  pub number : ℕ
  pub sound : Bool
  pub lacks : Bool
  pub texts : Bool
  pub form : Form
  pub name : List ℕ

-- before the first line
abbrev pub started : State → Traced → Form → List ℕ → Play
started machine traced form name = record {
  machine = machine;
  traced = traced;
  config = machine.config;
  head = true;
  number = 0;
  sound = true;
  lacks = false;
  texts = false;
  form = form;
  name = name;
}

-- ---- texts

-- the reply meets the expectation, if there is one
abbrev pub is_sound : Option (List ℕ) → List ℕ → Bool
is_sound None reply_line = true
is_sound (Some wanted) reply_line = meets_reply wanted reply_line

-- the request didn't fail, or there was an expectation, which may be that it fails
abbrev pub is_done : Option (List ℕ) → Bool → Bool
is_done None failed = not failed
is_done (Some wanted) failed = true

-- the output for a line in the player's format: its reply, the lines below it, and the expectation
abbrev pub reply_line_text : Form → Bool → List ℕ → ℕ → List ℕ → Option (List ℕ) → List ℕ → List ℕ → List ℕ
reply_line_text form texts name number shown wanted reply_line below =
    outcome_text form texts name number shown wanted (is_sound wanted reply_line) reply_line below

-- ---- settings

-- whether settings are still accepted after this request
abbrev pub stays_head : Ask → Bool
stays_head (Call event) = false
stays_head (Ticks n) = false
stays_head (Show topic) = true
stays_head (Capture name details) = false
stays_head (Settings named) = true

-- why a machine can't be booted with a configuration
abbrev pub IsSettingRefused : Config → SettingFault → Type 0
IsSettingRefused c settings.BadSizes = ¬ HasSizes c
IsSettingRefused c settings.BadConfig = HasSizes c × ¬ IsConfig c
IsSettingRefused c settings.Memory = IsConfig c
IsSettingRefused c settings.Late = ⊥
IsSettingRefused c settings.Unknown = ⊥
IsSettingRefused c settings.NoValue = ⊥
IsSettingRefused c settings.NotAddress = ⊥
IsSettingRefused c settings.NotNumber = ⊥
IsSettingRefused c settings.OtherNetwork = ⊥

-- What settings make of a configuration: in the script's head what their names and values say, if there can be such a
-- machine.
abbrev pub IsSettled : Bool → Config → List (List ℕ) → Result Config SettingFault → Type 0
IsSettled false old named outcome = outcome ≡ Err settings.Late
IsSettled true old named (Ok new) = IsSet old named (Ok new) × IsConfig new
IsSettled true old named (Err fault) =
    IsSet old named (Err fault) ⊎ ((new : Config) × IsSet old named (Ok new) × IsSettingRefused new fault)

-- a line of settings prints `ok`, and the machine is a new one; or it prints the error
abbrev pub ReportsSettled : Play → List ℕ → Option (List ℕ) → Result Config SettingFault → List ℕ → Play → Type 0
ReportsSettled now shown wanted (Ok c) text new =
    (text ≡ reply_line_text now.form now.texts now.name now.number shown wanted (codes "ok") [])
    × (new ≡ record now { machine = boot c; config = c; sound = now.sound && is_sound wanted (codes "ok") })
ReportsSettled now shown wanted (Err fault) text new =
    (text ≡ fault_text now.form now.name now.number (fault_words fault))
    × (new ≡ record now { sound = false; lacks = now.lacks || is_lack fault })

abbrev pub ReportsSettings : Play → List ℕ → List (List ℕ) → Option (List ℕ) → List ℕ → Play → Type 0
ReportsSettings now shown named wanted text new =
    (outcome : Result Config SettingFault) × IsSettled now.head now.config named outcome
    × ReportsSettled now shown wanted outcome text new

-- ---- steps

-- the next line
abbrev pub next_line : List ℕ → Play → Play
next_line line old = record old { number = more_by 1 old.number; texts = old.texts || has_text line }

module _ (step : State → Event → Reply → State → Type 0) where
  -- What may be printed for these events: their reply and the causes of drops. The capture has the packets that they
  -- move.
  pub record IsDone (old : CapturedView) (events : List Event) (text : List ℕ) (new : CapturedView) : Type 0 where
    pub reply : Reply
    pub does : Does step old.machine events reply new.machine
    pub captured : Captures old.line old.traced (turns_with events reply) new.traced
    pub reports : text ≡ reply_line (reply_text reply) (drops_between old.machine new.machine)

  -- This many ticks pass, for which nothing is printed. After any tick, settings are no longer accepted.
  pub record IsWaited (ticks : ℕ) (now mid : Play) : Type 0 where
    pub does : Does step now.machine (replicate ticks Tick) Done mid.machine
    pub captured : Captures now.number now.traced (turns_with (replicate ticks Tick) Done) mid.traced
    pub is : mid ≡ record now { machine = mid.machine; traced = mid.traced; head = now.head && ticks == 0 }

-- the same; `has` says which bytes the file of a name may have
module _ (step : State → Event → Reply → State → Type 0) (has : List ℕ → List ℕ → Type 0) where
  -- What may be printed for a request, and whether it has failed, which only a capture can.
  abbrev pub ReportsAsk : Ask → CapturedView → Bool → List ℕ → CapturedView → Type 0
  ReportsAsk (Call event) old failed text new = IsDone step old (event ∷ []) text new × (failed ≡ false)
  ReportsAsk (Ticks n) old failed text new = IsDone step old (replicate n Tick) text new × (failed ≡ false)
  -- nothing changes; the text isn't specified
  ReportsAsk (Show topic) old failed text new =
      (new.machine ≡ old.machine) × (new.traced ≡ old.traced) × (failed ≡ false)
  ReportsAsk (Capture name details) old failed text new =
      (causes : Table) × IsPlayed step has details name old failed text causes new
  -- not specified here: see ReportsSettings
  ReportsAsk (Settings named) old failed text new = ⊥

  -- What a line with this request, other than settings, may print. The lines below the reply aren't specified.
  abbrev pub ReportsDone : Ask → Play → List ℕ → Option (List ℕ) → List ℕ → Play → Type 0
  ReportsDone ask now shown wanted text new =
      (after : CapturedView) × (failed : Bool) × (said : List ℕ) × (below : List ℕ)
      × ReportsAsk ask (captured_of now.machine now.traced now.number) failed said after
      × (text ≡ reply_line_text now.form now.texts now.name now.number shown wanted said below)
      × (new ≡ record now {
        machine = after.machine;
        traced = after.traced;
        head = now.head && stays_head ask;
        sound = (now.sound && is_sound wanted said) && is_done wanted failed;
      })

  -- what a line with this request may print; without a request, some advice
  abbrev pub ReportsLine : Option Ask → Play → List ℕ → List ℕ → Option (List ℕ) → List ℕ → Play → Type 0
  ReportsLine None now shown plain wanted text new =
      (what : List ℕ) × (text ≡ fault_text now.form now.name now.number what)
      × (new ≡ record now { sound = false })
  ReportsLine (Some ask) now shown plain wanted text new =
      ReportsDone ask now shown wanted text new
      ⊎ ((named : List (List ℕ)) × (ask ≡ Settings named) × ReportsSettings now shown named wanted text new)

  -- the possible output for a plain line
  abbrev pub ReportsAsked : Play → List ℕ → List ℕ → Option (List ℕ) → List ℕ → Play → Type 0
  ReportsAsked now shown plain wanted text new =
      (ask : Option Ask) × AsksFor plain ask × ReportsLine ask now shown plain wanted text new

  -- The possible output for a line with this reading, where `now` has its number. If it makes a request, `ticks` pass
  -- first. The part of the line that was parsed follows `before` bytes.
  abbrev pub ReportsReading : Play → ℕ → ℕ → Reading → List ℕ → Play → Type 0
  ReportsReading now ticks before Nothing text new = (text ≡ []) × (new ≡ now)
  ReportsReading now ticks before TooLong text new =
      (text ≡ fault_text now.form now.name now.number (codes "the line is too long"))
      × (new ≡ record now { sound = false })
  ReportsReading now ticks before (Faulty error) text new =
      (text ≡ line_error_text now.form now.name now.number (shifted before error))
      × (new ≡ record now { sound = false })
  ReportsReading now ticks before (Asks shown plain wanted) text new =
      (mid : Play) × IsWaited step ticks now mid × ReportsAsked mid shown plain wanted text new

  -- a line with its time, or the error in the time
  abbrev pub ReportsTimed : Play → List ℕ → Result TimedView SyntaxError → List ℕ → Play → Type 0
  ReportsTimed now line (Err error) text new =
      (text ≡ line_error_text now.form now.name now.number error) × (new ≡ record now { sound = false })
  ReportsTimed now line (Ok t) text new =
      ReportsReading now t.ticks (length line - length t.part) (reading_part line t.part) text new

  abbrev pub Reports : Play → List ℕ → List ℕ → Play → Type 0
  Reports old line text new = ReportsTimed (next_line line old) line (timed line) text new

-- ---- the status

abbrev pub play_fault_status : RunFault → ℕ
play_fault_status Memory = 3
play_fault_status BadSizes = 3
play_fault_status BadConfig = 3
play_fault_status Read = 4
play_fault_status Write = 4
play_fault_status TooManyLines = 4

-- 0 if all lines were served, all of them made requests, all captures were played that weren't expected to fail, and
-- all expectations were met; otherwise another number: 3 if there was no memory for the settings of a line
abbrev pub play_status : Result Unit RunFault → Bool → Bool → ℕ
play_status (Ok done) sound true = 3
play_status (Ok done) true false = 0
play_status (Ok done) false false = 1
play_status (Err fault) sound lacks = play_fault_status fault
