-- The text for a plain line, by its request.
use Rattle.std.proofs.Common.{◌≡◌, ℕ, ◌&&◌, Bool, true, false, List, ◌++◌, codes, if◌then◌else◌, Option, Some, None, Result, inl, inr, refl, sym, ap, ◌∙◌, subst}
use Rattle.flat_model.specs.Machine.Event.{Event, Reply}
use Rattle.flat_model.specs.Machine.State.{State}
use Rattle.play_line.specs.Time.{TimedView, timed}
use Rattle.play_line.specs.declared.fault.SyntaxError.{SyntaxError}
use Rattle.play_text.specs.Texts.{fault_text}
use Rattle.std.proofs.lemmas.Bool.{false≢true}
use Rattle.flat_model.specs.Scripts.Texts.{hex_text}
use Rattle.play_script.specs.Asks.{Ask, AsksFor, Settings, Writes}
use Rattle.flat_model.specs.Scripts.Grammar.{words}
use Rattle.play_script.specs.Inside.{IsExecuted, IsExecutedAs}
use Rattle.play_script.specs.Lines.{Reading}
use Rattle.play_script.specs.Plays.{CapturedView, captured_of}
use Rattle.play_script.specs.Reports.{Play, Reports, ReportsAsk, ReportsAsked, ReportsReading, ReportsSettings, ReportsTimed, is_done, is_sound, next_line, stays_head, reply_line_text}
use Rattle.play_script.specs.Views.{plain_line}
use Rattle.play_script.specs.declared.line.Line.{Line}
use Rattle.play_script.specs.declared.execute.Executed.{Executed}
use Rattle.play_script.specs.declared.execute.Executed.TheVariants as executed

-- a line with this request
pub Ask-reports : (step : State → Event → Reply → State → Type 0) (has : List ℕ → List ℕ → Type 0) (now new : Play)
    (shown plain : List ℕ)
    (wanted : Option (List ℕ)) (ask : Ask) (text below : List ℕ) (after : CapturedView) (failed : Bool)
    → AsksFor plain (Some ask)
    → ReportsAsk step has ask (captured_of now.machine now.traced now.number) failed text after
    → new ≡ record now {
      machine = after.machine;
      traced = after.traced;
      head = now.head && stays_head ask;
      sound = (now.sound && is_sound wanted text) && is_done wanted failed;
    }
    → ReportsAsked step has now shown plain wanted (reply_line_text now.form now.texts now.name now.number shown wanted
    text below) new
Ask-reports step has now new shown plain wanted ask text below after failed asks reports is =
    (Some ask, asks, inl (after, failed, text, below, reports, refl, is))

-- a line without a request
pub None-reports : (step : State → Event → Reply → State → Type 0) (has : List ℕ → List ℕ → Type 0) (now new : Play)
    (shown plain : List ℕ)
    (wanted : Option (List ℕ)) (after : CapturedView) (what : List ℕ) → AsksFor plain None
    → after ≡ captured_of now.machine now.traced now.number
    → new ≡ record now { machine = after.machine; traced = after.traced; sound = false }
    → ReportsAsked step has now shown plain wanted (fault_text now.form now.name now.number what) new
None-reports step has now new shown plain wanted after what none kept is = (
  None,
  none,
  (
    what,
    refl,
    is ∙ ap (λ (s : CapturedView). record now { machine = s.machine; traced = s.traced; sound = false }) kept,
  ),
)

-- a line of settings doesn't describe a packet
words_if : (b : Bool) (packet plain : List ℕ) (named : List (List ℕ))
    → Writes (if b then codes "rx " ++ hex_text packet else plain) (Settings named)
    → plain ≡ (if b then codes "rx " ++ hex_text packet else plain)
words_if true packet plain named h = absurd (false≢true h.0)
words_if false packet plain named h = refl

pub settings_words : (line : Line) (ask : Ask) (named : List (List ℕ)) → AsksFor (plain_line line) (Some ask)
    → ask ≡ Settings named → line.words ≡ plain_line line
settings_words line ask named asks is =
    words_if line.named line.packet line.words named (subst (λ (a : Ask). Writes (plain_line line) a) is asks)

-- a line of settings
pub Settings-execute : (step : State → Event → Reply → State → Type 0) (has : List ℕ → List ℕ → Type 0)
    (now mid new : Play) (shown plain line text : List ℕ)
    (wanted : Option (List ℕ)) (named : List (List ℕ)) (ask : Ask) (after : CapturedView) → line ≡ plain
    → AsksFor plain (Some ask) → ask ≡ Settings named
    → after ≡ captured_of now.machine now.traced now.number
    → mid ≡ record now { machine = after.machine; traced = after.traced }
    → ReportsSettings mid shown (words line) wanted text new → ReportsAsked step has now shown plain wanted text new
Settings-execute step has now mid new shown plain line text wanted named ask after same asks is kept begun said =
    let here : AsksFor plain (Some (Settings named)) =
    subst (λ (a : Ask). AsksFor plain (Some a)) is asks in
    let unchanged : mid ≡ now =
    begun ∙ ap (λ (s : CapturedView). record now { machine = s.machine; traced = s.traced }) kept in (
      Some (Settings named),
      here,
      inr (
        named,
        refl,
        subst (λ (m : Play). ReportsSettings m shown named wanted text new) unchanged
            (subst (λ (ws : List (List ℕ)). ReportsSettings mid shown ws wanted text new)
            (ap words same ∙ sym here.1) said),
      ),
    )

-- the result of executing a line's request
pub Executed-some : (step : State → Event → Reply → State → Type 0) (has : List ℕ → List ℕ → Type 0)
    (plain : List ℕ) (ask : Ask) (came : Executed) (old new : CapturedView) (text : List ℕ) → AsksFor plain (Some ask)
    → IsExecutedAs step has ask came old text new → IsExecuted step has plain came old text new
Executed-some step has plain ask executed.Nothing old new text asks came = absurd came
Executed-some step has plain ask executed.Settings old new text asks came = (ask, asks, came)
Executed-some step has plain ask (executed.Done stays failed) old new text asks came = (ask, asks, came)

-- a line with this reading
pub Reading-reports : (step : State → Event → Reply → State → Type 0) (has : List ℕ → List ℕ → Type 0) (now new : Play)
    (ticks before : ℕ) (read is : Reading) (text : List ℕ) → read ≡ is
    → ReportsReading step has now ticks before is text new → ReportsReading step has now ticks before read text new
Reading-reports step has now new ticks before read is text same said =
    subst (λ (r : Reading). ReportsReading step has now ticks before r text new) (sym same) said

-- a line with this time
pub Timed-reports : (step : State → Event → Reply → State → Type 0) (has : List ℕ → List ℕ → Type 0) (old now new :
    Play)
    (line text : List ℕ) (t : Result TimedView SyntaxError) → now ≡ next_line line old → t ≡ timed line
    → ReportsTimed step has now line t text new → Reports step has old line text new
Timed-reports step has old now new line text t counted is said =
    subst (λ (r : Result TimedView SyntaxError). ReportsTimed step has (next_line line old) line r text new) is
    (subst (λ (p : Play). ReportsTimed step has p line t text new) counted said)
