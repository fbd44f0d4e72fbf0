-- Laws of plain lines: a line has at most one kind of request.
use Rattle.std.proofs.Common.{◌≡◌, ℕ, ◌<◌, ◌^◌, true, List, Some, inl, inr, sym, arith, subst}
use Rattle.flat_model.specs.Machine.Event.{Event, IsEvent}
use Rattle.flat_model.proofs.Laws.{in_range}
use Rattle.play_pcap.specs.Asks.{IsAsked}
use Rattle.play_pcap.specs.declared.ask.Details.{Details}
use Rattle.play_script.specs.Settings.{has_dashes}
use Rattle.play_show.specs.Topics.{topic_asked}
use Rattle.play_show.specs.declared.topic.Topic.{Topic}
use Rattle.play_script.specs.Asks.{Calls, IsTicks}
use Rattle.play_script.proofs.LineLemmas.{call-capture, call-settings, call-show, ticks-capture, ticks-settings, ticks-show}

-- an event that a line requests has its values in range
pub Calls-in_range : (plain : List ℕ) (event : Event) → Calls plain event → IsEvent event
Calls-in_range plain event (inl asks) = in_range plain event asks.form
Calls-in_range plain event (inr (fd, limit, is, asks)) =
    let small : limit < 2 ^ 16 = omega (arith, asks.4.0) in subst IsEvent (sym is) small

-- the line requests neither an event nor ticks
abbrev pub IsIdle : List ℕ → Type 0
IsIdle plain = ((event : Event) → ¬ Calls plain event) × ((n : ℕ) → ¬ IsTicks plain n)

-- for a line that requests to be shown something
pub Show-idle : (plain : List ℕ) (topic : Topic) → topic_asked plain ≡ Some topic → IsIdle plain
Show-idle plain topic is =
    (λ event asks. call-show plain event topic asks is, λ n ticks. ticks-show plain n topic ticks is)

-- for a line that requests a capture
pub Capture-idle : (plain name : List ℕ) (details : Details) → IsAsked plain name details → IsIdle plain
Capture-idle plain name details asked = (
  λ event asks. call-capture plain event name details asks asked,
  λ n ticks. ticks-capture plain n name details ticks asked,
)

-- for a line of settings
pub Settings-idle : (plain : List ℕ) → has_dashes plain ≡ true → IsIdle plain
Settings-idle plain is = (λ event. call-settings plain event is, λ n. ticks-settings plain n is)
