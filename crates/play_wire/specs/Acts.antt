-- The effects of a line on the hosts and the wire (this project's own).
use Rattle.std.specs.Prelude.{◌≡◌, ℕ, List, [], ◌∷◌, codes, map, replicate, slice_get, slice_set, Option, Some, None}
use Rattle.flat_model.specs.Machine.Event.{Event, Reply, Tick, Done}
use Rattle.flat_model.specs.Runs.Run.{Turn}
use Rattle.flat_model.specs.Scripts.Texts.{reply_text}
use Rattle.net_stack.specs.Runs.{AreCalls}
use Rattle.net_stack.specs.Stack.{StackView, state_of}
use Rattle.play_script.specs.Asks.{Ask, Call, Ticks, Show, Capture, Settings, AsksFor}
use Rattle.play_script.specs.Outcomes.{reply_line, drops_between}
use Rattle.segment.specs.Law.{Act, Calls, AreActs}
use Rattle.segment.specs.Segment.{SegmentView}
use Rattle.play_wire.specs.declared.fault.Fault.{Fault}
use Rattle.play_wire.specs.declared.fault.Fault.TheVariants as fault

-- The outcome of a line: a reply with lines below it; or the reason why the line does nothing.
pub data Outcome : Type 0 where
  Replied : (reply_line below : List ℕ) → Outcome
  Refused : (fault : Fault) → Outcome

-- a call, and its reply
abbrev pub call_turn : Event → Reply → Turn
call_turn event reply = record { event = event; reply = reply }

-- some acts lead from one segment to the other
abbrev pub AreLedTo : SegmentView → SegmentView → Type 0
AreLedTo old new = (acts : List Act) × AreActs old acts new

-- the segment with another stack at a place
abbrev pub with_stack_at : ℕ → StackView → SegmentView → SegmentView
with_stack_at place s v = record v { stacks = slice_set v.stacks place s }

-- this reply, with some lines below it
abbrev pub IsReplied : List ℕ → Outcome → Type 0
IsReplied text outcome = (below : List ℕ) × (outcome ≡ Replied text below)

-- The request of a line makes these calls, which lead a stack from s to t, with this outcome; without a request it
-- makes none. The lines below a reply aren't specified.
abbrev pub Does : Option Ask → StackView → List Turn → Outcome → StackView → Type 0
-- The text is the reply and the causes for which packets were dropped.
Does (Some (Call event)) s turns outcome t =
    (reply : Reply) × (turns ≡ call_turn event reply ∷ [])
    × IsReplied (reply_line (reply_text reply) (drops_between (state_of s) (state_of t))) outcome
Does (Some (Ticks n)) s turns outcome t = (turns ≡ replicate n (call_turn Tick Done)) × IsReplied (codes "ok") outcome
-- the text isn't specified
Does (Some (Show topic)) s turns outcome t = (text : List ℕ) × (turns ≡ []) × IsReplied text outcome
-- no capture is played
Does (Some (Capture name details)) s turns outcome t = (turns ≡ []) × (outcome ≡ Refused fault.NoCapture)
-- the settings of a host are in its line `host`
Does (Some (Settings named)) s turns outcome t = (turns ≡ []) × (outcome ≡ Refused fault.NoSettings)
Does None s turns outcome t = (turns ≡ []) × (outcome ≡ Refused fault.Nothing)

-- a line leads a stack from s to t, with this outcome
abbrev pub IsLineExecuted : List ℕ → StackView → List Turn → Outcome → StackView → Type 0
IsLineExecuted plain s turns outcome t =
    (ask : Option Ask) × AsksFor plain ask × AreCalls s turns t × Does ask s turns outcome t

-- a line that the stack of the host at a place executes leads from v to w by these acts, with this outcome
pub record IsStackLine (place : ℕ) (plain : List ℕ) (v : SegmentView) (acts : List Act)
    (outcome : Outcome) (w : SegmentView) : Type 0 where
  pub turns : List Turn
  pub before : StackView
  pub after : StackView
  pub here : slice_get v.stacks place ≡ Some before
  pub answered : IsLineExecuted plain before turns outcome after
  pub acts_are : acts ≡ map (Calls place) turns
  pub leads : w ≡ with_stack_at place after v

-- there is no host at the place
abbrev pub IsMissing : ℕ → SegmentView → List Act → Outcome → SegmentView → Type 0
IsMissing place v acts outcome w =
    (slice_get v.stacks place ≡ None) × (acts ≡ []) × (outcome ≡ Refused fault.NoHost) × (w ≡ v)
