-- The possible output for a line, and its effects (this project's own).
use Rattle.std.specs.Prelude.{◌≡◌, ◌⊎◌, ℕ, ◌-◌, ◌&&◌, ◌||◌, zero, suc, Bool, true, false, List, [], ◌∷◌, ◌++◌, length, take, bytes_eq, codes, decimal, if◌then◌else◌, nat_lt, slice_get, Option, Some, None, Result, Ok, Err}
use Rattle.flat_model.specs.Amounts.Choice.{Choice}
use Rattle.flat_model.specs.Machine.Count.{more_by}
use Rattle.play_line.specs.Time.{TimedView, timed}
use Rattle.play_line.specs.declared.fault.SyntaxError.{SyntaxError}
use Rattle.play_script.specs.Lines.{Reading, Nothing, TooLong, Faulty, Asks, has_text, reading_part, shifted}
use Rattle.play_text.specs.Texts.{fault_text, line_error_text}
use Rattle.play_text.specs.Forms.{is_json}
use Rattle.play_text.specs.declared.form.Form.{Form}
use Rattle.play_script.specs.Reports.{is_sound, reply_line_text}
use Rattle.play_script.specs.Settings.{is_lack}
use Rattle.segment.specs.Law.{Act, AreActs, Loses, Repeats, Seeds, Swaps}
use Rattle.segment.specs.Chances.{seeded}
use Rattle.segment.specs.Segment.{SegmentView, is_quiet_segment, no_hosts}
use Rattle.play_wire.specs.Acts.{IsMissing, Outcome, Replied, Refused}
use Rattle.play_wire.specs.Links.{IsHostLine}
use Rattle.play_wire.specs.Wires.{WireAsk, AsksWire, Host, Wire, Carry, Collect, Deliver, Tick, Seed, Drop, Repeat, Swap, Show}
use Rattle.play_wire.specs.declared.fault.Fault.{Fault}
use Rattle.play_wire.specs.declared.fault.Fault.TheVariants as fault
use Rattle.play_wire.specs.declared.hosts.TheConstants.{PACKETS}

-- The state of a player: its hosts and their wire, with the names of the hosts by their places; how many lines it has
-- seen; whether all of them could be read and all expectations were met; whether there was no memory for a host;
-- whether one of them contains a text in quotes; and how it prints.
pub record WirePlay : Type 0 where
  pub segment : SegmentView
  pub names : List (List ℕ)
  pub number : ℕ
  pub sound : Bool
  pub lacks : Bool
  pub texts : Bool
  pub form : Form
  pub name : List ℕ

-- before the first line: no hosts, and this seed for all choices
abbrev pub wire_started : ℕ → Form → List ℕ → WirePlay
wire_started seed form name =
    record {
      segment = record (no_hosts PACKETS) { random = seeded seed };
      names = [];
      number = 0;
      sound = true;
      lacks = false;
      texts = false;
      form = form;
      name = name;
    }

-- the next line
abbrev pub next_wire_line : List ℕ → WirePlay → WirePlay
next_wire_line line old = record old { number = more_by 1 old.number; texts = old.texts || has_text line }

-- the line names this host before a colon, followed by this part; or the part is the whole line
abbrev pub IsParted : List ℕ → Option (List ℕ) → List ℕ → Type 0
IsParted line (Some host) part = line ≡ host ++ 58 ∷ part
IsParted line None part = part ≡ line

-- ---- texts

-- a line of the wire by which packets leave or arrive
abbrev pub moves_packets : List ℕ → Bool
moves_packets plain =
    bytes_eq (codes "carry") (take 5 plain) || bytes_eq plain (codes "collect") || bytes_eq plain (codes "deliver")

-- JSON objects are printed after that of such a line, one for each event of a packet. They aren't specified.
abbrev pub has_objects : Form → Option (List ℕ) → List ℕ → Bool
has_objects form (Some host) plain = false
has_objects form None plain = is_json form && moves_packets plain

-- the host refused memory
abbrev pub is_lacking : Fault → Bool
is_lacking (fault.Setting why) = is_lack why
is_lacking _ = false

-- The words for a reason are "no memory" exactly if the host refused memory. Without a request, they are some advice.
abbrev pub IsReason : Fault → List ℕ → Type 0
IsReason fault.Nothing what = Unit {0}
IsReason reason what = bytes_eq what (codes "no memory") ≡ is_lacking reason

-- the output for a line
abbrev pub IsText : WirePlay → Option (List ℕ) → List ℕ → List ℕ → Option (List ℕ) → Outcome → List ℕ → Type 0
IsText now host shown plain wanted (Replied reply_line below) text =
    (objects : List ℕ) × (has_objects now.form host plain ≡ false → objects ≡ [])
    × (text ≡ reply_line_text now.form now.texts now.name now.number shown wanted reply_line below ++ objects)
IsText now host shown plain wanted (Refused reason) text =
    (what : List ℕ) × IsReason reason what × (text ≡ fault_text now.form now.name now.number what)

-- it did something, and the reply meets the expectation, if there is one
abbrev pub sound_of : Option (List ℕ) → Outcome → Bool
sound_of wanted (Replied reply_line below) = is_sound wanted reply_line
sound_of wanted (Refused reason) = false

-- whether there was no memory for the host of a line, with this one
abbrev pub lacks_after : Bool → Outcome → Bool
lacks_after lacks (Replied reply_line below) = lacks
lacks_after lacks (Refused reason) = lacks || is_lacking reason

-- ---- steps

-- the reply to a line `carry`: whether anything is in flight, or waits for a link
abbrev pub left_text : SegmentView → List ℕ
left_text v =
    if is_quiet_segment v then codes "quiet" else codes "left " ++ decimal (length v.flight) ++ codes " under way"

-- the outcome of a carry; without a wire it's an error, and nothing is done
abbrev pub ReportsLeft : List Act → Outcome → SegmentView → Type 0
ReportsLeft acts (Replied reply_line below) segment = reply_line ≡ left_text segment
ReportsLeft acts (Refused reason) segment = (acts ≡ []) × (reason ≡ fault.NoWire)

-- the same for half a carry, with the reply `ok`
abbrev pub ReportsHalf : List Act → Outcome → Type 0
ReportsHalf acts (Replied reply_line below) = (reply_line ≡ codes "ok") × (below ≡ [])
ReportsHalf acts (Refused reason) = (acts ≡ []) × (reason ≡ fault.NoWire)

-- by hand: it's an error if a packet doesn't exist, or if there's no space for a copy
abbrev pub IsByHand : Bool → Act → List Act → Outcome → Type 0
IsByHand there act acts outcome =
    (acts ≡ act ∷ []) × Choice there (outcome ≡ Replied (codes "ok") []) (outcome ≡ Refused fault.NoPacket)

-- the request to the wire does these acts, which lead from v to w, with this outcome
abbrev pub DoesWire : WireAsk → SegmentView → List Act → Outcome → SegmentView → Type 0
DoesWire (Carry bound) v acts outcome w = ReportsLeft acts outcome w
DoesWire Collect v acts outcome w = ReportsHalf acts outcome
DoesWire Deliver v acts outcome w = ReportsHalf acts outcome
DoesWire (Tick n) v acts outcome w = outcome ≡ Replied (codes "ok") []
DoesWire (Seed seed) v acts outcome w = (acts ≡ Seeds seed ∷ []) × (outcome ≡ Replied (codes "ok") [])
DoesWire (Drop at) v acts outcome w = IsByHand (nat_lt at (length v.flight)) (Loses at) acts outcome
DoesWire (Repeat at) v acts outcome w =
    IsByHand (nat_lt at (length v.flight) && nat_lt (length v.flight) v.room) (Repeats at) acts outcome
DoesWire (Swap at other) v acts outcome w =
    IsByHand (nat_lt at (length v.flight) && nat_lt other (length v.flight)) (Swaps at other) acts outcome
DoesWire (Wire hosts) v acts outcome w = acts ≡ []
DoesWire Show v acts outcome w = acts ≡ []
DoesWire _ v acts outcome w = Unit {0}

-- the name of the host that a request added, if it added one
abbrev pub added_by : Option WireAsk → Outcome → List (List ℕ)
added_by (Some (Host name settings)) (Replied reply_line below) = name ∷ []
added_by _ _ = []

-- without a request, nothing is done
abbrev pub DoesAsked : Option WireAsk → SegmentView → List Act → Outcome → SegmentView → Type 0
DoesAsked (Some ask) v acts outcome w = DoesWire ask v acts outcome w
DoesAsked None v acts outcome w = (acts ≡ []) × (outcome ≡ Refused fault.Nothing)

-- a line of the wire does these acts, with this outcome; the names of the hosts before and after it
abbrev pub DoesLine : List ℕ → SegmentView → List Act → Outcome → SegmentView → List (List ℕ) → List (List ℕ) → Type 0
DoesLine plain v acts outcome w names after =
    (ask : Option WireAsk) × AsksWire plain ask × DoesAsked ask v acts outcome w
    × (after ≡ names ++ added_by ask outcome)

-- A line of a host is executed by the host with this name. Any other line is one of the wire.
abbrev pub IsDone : WirePlay → Option (List ℕ) → List ℕ → List Act → Outcome → SegmentView → List (List ℕ) → Type 0
IsDone now (Some host) plain acts outcome segment names =
    (names ≡ now.names)
    × (((place : ℕ) × (slice_get now.names place ≡ Some host)
    × (IsHostLine place plain now.segment acts outcome segment
    ⊎ IsMissing place now.segment acts outcome segment))
    ⊎ ((acts ≡ []) × (segment ≡ now.segment) × (outcome ≡ Refused fault.NoHost)))
IsDone now None plain acts outcome segment names =
    AreActs now.segment acts segment × DoesLine plain now.segment acts outcome segment now.names names

-- the effect of a line with a request
abbrev pub ReportsAsked : WirePlay → Option (List ℕ) → List ℕ → List ℕ → Option (List ℕ) → List Act → List ℕ → WirePlay
    → Type 0
ReportsAsked now host shown plain wanted acts text new =
    (outcome : Outcome) × (segment : SegmentView) × (names : List (List ℕ))
    × IsDone now host plain acts outcome segment names
    × IsText now host shown plain wanted outcome text
    × (new ≡ record now {
      segment = segment;
      names = names;
      sound = now.sound && sound_of wanted outcome;
      lacks = lacks_after now.lacks outcome;
    })

-- this many ticks of each host pass before a line, for which nothing is printed
abbrev pub IsWaited : ℕ → SegmentView → List Act → SegmentView → Type 0
IsWaited zero v acts w = (acts ≡ []) × (w ≡ v)
IsWaited (suc n) v acts w = AreActs v acts w

-- The effect of the part of a line with this reading, where `now` has its number. If it makes a request, `ticks` pass
-- first. The part follows `before` bytes of the line.
abbrev pub ReportsPart : WirePlay → Option (List ℕ) → ℕ → ℕ → Reading → List Act → List ℕ → WirePlay → Type 0
ReportsPart now host ticks before Nothing acts text new = (acts ≡ []) × (text ≡ []) × (new ≡ now)
ReportsPart now host ticks before TooLong acts text new =
    (acts ≡ []) × (text ≡ fault_text now.form now.name now.number (codes "the line is too long"))
    × (new ≡ record now { sound = false })
ReportsPart now host ticks before (Faulty error) acts text new =
    (acts ≡ []) × (text ≡ line_error_text now.form now.name now.number (shifted before error))
    × (new ≡ record now { sound = false })
ReportsPart now host ticks before (Asks shown plain wanted) acts text new =
    (first rest : List Act) × (mid : SegmentView) × (acts ≡ first ++ rest) × IsWaited ticks now.segment first mid
    × ReportsAsked (record now { segment = mid }) host shown plain wanted rest text new

-- a line with its time, or the error in the time
abbrev pub ReportsTimed : WirePlay → List ℕ → Result TimedView SyntaxError → List Act → List ℕ → WirePlay → Type 0
ReportsTimed now line (Err error) acts text new =
    (acts ≡ []) × (text ≡ line_error_text now.form now.name now.number error) × (new ≡ record now { sound = false })
ReportsTimed now line (Ok t) acts text new =
    (host : Option (List ℕ)) × (part : List ℕ) × IsParted t.part host part
    × ReportsPart now host t.ticks (length line - length part) (reading_part line part) acts text new

-- the output for a line may be this text, by these acts
abbrev pub ReportsBy : WirePlay → List ℕ → List Act → List ℕ → WirePlay → Type 0
ReportsBy old line acts text new = ReportsTimed (next_wire_line line old) line (timed line) acts text new

abbrev pub Reports : WirePlay → List ℕ → List ℕ → WirePlay → Type 0
Reports old line text new = (acts : List Act) × ReportsBy old line acts text new
