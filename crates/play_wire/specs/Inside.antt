-- Definitions that only this crate uses.
use Rattle.std.specs.Prelude.{◌≡◌, ◌⊎◌, ℕ, ◌≤◌, List, length, slice_get, Option, Some, None, Result, Ok, Err}
use Rattle.params.specs.declared.TheConstants.{IP_MAX_PACKET}
use Rattle.flat_ether.specs.Links.{LinkState}
use Rattle.net_stack.specs.Stack.{StackView, state_of}
use Rattle.segment.specs.Law.{Act}
use Rattle.segment.specs.Segment.{SegmentView}
use Rattle.play_text.specs.Texts.{if_there}
use Rattle.play_script.specs.declared.printer.Printer.{Printer}
use Rattle.play_wire.specs.Acts.{IsMissing, IsStackLine, Outcome, Replied, Refused, with_stack_at}
use Rattle.play_wire.specs.Links as links
use Rattle.play_wire.specs.Links.{DoesLink, IsHostAt, IsHostLine}
use Rattle.play_wire.specs.Reports.{WirePlay}
use Rattle.play_wire.specs.Wires as wires
use Rattle.play_wire.specs.Wires.{AsksAfter}
use Rattle.script_loop.specs.Left.{left}
use Rattle.play_wire.specs.declared.fault.Fault.{Fault}
use Rattle.play_wire.specs.declared.link_ask.LinkAsk.{LinkAsk}
use Rattle.play_wire.specs.declared.link_ask.LinkAsk.TheVariants.{Frame, LastError, Neighbours, Counts, Ticks, Packets}
use Rattle.play_wire.specs.declared.target.Target.{Target}
use Rattle.play_forms.specs.declared.command.Command.{Command}
use Rattle.play_wire.specs.declared.wire_ask.WireAsk.{WireAsk}
use Rattle.play_wire.specs.declared.wire_ask.WireAsk.TheVariants as ask
use Rattle.play_wire.specs.declared.report_link.Counts.{Counts as HostCounts}

-- the stack of the host at a place is exchanged with this one
abbrev pub IsExchanged : ℕ → SegmentView → StackView → SegmentView → StackView → Type 0
IsExchanged place v s w t = (slice_get v.stacks place ≡ Some t) × (w ≡ with_stack_at place s v)

-- there is no host at the place, and nothing changes
abbrev pub IsKept : ℕ → SegmentView → SegmentView → Type 0
IsKept place v w = (slice_get v.stacks place ≡ None) × (w ≡ v)

-- the outcome of a line whose reply and lines below it are in the report
abbrev pub outcome_of : Result Unit Fault → List ℕ → List ℕ → Outcome
outcome_of (Ok done) reply_line below = Replied reply_line below
outcome_of (Err fault) reply_line below = Refused fault

-- the host that a line names
abbrev pub named_by : Target → Option (List ℕ)
named_by target = if_there target.named target.host

-- what callers see of a player with these hosts
abbrev pub play_with : SegmentView → List (List ℕ) → Printer → WirePlay
play_with segment names printer = record {
  segment = segment;
  names = names;
  number = printer.number;
  sound = printer.sound;
  lacks = printer.lacks;
  texts = printer.texts;
  form = printer.form;
  name = printer.name;
}

-- ---- the wire

-- the request to the wire that a value of the code's own type means
abbrev pub wire_asked : WireAsk → wires.WireAsk
wire_asked (ask.Host name settings) = wires.Host name.now (left settings)
wire_asked (ask.Wire names) = wires.Wire (left names)
wire_asked (ask.Carry bound) = wires.Carry bound
wire_asked ask.Collect = wires.Collect
wire_asked ask.Deliver = wires.Deliver
wire_asked (ask.Tick n) = wires.Tick n
wire_asked (ask.Seed seed) = wires.Seed seed
wire_asked (ask.Drop at) = wires.Drop at
wire_asked (ask.Repeat at) = wires.Repeat at
wire_asked (ask.Swap at other) = wires.Swap at other
wire_asked (ask.Impair kind words) = wires.Impair kind (left words)
wire_asked ask.Show = wires.Show
wire_asked ask.Summary = wires.Summary

abbrev pub wire_asks : Option WireAsk → Option wires.WireAsk
wire_asks (Some ask) = Some (wire_asked ask)
wire_asks None = None

-- the request of the words after a command, or none
abbrev pub ReadsAfter : Command → List (List ℕ) → Option WireAsk → Type 0
ReadsAfter asked args (Some ask) = AsksAfter asked args (wire_asked ask)
ReadsAfter asked args None = (ask : wires.WireAsk) → AsksAfter asked args ask → ⊥

-- ---- links

-- the request to a link that a value of the code's own type means
abbrev pub link_asked : LinkAsk → links.LinkAsk
link_asked (Frame frame) = links.Frame frame.now
link_asked (LastError fd) = links.LastError fd
link_asked Neighbours = links.Neighbours
link_asked Counts = links.Counts
link_asked (Ticks n) = links.Ticks n
link_asked Packets = links.Packets

-- how many bytes of the buffer it uses
abbrev pub bytes_asked : LinkAsk → ℕ
bytes_asked (Frame frame) = length frame.now
bytes_asked (LastError fd) = 0
bytes_asked Neighbours = 0
bytes_asked Counts = 0
bytes_asked (Ticks n) = 0
bytes_asked Packets = 0

abbrev pub link_asks : Option LinkAsk → Option links.LinkAsk
link_asks (Some ask) = Some (link_asked ask)
link_asks None = None

-- the words after this one are this request to a link, whose bytes fit in a packet, or no request
abbrev pub ReadsOfLink : Command → List (List ℕ) → Option LinkAsk → Type 0
ReadsOfLink asked args (Some ask) =
    links.AsksOfLink asked args (link_asked ask) × (bytes_asked ask ≤ IP_MAX_PACKET)
ReadsOfLink asked args None = (ask : links.LinkAsk) → links.AsksOfLink asked args ask → ⊥

-- a line of a host, or one for a host that doesn't exist
abbrev pub IsAtHost : ℕ → List ℕ → SegmentView → Outcome → SegmentView → Type 0
IsAtHost place plain v came w =
    (acts : List Act) × (IsHostLine place plain v acts came w ⊎ IsMissing place v acts came w)

-- the same for a request to its stack
abbrev pub IsAtStack : ℕ → List ℕ → SegmentView → Outcome → SegmentView → Type 0
IsAtStack place plain v came w =
    (acts : List Act) × (IsStackLine place plain v acts came w ⊎ IsMissing place v acts came w)

-- the same for a request to its link
abbrev pub IsAtLink : ℕ → links.LinkAsk → SegmentView → Outcome → SegmentView → Type 0
IsAtLink place ask v came w =
    (acts : List Act)
    × (DoesLink place ask (slice_get v.links place) v acts came w ⊎ IsMissing place v acts came w)

-- the counters of the host at a place
abbrev pub HasCounted : ℕ → SegmentView → HostCounts → Type 0
HasCounted place v counts =
    (s : StackView) × (l : LinkState) × IsHostAt place v s l × (counts.stack ≡ (state_of s).counters)
    × (counts.link ≡ l.tallies)

-- there is no such host with a link
abbrev pub HasNotCounted : ℕ → SegmentView → Type 0
HasNotCounted place v = (slice_get v.links place ≡ None) ⊎ (slice_get v.stacks place ≡ None)
