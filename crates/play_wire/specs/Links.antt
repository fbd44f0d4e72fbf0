-- The requests of lines to the link of a host on an Ethernet, and their outcomes (this project's own).
use Rattle.std.specs.Prelude.{◌≡◌, ◌≢◌, ◌⊎◌, ℕ, Bool, true, false, List, [], ◌∷◌, codes, replicate, slice_get, Option, Some, None, Result}
use Rattle.std.specs.List.{find}
use Rattle.flat_ether.specs.Claims.{address_state}
use Rattle.flat_ether.specs.Links.{LinkState}
use Rattle.flat_ether.specs.declared.error.NetFault.{NetFault}
use Rattle.flat_model.specs.Scripts.Grammar.{words, IsHex}
use Rattle.flat_model.specs.declared.errno.Errno.{Errno}
use Rattle.net_stack.specs.Stack.{StackView, state_of}
use Rattle.segment.specs.Frames.{IsErrorQueried, HasReceived}
use Rattle.segment.specs.Law.{Act, AreActs, QueriesError, Ether, ReceivesFrame, TicksHost}
use Rattle.segment.specs.Segment.{SegmentView}
use Rattle.play_wire.specs.Acts.{IsStackLine, Outcome, Replied, Refused}
use Rattle.play_wire.specs.LinkTexts.{error_text, received_text, neighbours_text, state_text}
use Rattle.play_wire.specs.Verbs.{IsOneNumber, IsTickCount}
use Rattle.play_wire.specs.declared.fault.Fault.{Fault}
use Rattle.play_wire.specs.declared.fault.Fault.TheVariants as fault
use Rattle.play_forms.specs.Near.{has_name}
use Rattle.play_forms.specs.Table.{hosted_commands}
use Rattle.play_forms.specs.declared.command.Command.{Command}
use Rattle.play_forms.specs.declared.command.Command.TheVariants as command

pub data LinkAsk : Type 0 where
  Frame : (frame : List ℕ) → LinkAsk  -- this frame comes
  LastError : (fd : ℕ) → LinkAsk  -- what others reported of a socket's datagrams
  Neighbours : LinkAsk  -- the neighbours are shown
  Counts : LinkAsk  -- the link is shown, with what it has counted
  Ticks : (n : ℕ) → LinkAsk  -- this many ticks
  Packets : LinkAsk  -- a packet comes or is taken that has no frame

-- ---- the request of a line

-- the words after a command are this request
abbrev pub AsksOfLink : Command → List (List ℕ) → LinkAsk → Type 0
AsksOfLink command.Frame args (Frame frame) = (word : List ℕ) × (args ≡ word ∷ []) × IsHex word frame
AsksOfLink command.LastError args (LastError fd) = IsOneNumber 4294967295 args fd
AsksOfLink command.Tick args (Ticks n) = IsTickCount args n
AsksOfLink command.ShowOfHost args Neighbours = args ≡ codes "neighbours" ∷ []
AsksOfLink command.ShowOfHost args Counts = args ≡ codes "link" ∷ []
-- any words after `rx`
AsksOfLink command.Rx args Packets = args ≢ []
AsksOfLink command.Tx args Packets = args ≡ []
AsksOfLink _ _ _ = ⊥

abbrev pub WritesLink : List ℕ → LinkAsk → Type 0
WritesLink plain ask =
    (asked : Command) × (word : List ℕ) × (args : List (List ℕ)) × (words plain ≡ word ∷ args)
    × (find (has_name word) hosted_commands ≡ Some asked) × AsksOfLink asked args ask

-- the request of a line, if it has one
abbrev pub AsksLink : List ℕ → Option LinkAsk → Type 0
AsksLink plain (Some ask) = WritesLink plain ask
AsksLink plain None = (ask : LinkAsk) → ¬ WritesLink plain ask

-- only a link can execute it
abbrev pub is_of_link : LinkAsk → Bool
is_of_link (Frame frame) = true
is_of_link (LastError fd) = true
is_of_link Neighbours = true
is_of_link Counts = true
is_of_link (Ticks n) = false
is_of_link Packets = false

-- a host with this link, or without one, doesn't execute the request as a bare stack
abbrev pub is_for_link : Option LinkState → LinkAsk → Bool
is_for_link None ask = is_of_link ask
is_for_link (Some link) ask = true

-- ---- outcomes

-- the line does nothing, for this reason
abbrev pub IsRefusal : Fault → SegmentView → List Act → Outcome → SegmentView → Type 0
IsRefusal reason v acts outcome w = (acts ≡ []) × (outcome ≡ Refused reason) × (w ≡ v)

-- something is shown, with some lines below it, and nothing changes
abbrev pub IsShown : List ℕ → SegmentView → List Act → Outcome → SegmentView → Type 0
IsShown text v acts outcome w = (acts ≡ []) × ((below : List ℕ) × (outcome ≡ Replied text below)) × (w ≡ v)

-- the stack and the link of the host at a place
abbrev pub IsHostAt : ℕ → SegmentView → StackView → LinkState → Type 0
IsHostAt place v s l = (slice_get v.stacks place ≡ Some s) × (slice_get v.links place ≡ Some l)

-- A frame arrived. The text says why its contents were dropped, and what the link counted.
abbrev pub IsFrameReceived : ℕ → List ℕ → SegmentView → List Act → Outcome → SegmentView → Type 0
IsFrameReceived place frame v acts outcome w =
    (s t : StackView) × (l m : LinkState) × IsHostAt place v s l × IsHostAt place w t m × HasReceived place frame v w
    × (acts ≡ Ether (ReceivesFrame place frame) ∷ [])
    × (outcome ≡ Replied (received_text (state_of s).counters l.tallies (state_of t).counters m.tallies) [])

-- the text is the last error that others reported
abbrev pub IsErrorReported : ℕ → ℕ → SegmentView → List Act → Outcome → SegmentView → Type 0
IsErrorReported place fd v acts outcome w =
    (error : Result (Option NetFault) Errno) × IsErrorQueried place fd error v w
    × (acts ≡ Ether (QueriesError place fd error) ∷ []) × (outcome ≡ Replied (error_text error) [])

-- ticks of the stack and of its link
abbrev pub ticks_at : ℕ → ℕ → List Act
ticks_at place n = replicate n (Ether (TicksHost place))

-- the effect of a request to this link
abbrev pub DoesAtLink : ℕ → LinkAsk → LinkState → SegmentView → List Act → Outcome → SegmentView → Type 0
DoesAtLink place (Frame frame) link v acts outcome w = IsFrameReceived place frame v acts outcome w
DoesAtLink place (LastError fd) link v acts outcome w = IsErrorReported place fd v acts outcome w
DoesAtLink place Neighbours link v acts outcome w =
    IsShown (neighbours_text link.neighbours) v acts outcome w
DoesAtLink place Counts link v acts outcome w =
    IsShown (state_text (address_state link.claim)) v acts outcome w
DoesAtLink place (Ticks n) link v acts outcome w =
    AreActs v acts w × (acts ≡ ticks_at place n) × (outcome ≡ Replied (codes "ok") [])
DoesAtLink place Packets link v acts outcome w = IsRefusal fault.OnEthernet v acts outcome w

-- the same if there may be no link
abbrev pub DoesLink : ℕ → LinkAsk → Option LinkState → SegmentView → List Act → Outcome → SegmentView → Type 0
DoesLink place ask (Some link) v acts outcome w = DoesAtLink place ask link v acts outcome w
DoesLink place ask None v acts outcome w = IsRefusal fault.NoLink v acts outcome w

-- ---- a line of a host

-- a line that a link executes
abbrev pub IsLinkLine : ℕ → List ℕ → SegmentView → List Act → Outcome → SegmentView → Type 0
IsLinkLine place plain v acts outcome w =
    (ask : LinkAsk) × WritesLink plain ask × (is_for_link (slice_get v.links place) ask ≡ true)
    × DoesLink place ask (slice_get v.links place) v acts outcome w

-- a line that no link executes: it isn't a request to a link, or the host executes it as a bare stack
abbrev pub IsForStack : ℕ → List ℕ → SegmentView → Type 0
IsForStack place plain v =
    AsksLink plain None
    ⊎ ((ask : LinkAsk) × WritesLink plain ask × (is_for_link (slice_get v.links place) ask ≡ false))

-- A line of the host at a place leads from v to w by these acts, with this outcome.
abbrev pub IsHostLine : ℕ → List ℕ → SegmentView → List Act → Outcome → SegmentView → Type 0
IsHostLine place plain v acts outcome w =
    (IsForStack place plain v × IsStackLine place plain v acts outcome w)
    ⊎ IsLinkLine place plain v acts outcome w
