-- The steps of the machine that judges a capture's records, and the verdicts (this project's own).
use Rattle.std.specs.Prelude.{◌≡◌, ℕ, ◌+◌, ◌-◌, ◌/◌, ◌*◌, ◌==◌, ◌||◌, Bool, List, [], ◌∷◌, length, nat_lt, if◌then◌else◌, max, min, Option, Some, None, replicate}
use Rattle.params.specs.declared.TheConstants.{IP_HEADER, LIMITED_BROADCAST, LOOPBACK, MAX_CLUSTERS, MAX_MBUFS}
use Rattle.flat_model.specs.Amounts.Choice.{Choice}
use Rattle.flat_model.specs.Machine.Count.{more_by}
use Rattle.flat_model.specs.Machine.Event.{Event, Reply, Comes, Done, Tick}
use Rattle.flat_model.specs.Machine.State.{State, boot}
use Rattle.flat_model.specs.Packets.Header.{u32_at}
use Rattle.flat_model.specs.declared.config.Config.{Config}
use Rattle.ip_reass.specs.Questions.{nth_unfinished}
use Rattle.ip_reass.specs.declared.questions.UnfinishedDatagram.{UnfinishedDatagram}
use Rattle.net_stack.specs.Stack.{state_of}
use Rattle.stack_call.specs.Moves.{StackSteps}
use Rattle.play_text.specs.Fates.{fate_of}
use Rattle.play_why.specs.Findings.{IsVerdict}
use Rattle.play_why.specs.Kept.{AreNone, Expires, Gathers, GathersOf, Joins, Reclaims, Remembers, TakesLost}
use Rattle.play_why.specs.Objects.{IsPrinted}
use Rattle.play_why.specs.Sockets.{Drains, IsUnbound, Prepares}
use Rattle.play_why.specs.Verdicts.{judged, lost_after, none_dropped, none_lost}
use Rattle.play_why.specs.declared.judge.Arrival.{Arrival}
use Rattle.play_why.specs.declared.judge.Judge.{Judge}
use Rattle.play_why.specs.declared.judge.Totals.{Totals}
use Rattle.play_why.specs.declared.layout.Layout.{Layout}
use Rattle.play_why.specs.declared.outcome.Outcome.{Outcome}
use Rattle.play_why.specs.declared.outcome.Outcome.TheVariants.{Delivered, Kept, Refused, Offload, Cut, Dropped}
use Rattle.play_why.specs.declared.parts.Loss.{Loss}
use Rattle.play_why.specs.declared.parts.Lost.{Lost}
use Rattle.play_why.specs.declared.parts.Parts.{Parts}
use Rattle.play_why.specs.declared.seen.Seen.{Seen}
use Rattle.play_why.specs.declared.table.Losses.{Losses}
use Rattle.play_why.specs.declared.verdict.Verdict.{Verdict}

-- ---- the machine

-- the broadcast address of a network of 256 addresses
abbrev pub last_address : ℕ → ℕ
last_address ours = ours / 256 * 256 + 255

abbrev pub broadcast_of : ℕ → ℕ
broadcast_of ours = if last_address ours == ours then ours - 1 else last_address ours

-- the configuration of the machine for an address; for the loopback address, the machine has another one
abbrev pub machine_for : ℕ → ℕ → Config
machine_for ours broadcast = record {
  addr = if ours == LOOPBACK then 0x0a000001 else ours;
  bcast = if ours == LOOPBACK then 0x0a0000ff else broadcast;
  mtu = 1500;
  mbufs = MAX_MBUFS;
  clusters = MAX_CLUSTERS;
  first_id = 1;
}

-- ---- its steps

-- these events, each of one kind, lead the machine from a state to another, whatever the replies are
abbrev pub Led : (Event → Type 0) → List Event → State → State → Type 0
Led kind [] old new = new ≡ old
Led kind (event ∷ events) old new =
    kind event × ((reply : Reply) × (mid : State) × StackSteps old event reply mid × Led kind events mid new)

-- half a second passes
abbrev pub IsTick : Event → Type 0
IsTick Tick = Unit {0}
IsTick _ = ⊥

-- The number of ticks that are due at a time in nanoseconds, and the number that pass if some have passed already: at
-- most 61, after which each unfinished datagram has expired.
abbrev pub ticks_due : ℕ → ℕ
ticks_due time = time / 500_000_000

abbrev pub ticks_to : ℕ → ℕ → ℕ
ticks_to time passed = min (ticks_due time - passed) 61

-- ---- all records

abbrev pub none_came : Totals
none_came = record { packets = 0; delivered = 0; kept = 0; refused = 0; offload = 0; cut = 0; dropped = 0 }

-- a judge before the first record; if `only` has a port, only this port may be bound
pub record IsNew (form : Layout) (ours broadcast : ℕ) (only : Option ℕ) (judge : Judge) : Type 0 where
  pub machine : state_of judge.host.stack ≡ boot (machine_for ours broadcast)
  pub layout : judge.layout ≡ form
  pub address : judge.host.address ≡ ours
  pub broadcast_is : judge.broadcast ≡ broadcast
  pub ports : IsUnbound only judge.ports
  pub parts : AreNone judge.parts
  pub text : judge.text ≡ []
  pub verdicts : judge.verdicts ≡ none_dropped
  pub totals : judge.totals ≡ none_came
  pub losses : judge.losses ≡ none_lost
  pub ticks : judge.ticks ≡ 0

-- A packet is for its machine: it goes to the machine's address, to the broadcast address of its network or to
-- 255.255.255.255; or it's too short to say.
abbrev pub is_for : Judge → List ℕ → Bool
is_for judge p =
    nat_lt (length p) IP_HEADER
    || (u32_at 16 p == judge.host.address || (u32_at 16 p == judge.broadcast || u32_at 16 p == LIMITED_BROADCAST))

-- one more packet
abbrev pub counted_as : Outcome → Totals → Totals
counted_as Delivered t = record t { packets = more_by 1 t.packets; delivered = more_by 1 t.delivered }
counted_as Kept t = record t { packets = more_by 1 t.packets; kept = more_by 1 t.kept }
counted_as Refused t = record t { packets = more_by 1 t.packets; refused = more_by 1 t.refused }
counted_as Offload t = record t { packets = more_by 1 t.packets; offload = more_by 1 t.offload }
counted_as Cut t = record t { packets = more_by 1 t.packets; cut = more_by 1 t.cut }
counted_as Dropped t = record t { packets = more_by 1 t.packets; dropped = more_by 1 t.dropped }

-- ---- a record

-- the record, and the datagram that was reassembled
pub record IsOf (r : Arrival) (parts : Parts) (seen : Seen) : Type 0 where
  pub number : seen.number ≡ r.number
  pub original : seen.original ≡ r.original
  pub captured : seen.captured ≡ r.captured
  pub packet : seen.packet.now ≡ r.packet.now
  pub whole : seen.whole.now ≡ parts.whole.bytes
  pub filled : seen.filled ≡ r.filled
  pub refused : seen.refused ≡ r.refused
  pub source_port : seen.source_port ≡ r.source_port
  pub destination_port : seen.destination_port ≡ r.destination_port

-- The ticks passed that were due at a time. If datagrams expired, their fragments are lost.
pub record HasPassed (old : Judge) (time : ℕ) (new : Judge) : Type 0 where
  pub ticks : Led IsTick (replicate (ticks_to time old.ticks) Tick) (state_of old.host.stack) (state_of new.host.stack)
  pub passed : new.ticks ≡ max old.ticks (ticks_due time)
  pub parts : Expires (state_of old.host.stack).counters (state_of new.host.stack).counters (state_of new.host.stack)
      old.parts new.parts
  pub text : new.text ≡ old.text
  pub ports : new.ports ≡ old.ports
  pub verdicts : new.verdicts ≡ old.verdicts
  pub totals : new.totals ≡ old.totals
  pub losses : new.losses ≡ old.losses
  pub layout : new.layout ≡ old.layout
  pub address : new.host.address ≡ old.host.address
  pub broadcast : new.broadcast ≡ old.broadcast

-- A record was judged. The records of the other fragments of its datagram were gathered, and the port that it wants
-- was bound, or closed if the host refused the packet; then its packet arrived. If that completed a datagram that was
-- dropped, its bytes are those of its fragments in the order in which they arrived. The verdict is what happened in
-- this one step, and the table counts it. Then each socket was read. If buffers were reclaimed, the fragments of other
-- datagrams are lost; its own is kept if the stack keeps it, and those of its datagram are forgotten if that is
-- complete.
pub record IsJudged (old : Judge) (r : Arrival) (verdict : Verdict) (new : Judge) : Type 0 where
  pub gathered : Parts
  pub joined : Parts
  pub spared : Parts
  pub ready : State
  pub here : State
  pub seen : Seen
  pub gathers : Gathers r.packet.now old.parts gathered
  pub opens : Prepares r.refused r.packet.now old.ports new.ports (state_of old.host.stack) ready
  pub comes : StackSteps ready (Comes r.packet.now) Done here
  pub joins : Joins r.packet.now ready.counters here.counters gathered joined
  pub is : IsOf r joined seen
  pub verdict_is : IsVerdict seen ready.counters here.counters here old.host.address verdict
  pub prints : IsPrinted old.layout r.time verdict new.text
  pub counts : new.verdicts ≡ judged seen ready.counters here.counters old.verdicts
  pub totals : new.totals ≡ counted_as verdict.outcome old.totals
  pub takes : Drains new.ports.bound.items here (state_of new.host.stack)
  pub reclaims : Reclaims r.packet.now ready.counters here.counters joined spared
  pub remembers : Remembers (fate_of ready.counters here.counters) r.number r.packet.now spared new.parts
  pub losses : new.losses ≡ old.losses
  pub ticks : new.ticks ≡ old.ticks
  pub layout : new.layout ≡ old.layout
  pub address : new.host.address ≡ old.host.address
  pub broadcast : new.broadcast ≡ old.broadcast

-- ---- datagrams that aren't complete

-- the first datagram that was dropped and isn't reported yet is reported, with the records of its fragments
abbrev pub ReportsLostOf : Option Loss → Option Lost → Type 0
ReportsLostOf None None = Unit {0}
ReportsLostOf (Some why) (Some first) = first.why ≡ why
ReportsLostOf _ _ = ⊥

-- their fragments are counted by why they were dropped
abbrev pub losses_after : Option Lost → Parts → Losses → Losses
losses_after None parts losses = losses
losses_after (Some first) parts losses = lost_after first.why parts.numbers.items losses

pub record ReportsLost (why : Option Loss) (old new : Judge) : Type 0 where
  pub first : Option Lost
  pub takes : TakesLost first old.parts new.parts
  pub says : ReportsLostOf why first
  pub losses : new.losses ≡ losses_after first new.parts old.losses
  pub same : new ≡ record old { text = new.text; parts = new.parts; losses = new.losses }

-- the unfinished datagram at a place is reported, with the records of its fragments
pub record ReportsAt (i : ℕ) (old new : Judge) : Type 0 where
  pub datagram : UnfinishedDatagram
  pub is : nth_unfinished i (state_of old.host.stack).unfinished ≡ Some datagram
  pub gathers : GathersOf datagram.key old.parts new.parts
  pub same : new ≡ record old { text = new.text; parts = new.parts }

pub record ReportsNoneAt (i : ℕ) (old new : Judge) : Type 0 where
  pub none : nth_unfinished i (state_of old.host.stack).unfinished ≡ None
  pub same : new ≡ old

abbrev pub ReportsUnfinished : Bool → ℕ → Judge → Judge → Type 0
ReportsUnfinished there i old new = Choice there (ReportsAt i old new) (ReportsNoneAt i old new)
