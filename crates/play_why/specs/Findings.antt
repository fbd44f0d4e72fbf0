-- The verdict on a packet (this project's own). `a` and `b` are the counters before it and after it, and `s` is the
-- state after it, whose sockets have only datagrams that it brought.
use Rattle.std.specs.Prelude.{◌≡◌, ◌≤◌, ◌<◌, ℕ, ◌+◌, ◌==◌, ◌&&◌, ◌||◌, Bool, true, false, not, nat_le, nat_lt, List, length, slice_index, map, get_or, if◌then◌else◌, Option, Some, None, IfSome, Result, Ok, Err}
use Rattle.params.specs.declared.TheConstants.{FIRST_DESCRIPTOR, IP_HEADER, IP_UDP_HEADERS, MAX_SOCKETS}
use Rattle.flat_model.specs.Machine.Count.{counter_of}
use Rattle.flat_model.specs.Machine.State.{State}
use Rattle.flat_model.specs.Packets.Header.{u16_at, u32_at}
use Rattle.flat_model.specs.declared.counters.Counters.{Counters}
use Rattle.flat_model.specs.declared.counters.Why.{Why}
use Rattle.flat_model.specs.declared.counters.Why.TheVariants.{TooSmall, Options, TooShort, FragmentDropped, NoProtocol, UdpBadSum, UdpNoPort, UdpFullSocket, NoBufs}
use Rattle.flat_model.specs.declared.errno.Errno.{Errno}
use Rattle.sock_calls.specs.Questions.{next_datagram, readable, socket_name}
use Rattle.sock_calls.specs.declared.questions.NextDatagram.{NextDatagram}
use Rattle.sock_calls.specs.declared.questions.SocketName.{SocketName}
use Rattle.play_text.specs.Fates.{fate_of, is_kept}
use Rattle.play_text.specs.Words.{all_causes, rose}
use Rattle.play_why.specs.Sockets.{front_port}
use Rattle.play_why.specs.Values.{datagram_of, pseudo_sum, cause_value}
use Rattle.play_why.specs.declared.blame.Blame.{Blame}
use Rattle.play_why.specs.declared.blame.Blame.TheVariants.{Packet, Stack, Copy, Capture, Card, Host}
use Rattle.play_why.specs.declared.delivered.Delivered.{Delivered}
use Rattle.play_why.specs.declared.ends.Ends.{Ends}
use Rattle.play_why.specs.declared.finding.Finding.{Finding}
use Rattle.play_why.specs.declared.outcome.Outcome.{Outcome}
use Rattle.play_why.specs.declared.outcome.Outcome.TheVariants as outcomes
use Rattle.play_why.specs.declared.seen.Seen.{Seen}
use Rattle.play_why.specs.declared.verdict.Verdict.{Verdict}

-- ---- causes

-- Who is to blame for a cause: the capture, if it has only a part of the packet; the sender's network card, if that
-- should have filled in the checksum; the host, if it refused the packet; this stack, if it lacks what other hosts
-- have; nobody, if the packet's bytes are held already; or the packet as it was on the wire.
abbrev pub blame_short : Seen → Blame
blame_short r = if nat_lt r.captured r.original then Capture else Packet

unfoldable pub blame_sum : List ℕ → List ℕ → Blame
blame_sum p d =
    if nat_le 20 (length p) && (nat_le 8 (length d) && u16_at 6 d == pseudo_sum p d) then Card else Packet

abbrev pub blame_port : Option ℕ → Blame
blame_port None = Packet
blame_port (Some number) = Host

unfoldable pub blame_of : Seen → Why → Blame
blame_of r TooSmall = blame_short r
blame_of r TooShort = blame_short r
blame_of r UdpBadSum = blame_sum r.packet.now (datagram_of r.packet.now r.whole.now)
blame_of r UdpNoPort = blame_port r.refused
blame_of r Options = Stack
blame_of r NoProtocol = Stack
blame_of r UdpFullSocket = Stack
blame_of r NoBufs = Stack
blame_of r FragmentDropped = Copy
blame_of r _ = Packet

-- a cause is found if its counter went up
abbrev pub finding_if : Seen → Counters → Counters → ℕ → Why → Option Finding
finding_if r a b ours why =
    if rose (counter_of why) a b
    then Some (record {
      why = why;
      value = cause_value why r.packet.now (datagram_of r.packet.now r.whole.now) ours;
      blame = blame_of r why;
    })
    else None

-- the finding for each cause
abbrev pub findings_of : Seen → Counters → Counters → ℕ → List (Option Finding)
findings_of r a b ours = map (finding_if r a b ours) all_causes

-- ---- sockets

abbrev pub port_of : Option ℕ → ℕ
port_of (Some port) = port
port_of None = 0

-- the datagram that waits in a socket with this name, if there is one
abbrev pub delivered_in : Result SocketName Errno → Result NextDatagram Errno → Option Delivered
delivered_in (Ok name) (Ok next) = Some (record { port = port_of name.port; len = next.len })
delivered_in (Ok name) (Err errno) = None
delivered_in (Err errno) next = None

abbrev pub delivered_at : ℕ → State → Option Delivered
delivered_at fd s = delivered_in (socket_name fd s) (next_datagram fd s)

-- what was delivered to each socket, that of the lowest descriptor first
abbrev pub AreDeliveries : State → List (Option Delivered) → Type 0
AreDeliveries s delivered =
    (k : ℕ) → k < MAX_SOCKETS → get_or delivered k None ≡ delivered_at (FIRST_DESCRIPTOR + k) s

-- ---- the outcome

abbrev pub is_card : Blame → Bool
is_card Card = true
is_card _ = false

abbrev pub is_capture : Blame → Bool
is_capture Capture = true
is_capture _ = false

-- the packet was dropped for the checksum that the sender's card should have filled in
abbrev pub is_offload : Seen → Counters → Counters → Bool
is_offload r a b = rose (counter_of UdpBadSum) a b && is_card (blame_of r UdpBadSum)

-- the packet was dropped because the capture has only a part of it
abbrev pub is_cut : Seen → Counters → Counters → Bool
is_cut r a b = (rose (counter_of TooSmall) a b || rose (counter_of TooShort) a b) && is_capture (blame_short r)

abbrev pub refused_or : Option ℕ → Outcome → Outcome
refused_or None other = other
refused_or (Some number) other = outcomes.Refused

-- the first of these counts
abbrev pub outcome_by : Bool → Bool → Option ℕ → Bool → Bool → Outcome
outcome_by delivered kept refused left cut =
    if delivered then outcomes.Delivered
    else if kept then outcomes.Kept
    else refused_or refused
    (if left then outcomes.Offload else if cut then outcomes.Cut else outcomes.Dropped)

abbrev pub outcome_in : Seen → Counters → Counters → State → Outcome
outcome_in r a b s =
    outcome_by (not (readable s == 0)) (is_kept a b) r.refused (is_offload r a b) (is_cut r a b)

-- ---- the ends of a packet

abbrev pub HasPort : Option ℕ → List ℕ → Type 0
HasPort port p = IfSome port (λ it. IP_UDP_HEADERS ≤ length p)

abbrev pub source_port : Option ℕ → List ℕ → Option ℕ
source_port None p = None
source_port (Some port) p = Some (u16_at 20 p)

-- the port that the packet shows, or that of its datagram if it is known from another fragment
abbrev pub shown_or : Option ℕ → Option ℕ → Option ℕ
shown_or None known = known
shown_or (Some port) known = Some port

-- the addresses, and the ports that are known
abbrev pub ends_of : List ℕ → Option ℕ → Option ℕ → Option Ends
ends_of p source destination =
    if nat_lt (length p) IP_HEADER then None
    else Some (record {
      source = u32_at 12 p;
      destination = u32_at 16 p;
      protocol = slice_index p 9;
      id = u16_at 4 p;
      source_port = shown_or (source_port (front_port p) p) source;
      destination_port = shown_or (front_port p) destination;
    })

-- ---- all of it

pub record IsVerdict (r : Seen) (a b : Counters) (s : State) (ours : ℕ) (v : Verdict) : Type 0 where
  pub number : v.number ≡ r.number
  pub fate : v.fate ≡ fate_of a b
  pub outcome : v.outcome ≡ outcome_in r a b s
  pub ends : v.ends ≡ ends_of r.packet.now r.source_port r.destination_port
  pub filled : v.filled ≡ r.filled
  pub refused : v.refused ≡ r.refused
  pub delivered : AreDeliveries s v.delivered
  pub findings : v.findings ≡ findings_of r a b ours
