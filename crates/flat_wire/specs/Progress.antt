-- What arrives in time is received (this project's own): a fragmented datagram, all of whose packets arrive.
use Rattle.std.specs.Prelude.{◌≡◌, ℕ, ◌<◌, ◌≤◌, ◌^◌, ◌-◌, true, false, List, ◌∷◌, ◌++◌, length, filter_map, Contains, Option, Some, None}
use Rattle.params.specs.declared.TheConstants.{PROTOCOL_UDP, FRAGMENT_TICKS, UDP_SEND_SPACE, MIN_MTU}
use Rattle.flat_model.specs.Amounts.Choice.{Choice}
use Rattle.flat_model.specs.Amounts.Weight.{Weight, mbuf, ◌⊕◌}
use Rattle.flat_model.specs.Fragments.Cuts.{Part, cuts}
use Rattle.flat_model.specs.Packets.Header.{head_of}
use Rattle.flat_model.specs.Sockets.Fits.{fits, memory_of}
use Rattle.flat_model.specs.Sockets.Lookup.{best}
use Rattle.flat_model.specs.Machine.Count.{value_of, more_by}
use Rattle.flat_model.specs.Machine.State.{State, Socket, Key, unfinished_at, change_socket}
use Rattle.flat_model.specs.Machine.Calls.{is_ours}
use Rattle.flat_model.specs.Machine.Ledger.{Ledger, exact_ledger}
use Rattle.flat_model.specs.Machine.Arrival.{is_fragment, key_of, with_datagram}
use Rattle.flat_model.specs.Machine.Sending.{Sending, datagram, packet_for}
use Rattle.flat_model.specs.Machine.Step.{StepBy}
use Rattle.flat_model.specs.Runs.Run.{Turn, Leads}
use Rattle.flat_model.specs.Runs.Consistent.{IsConsistent}
use Rattle.flat_model.specs.declared.counter.Counter.TheVariants.{IpReclaimed, Nobufs, UdpNoport, UdpFullsock}
use Rattle.flat_wire.specs.Age.{ticks_in}
use Rattle.flat_wire.specs.Wire.{packet_in}

-- the key of a send's fragments
abbrev pub key_for : Sending → Key
key_for x = record { source = x.source; destination = x.to.ip; id = x.id; protocol = PROTOCOL_UDP }

-- its parts on a link with this MTU
abbrev pub parts : Sending → ℕ → List Part
parts x mtu = cuts (length (datagram x)) mtu

-- All fragments with its key that arrive are its packets, and each of its packets arrives. Order and repeats make no
-- difference.
pub record AllArriveOf (x : Sending) (mtu : ℕ) (turns : List Turn) : Type 0 where
  pub unforged : (packet : List ℕ) → Contains (filter_map packet_in turns) packet
      → key_of (head_of packet) ≡ key_for x → is_fragment (head_of packet) ≡ true
      → (p : Part) × Contains (parts x mtu) p × (packet ≡ packet_for x p)
  pub all : (p : Part) → Contains (parts x mtu) p → Contains (filter_map packet_in turns) (packet_for x p)

-- what a sender on this link can send: its numbers are in range
pub record IsSending (x : Sending) (mtu : ℕ) : Type 0 where
  pub id : x.id < 2 ^ 16
  pub source : x.source < 2 ^ 32
  pub from_port : x.port < 2 ^ 16
  pub to_port : x.to.port < 2 ^ 16
  pub short : length x.bytes ≤ UDP_SEND_SPACE
  pub low : MIN_MTU ≤ mtu

-- Turns of the receiver, in a run of it, that begin before the first fragment of this send arrives and in which all
-- arrive. Fewer than 60 ticks are among them: a repeat of a fragment doesn't give more time. Nothing was reclaimed, and
-- nothing lacked buffers; the two counters haven't stopped.
pub record IsInTime (x : Sending) (mtu : ℕ) (old new : State) (turns : List Turn) : Type 0 where
  pub sending : IsSending x mtu
  pub cut : 1 < length (parts x mtu)
  pub consistent : IsConsistent old
  pub here : x.to.ip ≡ old.config.addr
  pub other : is_ours old.config x.source ≡ false
  pub fresh : unfinished_at (key_for x) old ≡ None
  pub leads : Leads exact_ledger old turns new
  pub arrive : AllArriveOf x mtu turns
  pub soon : ticks_in turns < FRAGMENT_TICKS
  pub reclaims : value_of IpReclaimed new.counters ≡ value_of IpReclaimed old.counters
  pub reclaims_count : value_of IpReclaimed new.counters < 2 ^ 64 - 1
  pub buffers : value_of Nobufs new.counters ≡ value_of Nobufs old.counters
  pub buffers_count : value_of Nobufs new.counters < 2 ^ 64 - 1

-- the sockets are as before, but this one has the datagram as the last in its queue
abbrev pub IsReceivedBy : Sending → Socket → Weight → State → State → Type 0
IsReceivedBy x to weight old new = new.sockets
    ≡ (change_socket to.fd (with_datagram (record {
      sender = record { ip = x.source; port = x.port };
      item = record { bytes = x.bytes; weight = mbuf ⊕ weight };
    })) old).sockets

-- one more of what this counts
abbrev pub IsCounted : ℕ → ℕ → Type 0
IsCounted old new = new ≡ more_by 1 old

-- The datagram goes to the socket that matches, if one does and its queue has space for it. Otherwise it's counted.
abbrev pub IsPlaced : Sending → State → State → Option Socket → Type 0
IsPlaced x old new None = IsCounted (value_of UdpNoport old.counters) (value_of UdpNoport new.counters)
IsPlaced x old new (Some to) = (weight : Weight)
    × Choice (fits to.limit to.queue (length x.bytes) (memory_of weight))
    (IsReceivedBy x to weight old new)
    (IsCounted (value_of UdpFullsock old.counters) (value_of UdpFullsock new.counters))

-- the socket that matches the datagram at that moment
abbrev pub matching : Sending → State → Option Socket
matching x s = best (record {
  local = Some x.to.ip;
  port = Some x.to.port;
  peer = Some (record { ip = x.source; port = x.port });
}) s.sockets

-- one of the turns completes it
pub record IsCompleted (L : Ledger) (x : Sending) (first last : State) (turns : List Turn) : Type 0 where
  pub before : List Turn
  pub turn : Turn
  pub after : List Turn
  pub turns_are : turns ≡ before ++ turn ∷ after
  pub old : State
  pub new : State
  pub leads : Leads L first before old
  pub step : StepBy L old turn.event turn.reply new
  pub goes_on : Leads L new after last
  pub placed : IsPlaced x old new (matching x old)

-- the law of progress, for the machine with exact accounts
abbrev pub ProgressLaw : Type 0
ProgressLaw = (x : Sending) (mtu : ℕ) (old new : State) (turns : List Turn) → IsInTime x mtu old new turns
    → IsCompleted exact_ledger x old new turns
