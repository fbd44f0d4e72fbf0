-- Two hosts on one wire (this project's own). The wire loses, repeats and reorders packets, and other hosts send on it
-- too, but no other host forges the first one's address.
use Rattle.std.specs.Prelude.{◌≡◌, ◌≢◌, ◌⊎◌, ℕ, ◌<◌, ◌≤◌, ◌^◌, List, ◌∷◌, ◌++◌, length, take, slice_index, filter_map, All, Contains, Option, Some, None}
use Rattle.params.specs.declared.TheConstants.{PROTOCOL_UDP}
use Rattle.flat_model.specs.Machine.Count.{value_of}
use Rattle.flat_model.specs.declared.counter.Counter.TheVariants.{IpLocalout}
use Rattle.flat_model.specs.Packets.Header.{u32_at}
use Rattle.flat_model.specs.Machine.Event.{Event, Reply, Send, Sent, Receive, Received, Comes, Transmit, Given}
use Rattle.flat_model.specs.Machine.State.{IsConfig, State, Socket, Datagram, boot, socket_at}
use Rattle.flat_model.specs.declared.config.Config.{Config}
use Rattle.flat_model.specs.Machine.Send.{target}
use Rattle.flat_model.specs.Machine.Ledger.{Ledger}
use Rattle.flat_model.specs.Machine.Step.{StepBy}
use Rattle.flat_model.specs.Runs.Run.{Turn, Leads}
use Rattle.flat_model.specs.declared.address.Addr.{Addr}

-- the packet that a reply gave to the link
abbrev pub given : Event → Reply → Option (List ℕ)
given Transmit (Given packet) = packet
given _ _ = None

-- the same for a turn
abbrev pub packet_out : Turn → Option (List ℕ)
packet_out turn = given turn.event turn.reply

-- the packet that arrived in an event
abbrev pub came_in : Event → Option (List ℕ)
came_in (Comes packet) = Some packet
came_in _ = None

-- the same for a turn
abbrev pub packet_in : Turn → Option (List ℕ)
packet_in turn = came_in turn.event

-- the source address of a packet of 16 bytes or more
abbrev pub ip_source : List ℕ → ℕ
ip_source packet = u32_at 12 packet

-- A UDP packet with this source address; a packet that is too short for the field has none. Data of other protocols
-- reaches no queue, whoever sends it.
pub record ComesFrom (address : ℕ) (packet : List ℕ) : Type 0 where
  pub long : 16 ≤ length packet
  pub source : ip_source packet ≡ address
  pub udp : slice_index packet 9 ≡ PROTOCOL_UDP

-- A send to which the run of these turns to `last` replied with its number of bytes: its source port, and its
-- destination, with 0.0.0.0 and 255.255.255.255 read as the machine reads them.
pub record IsAnswered (L : Ledger) (config : Config) (turns : List Turn) (last : State) (port : ℕ) (to : Addr)
    (bytes : List ℕ) : Type 0 where
  pub before : List Turn
  pub after : List Turn
  pub fd : ℕ
  pub address : Option Addr
  pub turns_are : turns ≡ before ++ record { event = Send fd address bytes; reply = Sent (length bytes) } ∷ after
  pub old : State
  pub new : State
  pub leads : Leads L (boot config) before old
  pub step : StepBy L old (Send fd address bytes) (Sent (length bytes)) new
  pub goes_on : Leads L new after last
  pub me : Socket
  pub then' : Socket
  pub found : socket_at fd old ≡ Some me
  pub sends_to : to ≡ target old me address
  pub found_then : socket_at fd new ≡ Some then'
  pub from_port : then'.port ≡ Some port

-- Two runs from boot, by machines with any ledgers of their buffers. The packets that reach the second host from the
-- first one's address are packets that the first sent, in any order and any number of times. The first sends fewer
-- datagrams than there are identifications, and the second doesn't have the first one's address.
pub record AreWired (L M : Ledger) (first second : Config) (sent came : List Turn) (s t : State) : Type 0 where
  pub first_boots : IsConfig first
  pub second_boots : IsConfig second
  pub first_runs : Leads L (boot first) sent s
  pub second_runs : Leads M (boot second) came t
  pub not_addr : first.addr ≢ second.addr
  pub not_bcast : first.addr ≢ second.bcast
  pub few : value_of IpLocalout s.counters < 2 ^ 16
  pub wire : All (λ packet. ComesFrom first.addr packet → Contains (filter_map packet_out sent) packet)
      (filter_map packet_in came)

-- Then each datagram in the second host's queues with the first one's address as its sender was sent by the first, with
-- all of these bytes. The send had that source port; its destination was one of the second's addresses and the port of
-- the socket that has the datagram; and its reply was the number of bytes. A run may end at any point, so this holds
-- for every datagram that was ever queued.
abbrev pub WireLaw : Ledger → Ledger → Type 0
WireLaw L M = (first second : Config) (sent came : List Turn) (s t : State) → AreWired L M first second sent came s t →
    (socket : Socket) (d : Datagram) → Contains t.sockets socket → Contains socket.queue d → d.sender.ip ≡ first.addr →
    (to : Addr) × IsAnswered L first sent s d.sender.port to d.item.bytes × (socket.port ≡ Some to.port)
    × ((to.ip ≡ second.addr) ⊎ (to.ip ≡ second.bcast))

-- A run of the second host by these turns, and then a `recvfrom` of at most `most` bytes whose reply is `bytes` from
-- `sender`. The first host had replied to a send of `whole`, and these bytes are a prefix of it. The send had that
-- source port, and its destination was one of the second's addresses and the port that the socket had then.
pub record WasSent (L M : Ledger) (first second : Config) (sent before : List Turn) (s : State) (fd most : ℕ)
    (sender : Addr) (bytes : List ℕ) : Type 0 where
  pub whole : List ℕ
  pub bytes_are : bytes ≡ take most whole
  pub to : Addr
  pub answered : IsAnswered L first sent s sender.port to whole
  pub here : (to.ip ≡ second.addr) ⊎ (to.ip ≡ second.bcast)
  pub then' : State
  pub leads : Leads M (boot second) before then'
  pub me : Socket
  pub found : socket_at fd then' ≡ Some me
  pub to_port : me.port ≡ Some to.port

-- This holds for each reply of the second's `recvfrom` with the first one's address as the sender: what is received was
-- sent.
abbrev pub ReceivedLaw : Ledger → Ledger → Type 0
ReceivedLaw L M =
    (first second : Config) (sent before after : List Turn) (s t : State) (fd most : ℕ) (sender : Addr)
    (bytes : List ℕ) →
    AreWired L M first second sent (before ++ record { event = Receive fd most; reply = Received sender bytes } ∷ after)
    s t →
    sender.ip ≡ first.addr → WasSent L M first second sent before s fd most sender bytes
