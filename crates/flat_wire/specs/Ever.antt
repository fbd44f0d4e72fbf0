-- Two hosts on one wire without end (this project's own). A host that sends for years uses each of the 65,536
-- identifications again and again. The second host can only mix fragments of two sends with one identification that it
-- has at the same time, so it's enough that no two such sends are 65,536 apart.
use Rattle.std.specs.Prelude.{◌≡◌, ◌≢◌, ◌⊎◌, ℕ, ◌+◌, ◌<◌, ◌≤◌, ◌^◌, ◌==◌, Bool, true, not, List, ◌∷◌, ◌++◌, length, count_by, filter_map, All, Contains, Some, ⊤}
use Rattle.params.specs.declared.TheConstants.{FRAGMENT_TICKS, IP_UDP_HEADERS}
use Rattle.flat_model.specs.Packets.Header.{head_of}
use Rattle.flat_model.specs.Machine.Event.{Event, Send, Receive, Received}
use Rattle.flat_model.specs.Machine.State.{IsConfig, State, Socket, Datagram, boot}
use Rattle.flat_model.specs.declared.config.Config.{Config}
use Rattle.flat_model.specs.Machine.Arrival.{is_fragment}
use Rattle.flat_model.specs.Machine.Ledger.{Ledger}
use Rattle.flat_model.specs.Runs.Run.{Turn, Leads}
use Rattle.flat_model.specs.declared.address.Addr.{Addr}
use Rattle.flat_wire.specs.Age.{ticks_in}
use Rattle.flat_wire.specs.Queue.{packets_in_queue}
use Rattle.flat_wire.specs.Trail.{PassedStep, IsTrail, trail_turns}
use Rattle.flat_wire.specs.Wire.{ComesFrom, IsAnswered, WasSent, packet_in, packet_out}

-- The step used an identification: a send that succeeded, or failed because the output queue was full. Every other step
-- uses none.
abbrev pub uses_id : PassedStep → Bool
uses_id p = not (p.new.next_id == p.old.next_id)

-- the packet was put into the output queue by the send that used this identification after so many others
pub record IsMadeBySend (trail : List PassedStep) (number : ℕ) (packet : List ℕ) : Type 0 where
  pub before : List PassedStep
  pub send : PassedStep
  pub after : List PassedStep
  pub trail_is : trail ≡ before ++ send ∷ after
  pub number_is : count_by uses_id before ≡ number
  pub uses : uses_id send ≡ true
  pub made : List (List ℕ)
  pub queued : packets_in_queue send.new.output ≡ packets_in_queue send.old.output ++ made
  pub among : Contains made packet

-- the turn brings a fragment from this address
pub record BringsFragment (address : ℕ) (turn : Turn) : Type 0 where
  pub packet : List ℕ
  pub comes : packet_in turn ≡ Some packet
  pub from : ComesFrom address packet
  pub part : is_fragment (head_of packet) ≡ true

-- two fragments from this address, and fewer than 60 ticks between them
pub record CanMeet (address : ℕ) (came before between after : List Turn) (one other : Turn) : Type 0 where
  pub came_are : came ≡ before ++ one ∷ (between ++ other ∷ after)
  pub first : BringsFragment address one
  pub second : BringsFragment address other
  pub soon : ticks_in between < FRAGMENT_TICKS

-- `born k` is the number of the send that made the packet of turn k. For two fragments that can meet, the sends are
-- fewer than 65,536 apart.
abbrev pub AreNear : ℕ → List Turn → (ℕ → ℕ) → Type 0
AreNear address came born = (before between after : List Turn) (one other : Turn)
    → CanMeet address came before between after one other
    → (born (length before) < born (length before + 1 + length between) + 2 ^ 16)
    × (born (length before + 1 + length between) < born (length before) + 2 ^ 16)

-- Two runs from boot, as in `AreWired`, but of any length. Each packet that reaches the second host from the first
-- one's address was made by a send of the first, whose number `born` gives for each turn of the second.
pub record AreWiredForEver (L M : Ledger) (first second : Config) (sent : List PassedStep) (came : List Turn)
    (s t : State)
    (born : ℕ → ℕ) : Type 0 where
  pub first_boots : IsConfig first
  pub second_boots : IsConfig second
  pub first_runs : IsTrail L (boot first) sent s
  pub second_runs : Leads M (boot second) came t
  pub not_addr : first.addr ≢ second.addr
  pub not_bcast : first.addr ≢ second.bcast
  pub wire : (before after : List Turn) (turn : Turn) (packet : List ℕ) → came ≡ before ++ turn ∷ after
      → packet_in turn ≡ Some packet → ComesFrom first.addr packet → IsMadeBySend sent (born (length before)) packet
  pub near : AreNear first.addr came born

-- each datagram in the second host's queues with the first one's address as its sender was sent by the first: the
-- conclusion of `WireLaw`
abbrev pub AreAllSent : Ledger → (first second : Config) → List Turn → (s t : State) → Type 0
AreAllSent L first second sent s t =
    (socket : Socket) (d : Datagram) → Contains t.sockets socket → Contains socket.queue d → d.sender.ip ≡ first.addr →
    (to : Addr) × IsAnswered L first sent s d.sender.port to d.item.bytes × (socket.port ≡ Some to.port)
    × ((to.ip ≡ second.addr) ⊎ (to.ip ≡ second.bcast))

-- the law of the wire, without end
abbrev pub WireLawForEver : Ledger → Ledger → Type 0
WireLawForEver L M = (first second : Config) (sent : List PassedStep) (came : List Turn) (s t : State) (born : ℕ → ℕ)
    → AreWiredForEver L M first second sent came s t born → AreAllSent L first second (trail_turns sent) s t

-- the same for the replies of the second's `recvfrom`
abbrev pub ReceivedLawForEver : Ledger → Ledger → Type 0
ReceivedLawForEver L M =
    (first second : Config) (sent : List PassedStep) (before after : List Turn) (s t : State) (born : ℕ
    → ℕ) (fd most : ℕ)
    (sender : Addr) (bytes : List ℕ) →
    AreWiredForEver L M first second sent
    (before ++ record { event = Receive fd most; reply = Received sender bytes } ∷ after) s t born →
    sender.ip ≡ first.addr → WasSent L M first second (trail_turns sent) before s fd most sender bytes

-- ---- what a user checks

-- `made k` is the number of sends that the first has made by turn k of the second. A fragment arrives before the first
-- has made more than `life` sends, with its own. Between two fragments that can meet, the first makes at most `pace`
-- sends.
pub record ArePaced (address : ℕ) (came : List Turn) (born made : ℕ → ℕ) (life pace : ℕ) : Type 0 where
  pub enough : life + pace ≤ 2 ^ 16
  pub alive : (before after : List Turn) (one : Turn) → came ≡ before ++ one ∷ after → BringsFragment address one
      → (born (length before) < made (length before)) × (made (length before) ≤ born (length before) + life)
  pub slow : (before between after : List Turn) (one other : Turn)
      → CanMeet address came before between after one other
      → (made (length before) ≤ made (length before + 1 + length between))
      × (made (length before + 1 + length between) ≤ made (length before) + pace)

-- then no two sends are too far apart
abbrev pub PaceLaw : Type 0
PaceLaw = (address : ℕ) (came : List Turn) (born made : ℕ → ℕ) (life pace : ℕ)
    → ArePaced address came born made life pace → AreNear address came born

-- ---- a host that never sends fragments

-- if the turn is a send, then its packet is at most so long
abbrev pub IsShortSend : ℕ → Event → Type 0
IsShortSend mtu (Send fd to bytes) = length bytes + IP_UDP_HEADERS ≤ mtu
IsShortSend mtu _ = ⊤

-- Two runs from boot, as in `AreWired`, where the first sends any number of datagrams, but none that is longer than one
-- packet.
pub record AreWiredWhole (L M : Ledger) (first second : Config) (sent came : List Turn) (s t : State) : Type 0 where
  pub first_boots : IsConfig first
  pub second_boots : IsConfig second
  pub first_runs : Leads L (boot first) sent s
  pub second_runs : Leads M (boot second) came t
  pub not_addr : first.addr ≢ second.addr
  pub not_bcast : first.addr ≢ second.bcast
  pub whole : All (λ turn. IsShortSend first.mtu turn.event) sent
  pub wire : All (λ packet. ComesFrom first.addr packet → Contains (filter_map packet_out sent) packet)
      (filter_map packet_in came)

-- the law of the wire for such a host: without end, at any rate
abbrev pub WireLawOfWhole : Ledger → Ledger → Type 0
WireLawOfWhole L M = (first second : Config) (sent came : List Turn) (s t : State)
    → AreWiredWhole L M first second sent came s t → AreAllSent L first second sent s t

-- the same for the replies of the second's `recvfrom`
abbrev pub ReceivedLawOfWhole : Ledger → Ledger → Type 0
ReceivedLawOfWhole L M =
    (first second : Config) (sent before after : List Turn) (s t : State) (fd most : ℕ) (sender : Addr)
    (bytes : List ℕ) →
    AreWiredWhole L M first second sent
    (before ++ record { event = Receive fd most; reply = Received sender bytes } ∷ after) s t →
    sender.ip ≡ first.addr → WasSent L M first second sent before s fd most sender bytes
