-- What the caller in `src/laws_on_a_wire.rt` knows of two stacks on one wire (this project's own).
use Rattle.std.specs.Prelude.{◌≡◌, ◌+◌, ◌<◌, ◌≤◌, ◌^◌, ℕ, List, [], ◌∷◌, ◌++◌, length, map, Some}
use Rattle.params.specs.declared.TheConstants.{IP_UDP_HEADERS}
use Rattle.flat_model.specs.Machine.Count.{value_of}
use Rattle.flat_model.specs.Machine.Event.{Event, Reply, Open, Bind, Send, Receive, Comes, Transmit, Done, Received}
use Rattle.flat_model.specs.Machine.Ledger.{exact_ledger}
use Rattle.flat_model.specs.Runs.Run.{Turn, Run}
use Rattle.flat_model.specs.declared.address.Addr.{Addr}
use Rattle.flat_model.specs.declared.counter.Counter.TheVariants.{IpLocalout}
use Rattle.flat_wire.specs.Wire.{WasSent, packet_out}
use Rattle.net_stack.specs.Stack.{StackView, state_of}
use Rattle.net_stack.specs.Runs.{AreCalls}
use Rattle.net_stack.specs.Wire.{AreOnOneWire}
use Rattle.callers.specs.declared.laws_on_a_wire.TheConstants.{FIRST, SECOND, SOCKET, PORT}

-- the call by which the first host sends these bytes to the second
abbrev pub send_event : List ℕ → Event
send_event bytes = Send SOCKET (Some (record { ip = SECOND.addr; port = PORT })) bytes

-- the call by which a packet arrives
abbrev pub packet_comes : List ℕ → Turn
packet_comes packet = record { event = Comes packet; reply = Done }

-- the call by which the second host requests at most `buffer` bytes
abbrev pub receives : ℕ → Reply → Turn
receives most reply = record { event = Receive SOCKET most; reply = reply }

-- the calls, without their results
abbrev pub events : List Turn → List Event
events turns = map (λ (turn : Turn). turn.event) turns

-- One `tx` changed the stack `old` to the stack `new`. If these bytes are long enough for a source address, it gave
-- them to the link.
pub record HasGiven (old new : StackView) (packet : List ℕ) : Type 0 where
  pub turn : Turn
  pub is_tx : turn.event ≡ Transmit
  pub calls : AreCalls old (turn ∷ []) new
  pub out : 16 ≤ length packet → packet_out turn ≡ Some packet

-- each of them fits into a packet
pub record AreShort (lost late early : List ℕ) : Type 0 where
  pub first : length lost + IP_UDP_HEADERS ≤ FIRST.mtu
  pub second : length late + IP_UDP_HEADERS ≤ FIRST.mtu
  pub third : length early + IP_UDP_HEADERS ≤ FIRST.mtu

-- The calls on two hosts, from their boot on, and their results. The first sent three datagrams, and the link took its
-- packets three times. At the second arrived one packet, another, and the first of the two again; then a datagram was
-- requested from it, with this reply. The replies of each are those of a run. If the first has counted fewer than
-- 65,536 sends, they were on one wire, and the first sent what has its address as the sender's.
pub record IsReceivedInOrder (lost late early : List ℕ) (most count : ℕ) (reply : Reply) : Type 0 where
  pub sent : List Turn
  pub before : List Turn
  pub s : StackView
  pub t : StackView
  pub late_packet : List ℕ
  pub early_packet : List ℕ
  pub first_calls : events sent ≡ Open ∷ send_event lost ∷ send_event late ∷ send_event early ∷ Transmit ∷ Transmit
      ∷ Transmit ∷ []
  pub second_calls : events before
      ≡ Open ∷ Bind SOCKET (record { ip = 0; port = PORT }) ∷ Comes early_packet ∷ Comes late_packet
      ∷ Comes early_packet ∷ []
  pub first_runs : Run FIRST sent (state_of s)
  pub second_runs : Run SECOND (before ++ receives most reply ∷ []) (state_of t)
  pub counts : value_of IpLocalout s.counters ≡ count
  pub wire : count < 2 ^ 16 → AreOnOneWire FIRST SECOND sent (before ++ receives most reply ∷ []) s t
  pub was_sent : count < 2 ^ 16 → (sender : Addr) (bytes : List ℕ) → reply ≡ Received sender bytes
      → sender.ip ≡ FIRST.addr
      → WasSent exact_ledger exact_ledger FIRST SECOND sent before (state_of s) SOCKET most sender bytes
  -- and so it did, however often it has sent, if each of the three datagrams is one packet
  pub was_sent_whole : AreShort lost late early → (sender : Addr) (bytes : List ℕ) → reply ≡ Received sender bytes
      → sender.ip ≡ FIRST.addr
      → WasSent exact_ledger exact_ledger FIRST SECOND sent before (state_of s) SOCKET most sender bytes
