-- Two stacks on one wire that loses, repeats and reorders packets, and on which others send too (this project's own).
use Rattle.std.specs.Prelude.{◌≡◌, ◌≢◌, ◌<◌, ◌^◌, ℕ, List, ◌∷◌, ◌++◌, length, filter_map, All, Contains, Some}
use Rattle.flat_model.specs.Machine.Count.{value_of}
use Rattle.flat_model.specs.declared.counter.Counter.TheVariants.{IpLocalout}
use Rattle.flat_model.specs.Runs.Run.{Turn}
use Rattle.flat_model.specs.Machine.State.{IsConfig, boot}
use Rattle.flat_model.specs.declared.config.Config.{Config}
use Rattle.flat_wire.specs.Ever.{AreNear, IsMadeBySend, IsShortSend}
use Rattle.flat_wire.specs.Wire.{ComesFrom, packet_in, packet_out}
use Rattle.net_stack.specs.Stack.{StackView, state_of}
use Rattle.net_stack.specs.Runs.{AreCalls, AreCallsOf, PassedCall, steps_of}

-- Two stacks after `boot`, and the calls that were made on each. The packets that arrived at the second from the
-- first's address are those that `tx` of the first returned, in any order and any number of times; the first sent fewer
-- than 65,536 times; and the second doesn't have the first's address.
pub record AreOnOneWire (first second : Config) (sent came : List Turn) (s t : StackView) : Type 0 where
  pub first_boots : IsConfig first
  pub second_boots : IsConfig second
  pub first_start : StackView
  pub second_start : StackView
  pub first_starts : state_of first_start ≡ boot first
  pub second_starts : state_of second_start ≡ boot second
  pub first_calls : AreCalls first_start sent s
  pub second_calls : AreCalls second_start came t
  pub not_addr : first.addr ≢ second.addr
  pub not_bcast : first.addr ≢ second.bcast
  pub few : value_of IpLocalout s.counters < 2 ^ 16
  pub wire : All (λ packet. ComesFrom first.addr packet → Contains (filter_map packet_out sent) packet)
      (filter_map packet_in came)

-- The same with any number of sends, if the first never sends a datagram that is longer than one packet.
pub record AreOnOneWireWhole (first second : Config) (sent came : List Turn) (s t : StackView) : Type 0 where
  pub first_boots : IsConfig first
  pub second_boots : IsConfig second
  pub first_start : StackView
  pub second_start : StackView
  pub first_starts : state_of first_start ≡ boot first
  pub second_starts : state_of second_start ≡ boot second
  pub first_calls : AreCalls first_start sent s
  pub second_calls : AreCalls second_start came t
  pub not_addr : first.addr ≢ second.addr
  pub not_bcast : first.addr ≢ second.bcast
  pub whole : All (λ turn. IsShortSend first.mtu turn.event) sent
  pub wire : All (λ packet. ComesFrom first.addr packet → Contains (filter_map packet_out sent) packet)
      (filter_map packet_in came)

-- The same with any number of sends of any length. Each packet that arrived at the second from the first's address was
-- made by a send of the first, whose number `born` gives for each call on the second. For two fragments that can meet,
-- the sends are fewer than 65,536 apart.
pub record AreOnOneWireForEver (first second : Config) (sent : List PassedCall) (came : List Turn) (s t : StackView)
    (born : ℕ → ℕ) : Type 0 where
  pub first_boots : IsConfig first
  pub second_boots : IsConfig second
  pub first_start : StackView
  pub second_start : StackView
  pub first_starts : state_of first_start ≡ boot first
  pub second_starts : state_of second_start ≡ boot second
  pub first_calls : AreCallsOf first_start sent s
  pub second_calls : AreCalls second_start came t
  pub not_addr : first.addr ≢ second.addr
  pub not_bcast : first.addr ≢ second.bcast
  pub wire : (before after : List Turn) (turn : Turn) (packet : List ℕ) → came ≡ before ++ turn ∷ after
      → packet_in turn ≡ Some packet → ComesFrom first.addr packet
      → IsMadeBySend (steps_of sent) (born (length before)) packet
  pub near : AreNear first.addr came born
