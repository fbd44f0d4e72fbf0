-- How often a host sends while one of its packets can arrive and meet another (this project's own). A packet waits in
-- the output queue until the segment collects all that waits. Then it's under way for no longer than the delays that
-- are set for its sender.
use Rattle.std.specs.Prelude.{◌≡◌, ◌≢◌, ◌+◌, ◌<◌, ◌≤◌, ◌^◌, ℕ, Bool, true, false, List, ◌∷◌, ◌++◌, count_by, slice_get, filter_map, All, Some, ⊤}
use Rattle.params.specs.declared.TheConstants.{FRAGMENT_TICKS}
use Rattle.flat_model.specs.Machine.Event.{Event, Reply, Send}
use Rattle.flat_model.specs.Runs.Run.{Turn}
use Rattle.flat_model.specs.declared.config.Config.{Config}
use Rattle.flat_wire.specs.Age.{ticks_in}
use Rattle.flat_wire.specs.Places.{went}
use Rattle.flat_wire.specs.Wire.{ComesFrom, packet_in}
use Rattle.net_stack.specs.Stack.{StackView}
use Rattle.segment.specs.Segment.{SegmentView, is_ether, no_hosts}
use Rattle.segment.specs.Law.{Act, Collects, Delivers, Impairs, AreActs, called_of, turns_of}

-- a send that used an identification: it succeeded, or the output queue was full
abbrev pub is_numbered : Event → Reply → Bool
is_numbered (Send fd to bytes) reply = went reply
is_numbered _ reply = false

-- how often the host at a place sent in these acts
abbrev pub sends_of : ℕ → List Act → ℕ
sends_of place acts = count_by (λ (turn : Turn). is_numbered turn.event turn.reply) (turns_of place acts)

abbrev pub is_collection : Act → Bool
is_collection (Collects found) = true
is_collection _ = false

abbrev pub is_delivery : Act → Bool
is_delivery (Delivers found) = true
is_delivery _ = false

-- no longer delay is set for what the host at a place sends
abbrev pub KeepsDelay : (place delay : ℕ) → Act → Type 0
KeepsDelay place delay (Impairs other chances) = other ≡ place → chances.delay + chances.jitter ≤ delay
KeepsDelay place delay _ = ⊤

-- The acts in which the packets of a send can arrive at the second host, or meet others there, if `delay` is the
-- longest delay: they wait until they are collected; they arrive after at most so many other deliveries; and after that
-- the second's clock ticks fewer than 60 times.
pub record IsLifetime (delay second : ℕ) (acts : List Act) : Type 0 where
  pub waits : List Act
  pub found : SegmentView
  pub flies : List Act
  pub due : SegmentView
  pub meets : List Act
  pub acts_are : acts ≡ waits ++ Collects found ∷ (flies ++ Delivers due ∷ meets)
  pub uncollected : count_by is_collection waits ≡ 0
  pub delayed : count_by is_delivery flies ≤ delay
  pub soon : ticks_in (turns_of second meets) < FRAGMENT_TICKS

-- Two hosts as in `AreOnSegment`, of which the first sends any number of datagrams of any length, and no delay of its
-- packets is longer than `delay`. While packets of a send can meet others, it sends at most 65,536 times, that send
-- included.
pub record AreOnSegmentForEver (room i j : ℕ) (first second : Config) (s t : StackView) (acts : List Act)
    (last : SegmentView) (delay : ℕ) : Type 0 where
  pub done : AreActs (no_hosts room) acts last
  pub bare : is_ether last ≡ false
  pub two : i ≢ j
  pub first_is : slice_get last.configs i ≡ Some first
  pub second_is : slice_get last.configs j ≡ Some second
  pub first_stack : slice_get last.stacks i ≡ Some s
  pub second_stack : slice_get last.stacks j ≡ Some t
  pub delays : All (KeepsDelay i delay) acts
  pub few : (before lifetime after : List Act) → acts ≡ before ++ (lifetime ++ after) → IsLifetime delay j lifetime
      → sends_of i lifetime ≤ 2 ^ 16
  pub outside : All (λ packet. ¬ ComesFrom first.addr packet) (filter_map packet_in (called_of j acts))
