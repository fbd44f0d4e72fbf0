-- Calls on a segment, one after another, and what is said of them all (this project's own).
use Rattle.std.specs.Prelude.{◌≡◌, ◌≢◌, ◌<◌, ◌^◌, ℕ, true, false, ◌==◌, if◌then◌else◌, List, [], ◌∷◌, ◌++◌, slice_get, slice_set, filter_map, All, Option, Some, Result}
use Rattle.flat_model.specs.Machine.Count.{value_of}
use Rattle.flat_model.specs.Runs.Run.{Turn}
use Rattle.flat_model.specs.declared.config.Config.{Config}
use Rattle.flat_model.specs.declared.counter.Counter.TheVariants.{IpLocalout}
use Rattle.flat_wire.specs.Ever.{IsShortSend}
use Rattle.flat_wire.specs.Wire.{ComesFrom, packet_in}
use Rattle.net_stack.specs.Stack.{StackView}
use Rattle.net_stack.specs.Runs.{AreCalls}
use Rattle.flat_model.specs.declared.errno.Errno.{Errno}
use Rattle.flat_ether.specs.declared.error.NetFault.{NetFault}
use Rattle.flat_ether.specs.declared.link.Link.{Link}
use Rattle.segment.specs.Flying.{comes, transmits_of}
use Rattle.segment.specs.Frames.{AreFramesCollected, AreFramesDelivered, IsErrorQueried, IsEtherJoined, IsHostTicked, HasReceived}
use Rattle.segment.specs.Chances.{seeded}
use Rattle.segment.specs.declared.chances.Chances.{Chances}
use Rattle.segment.specs.Segment.{SegmentView, is_ether, IsCollected, HasComeDue, IsJoined, leaving, lost_at, no_hosts, repeated_at, swapped_at, received_in, waiting_in}

-- What was done by hosts on an Ethernet: one joined; their frames were collected, or delivered; a frame from outside
-- arrived at the host at a place; an error of a socket was queried; or its stack and its link are a tick older.
pub data EtherAct : Type 0 where
  JoinsEther : (config : Config) (link : Link) → EtherAct
  CollectsFrames : EtherAct
  DeliversFrames : EtherAct
  ReceivesFrame : (place : ℕ) (frame : List ℕ) → EtherAct
  QueriesError : (place fd : ℕ) (fault : Result (Option NetFault) Errno) → EtherAct
  TicksHost : (place : ℕ) → EtherAct

abbrev pub IsEtherAct : SegmentView → EtherAct → SegmentView → Type 0
IsEtherAct old (JoinsEther config link) new = IsEtherJoined config link old new
IsEtherAct old CollectsFrames new = (is_ether old ≡ true) × AreFramesCollected old new
IsEtherAct old DeliversFrames new = (is_ether old ≡ true) × AreFramesDelivered old new
IsEtherAct old (ReceivesFrame place frame) new = HasReceived place frame old new
IsEtherAct old (QueriesError place fd fault) new = IsErrorQueried place fd fault old new
IsEtherAct old (TicksHost place) new = IsHostTicked place old new

-- what was done: a host joined; a call was made on the host at a place; from a segment in this state, what waited was
-- collected or what was due was delivered; the chances for what the host at a place sends were set; the generator was
-- seeded; packets under way were lost, repeated or exchanged by hand; or hosts on an Ethernet did something
pub data Act : Type 0 where
  Ether : (act : EtherAct) → Act
  Joins : (config : Config) → Act
  Calls : (place : ℕ) (turn : Turn) → Act
  Collects : (found : SegmentView) → Act
  Delivers : (found : SegmentView) → Act
  Impairs : (place : ℕ) (chances : Chances) → Act
  Seeds : (seed : ℕ) → Act
  Loses : (place : ℕ) → Act
  Repeats : (place : ℕ) → Act
  Swaps : (place other : ℕ) → Act

-- a call on the stack of the host at a place
pub record IsHostCalled (place : ℕ) (turn : Turn) (old new : SegmentView) : Type 0 where
  pub before : StackView
  pub after : StackView
  pub here : slice_get old.stacks place ≡ Some before
  pub calls : AreCalls before (turn ∷ []) after
  pub stacks : new.stacks ≡ slice_set old.stacks place after
  pub configs : new.configs ≡ old.configs
  pub links : new.links ≡ old.links
  pub flight : new.flight ≡ old.flight
  pub room : new.room ≡ old.room
  pub chances : new.chances ≡ old.chances
  pub random : new.random ≡ old.random
  pub tallies : new.tallies ≡ old.tallies

abbrev pub IsAct : SegmentView → Act → SegmentView → Type 0
IsAct old (Ether act) new = IsEtherAct old act new
IsAct old (Joins config) new = IsJoined config old new
IsAct old (Calls place turn) new = IsHostCalled place turn old new
IsAct old (Collects found) new = (found ≡ old) × IsCollected old new
IsAct old (Delivers found) new = (found ≡ old) × HasComeDue old new
IsAct old (Impairs place chances) new = new ≡ record old { chances = slice_set old.chances place chances }
IsAct old (Seeds seed) new = new ≡ record old { random = seeded seed }
IsAct old (Loses place) new = new ≡ lost_at place old
IsAct old (Repeats place) new = new ≡ repeated_at place old
IsAct old (Swaps place other) new = new ≡ swapped_at place other old

-- these acts, one after another, make the first segment the last
abbrev pub AreActs : SegmentView → List Act → SegmentView → Type 0
AreActs old [] new = new ≡ old
AreActs old (act ∷ acts) new = (mid : SegmentView) × IsAct old act mid × AreActs mid acts new

-- the turns of the host at a place in an act
abbrev pub turns_in : ℕ → Act → List Turn
turns_in place (Ether act) = []
turns_in place (Joins config) = []
turns_in place (Calls other turn) = if other == place then turn ∷ [] else []
turns_in place (Collects v) = transmits_of (waiting_in (slice_get v.stacks place))
turns_in place (Delivers v) = comes (received_in place (slice_get v.configs place) (leaving v).0)
turns_in place (Impairs other chances) = []
turns_in place (Seeds seed) = []
turns_in place (Loses at) = []
turns_in place (Repeats at) = []
turns_in place (Swaps at other) = []

-- all turns of the host at a place, in order
abbrev pub turns_of : ℕ → List Act → List Turn
turns_of place [] = []
turns_of place (act ∷ acts) = turns_in place act ++ turns_of place acts

-- those of them that the segment's own calls didn't make
abbrev pub called_in : ℕ → Act → List Turn
called_in place (Calls other turn) = if other == place then turn ∷ [] else []
called_in place _ = []

abbrev pub called_of : ℕ → List Act → List Turn
called_of place [] = []
called_of place (act ∷ acts) = called_in place act ++ called_of place acts

-- Two hosts of a segment without links, and all that was done since it had no hosts. The first has sent fewer than
-- 65,536 times, and no call brought the second a packet with the first's address as its source (a forged packet).
pub record AreOnSegment (room i j : ℕ) (first second : Config) (s t : StackView) (acts : List Act)
    (last : SegmentView) : Type 0 where
  pub done : AreActs (no_hosts room) acts last
  pub bare : is_ether last ≡ false
  pub two : i ≢ j
  pub first_is : slice_get last.configs i ≡ Some first
  pub second_is : slice_get last.configs j ≡ Some second
  pub first_stack : slice_get last.stacks i ≡ Some s
  pub second_stack : slice_get last.stacks j ≡ Some t
  pub few : value_of IpLocalout s.counters < 2 ^ 16
  pub outside : All (λ packet. ¬ ComesFrom first.addr packet) (filter_map packet_in (called_of j acts))

-- The same with any number of sends, if the first never sends a datagram that is longer than one packet.
pub record AreOnSegmentWhole (room i j : ℕ) (first second : Config) (s t : StackView) (acts : List Act)
    (last : SegmentView) : Type 0 where
  pub done : AreActs (no_hosts room) acts last
  pub bare : is_ether last ≡ false
  pub two : i ≢ j
  pub first_is : slice_get last.configs i ≡ Some first
  pub second_is : slice_get last.configs j ≡ Some second
  pub first_stack : slice_get last.stacks i ≡ Some s
  pub second_stack : slice_get last.stacks j ≡ Some t
  pub whole : All (λ (turn : Turn). IsShortSend first.mtu turn.event) (turns_of i acts)
  pub outside : All (λ packet. ¬ ComesFrom first.addr packet) (filter_map packet_in (called_of j acts))
