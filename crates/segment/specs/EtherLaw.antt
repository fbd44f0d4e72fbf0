-- What was done with each host of an Ethernet segment, and a law for two of them (this project's own).
use Rattle.std.specs.Prelude.{◌≡◌, ◌≢◌, ◌<◌, ◌^◌, ℕ, zero, suc, Bool, true, false, nat_le, ◌==◌, if◌then◌else◌, List, [], ◌∷◌, ◌++◌, slice_get, All, Option, Some, None}
use Rattle.flat_model.specs.Machine.Count.{value_of}
use Rattle.flat_model.specs.declared.config.Config.{Config}
use Rattle.flat_model.specs.declared.counter.Counter.TheVariants.{IpLocalout}
use Rattle.flat_wire.specs.Wire.{ComesFrom}
use Rattle.flat_ether.specs.Frames.{body_of}
use Rattle.flat_ether.specs.Hosts.{Host, HostAct, Comes_in, Goes_out, Asks_error, Clock, gives}
use Rattle.flat_ether.specs.Hosts as host
use Rattle.flat_ether.specs.Laws.{packets_handed}
use Rattle.flat_ether.specs.Links.{LinkState}
use Rattle.flat_ether.specs.declared.sizes.TheConstants.{ETHER_MTU}
use Rattle.ether_host.specs.View.{halves}
use Rattle.net_stack.specs.Stack.{StackView}
use Rattle.segment.specs.Flying.{Flying}
use Rattle.segment.specs.Frames.{frames_to, gives_short}
use Rattle.segment.specs.Law.{Act, Ether, Joins, Calls, Collects, Delivers, Impairs, Seeds, Loses, Repeats, Swaps, AreActs, EtherAct, JoinsEther, CollectsFrames, DeliversFrames, ReceivesFrame, QueriesError, TicksHost}
use Rattle.segment.specs.Segment.{SegmentView, leaving, no_hosts}
use Rattle.segment.specs.declared.links.TheConstants.{FRAMES}

-- the host at a place, if it has a stack and a link
abbrev pub host_of_halves : Option StackView → Option LinkState → Option Host
host_of_halves None l = None
host_of_halves (Some s) None = None
host_of_halves (Some s) (Some l) = Some (halves s l)

abbrev pub host_at : ℕ → SegmentView → Option Host
host_at place v = host_of_halves (slice_get v.stacks place) (slice_get v.links place)

-- ---- what was done with the host at a place, as acts of flat_ether

-- the link takes a frame, if the stack's packets fit into one
abbrev pub takes_if : Bool → Option (List ℕ) → List HostAct
takes_if true f = Goes_out f ∷ []
takes_if false f = []

abbrev pub then_takes : Option (List ℕ) → List HostAct → List HostAct
then_takes None later = []
then_takes (Some f) later = later

-- it takes the next n frames, or fewer if it has fewer
abbrev pub taking : ℕ → Host → List HostAct
taking zero h = []
taking (suc n) h =
    takes_if (nat_le h.machine.config.mtu ETHER_MTU) (gives h).0
    ++ then_takes (gives_short h).0 (taking n (gives_short h).1)

abbrev pub taking_in : Option Host → List HostAct
taking_in None = []
taking_in (Some h) = taking FRAMES h

-- these frames arrive
abbrev pub coming : List (List ℕ) → List HostAct
coming [] = []
coming (f ∷ frames) = Comes_in f ∷ coming frames

abbrev pub coming_in : ℕ → Option Host → List Flying → List HostAct
coming_in place None flight = []
coming_in place (Some h) flight = coming (frames_to place h.link.link.mac flight)

-- this, if there is a host
abbrev pub if_host : Option Host → HostAct → List HostAct
if_host None act = []
if_host (Some h) act = act ∷ []

abbrev pub ether_acts : ℕ → SegmentView → EtherAct → List HostAct
ether_acts place v (JoinsEther config link) = []
ether_acts place v CollectsFrames = taking_in (host_at place v)
ether_acts place v DeliversFrames = coming_in place (host_at place v) (leaving v).0
ether_acts place v (ReceivesFrame other f) = if other == place then if_host (host_at place v) (Comes_in f) else []
ether_acts place v (QueriesError other fd fault) =
    if other == place then if_host (host_at place v) (Asks_error fd fault) else []
ether_acts place v (TicksHost other) = if other == place then if_host (host_at place v) Clock else []

abbrev pub host_acts : ℕ → SegmentView → Act → List HostAct
host_acts place v (Ether act) = ether_acts place v act
host_acts place v (Joins config) = []
host_acts place v (Calls other turn) =
    if other == place then if_host (host_at place v) (host.Calls turn) else []
host_acts place v (Collects found) = []
host_acts place v (Delivers found) = []
host_acts place v (Impairs other chances) = []
host_acts place v (Seeds seed) = []
host_acts place v (Loses at) = []
host_acts place v (Repeats at) = []
host_acts place v (Swaps at other) = []

-- all that was done with it, in these acts, which lead from one segment to another
abbrev pub acts_of : ℕ → (old : SegmentView) → (acts : List Act) → (new : SegmentView) → AreActs old acts new
    → List HostAct
acts_of place old [] new done = []
acts_of place old (act ∷ acts) new (mid, is, done) = host_acts place old act ++ acts_of place mid acts new done

-- ---- two hosts

-- no host joined without a link, and packets were collected or delivered only in frames
abbrev pub GoesByFrames : Act → Type 0
GoesByFrames (Ether act) = Unit {0}
GoesByFrames (Joins config) = ⊥
GoesByFrames (Calls place turn) = Unit {0}
GoesByFrames (Collects found) = ⊥
GoesByFrames (Delivers found) = ⊥
GoesByFrames (Impairs place chances) = Unit {0}
GoesByFrames (Seeds seed) = Unit {0}
GoesByFrames (Loses place) = Unit {0}
GoesByFrames (Repeats place) = Unit {0}
GoesByFrames (Swaps place other) = Unit {0}

abbrev pub GoByFrames : List Act → Type 0
GoByFrames [] = Unit {0}
GoByFrames (act ∷ acts) = GoesByFrames act × GoByFrames acts

-- the frames from outside that arrived at the host at a place
abbrev pub frames_received_in : ℕ → Act → List (List ℕ)
frames_received_in place (Ether (ReceivesFrame other f)) = if other == place then f ∷ [] else []
frames_received_in place _ = []

abbrev pub frames_received_by : ℕ → List Act → List (List ℕ)
frames_received_by place [] = []
frames_received_by place (act ∷ acts) = frames_received_in place act ++ frames_received_by place acts

-- Two hosts of an Ethernet segment, and all that was done since it had no hosts. The first has sent fewer than 65,536
-- times, and neither a frame from outside nor a call brought the second a UDP packet with the first's address as its
-- source (a forged packet).
pub record AreOnEtherSegment (room i j : ℕ) (first second : Config) (s t : Host) (acts : List Act) (last : SegmentView)
    (done : AreActs (no_hosts room) acts last) : Type 0 where
  pub framed : GoByFrames acts
  pub two : i ≢ j
  pub first_is : slice_get last.configs i ≡ Some first
  pub second_is : slice_get last.configs j ≡ Some second
  pub first_host : host_at i last ≡ Some s
  pub second_host : host_at j last ≡ Some t
  pub few : value_of IpLocalout s.machine.counters < 2 ^ 16
  pub received : All (λ f. ¬ ComesFrom first.addr (body_of f)) (frames_received_by j acts)
  pub handed : All (λ packet. ¬ ComesFrom first.addr packet) (packets_handed (acts_of j (no_hosts room) acts last done))
