-- What a segment shows, and what its calls do (this project's own).
use Rattle.std.specs.Prelude.{◌≡◌, ℕ, zero, suc, ◌<◌, ◌≤◌, Bool, true, false, ◌==◌, ◌&&◌, not, List, [], ◌∷◌, ◌++◌, length, map, filter, take, slice_get, nat_lt, if◌then◌else◌, remove, swap, option_to_list, Option, Some, None}
use Rattle.std.specs.List.{list_all}
use Rattle.flat_model.specs.Amounts.Choice.{Choice}
use Rattle.flat_model.specs.Machine.State.{IsConfig, boot}
use Rattle.flat_model.specs.declared.config.Config.{Config}
use Rattle.flat_ether.specs.Links.{LinkState}
use Rattle.net_stack.specs.Stack.{StackView, state_of}
use Rattle.net_stack.specs.Runs.{AreCalls}
use Rattle.net_stack.specs.Boots.{IsUnbooted}
use Rattle.net_stack.specs.declared.stack.BootFault.TheVariants.{Memory}
use Rattle.segment.specs.declared.segment.JoinFault.{JoinFault}
use Rattle.segment.specs.declared.segment.JoinFault.TheVariants.{TooManyHosts, AddressTaken, Unbooted, OtherLink, MacTaken, BadLink}
use Rattle.rand_pcg.specs.Lcg.{Lcg}
use Rattle.segment.specs.declared.chances.Chances.{Chances}
use Rattle.segment.specs.Flying.{Flying, flying_aged, comes, transmits_of, is_due, is_early, received, sent_by, waiting}
use Rattle.segment.specs.declared.tally.Tally.{Tally}
use Rattle.segment.specs.Tallies.{with_received, nothing_counted, tallied}
use Rattle.segment.specs.Chances.{entering, no_chances, seeded, shuffled}

-- its hosts by their places, the links of those that are on an Ethernet, what is under way, the capacity for packets
-- under way, the chances for what each host sends, the generator that decides, and the counters of each
pub record SegmentView : Type 0 where
  pub configs : List Config
  pub stacks : List StackView
  pub links : List LinkState
  pub flight : List Flying
  pub room : ℕ
  pub chances : List Chances
  pub random : Lcg
  pub tallies : List Tally

-- a segment without hosts
abbrev pub no_hosts : ℕ → SegmentView
no_hosts room =
    record {
      configs = [];
      stacks = [];
      links = [];
      flight = [];
      room = room;
      chances = [];
      random = seeded 1;
      tallies = [];
    }

-- its hosts are on an Ethernet
abbrev pub is_ether : SegmentView → Bool
is_ether v = not (length v.links == 0)

-- the host at a place has a stack and a link
abbrev pub is_linked : ℕ → SegmentView → Bool
is_linked place v = nat_lt place (length v.stacks) && nat_lt place (length v.links)

-- both are there, and in this relation, or neither is there
abbrev pub AreBoth : {A B : Type 0} → (A → B → Type 0) → Option A → Option B → Type 0
AreBoth R None None = Unit {0}
AreBoth R (Some a) (Some b) = R a b
AreBoth R _ _ = ⊥

-- at each place both lists have elements in this relation, or neither has one
abbrev pub AtEach : {A B : Type 0} → (ℕ → A → B → Type 0) → List A → List B → Type 0
AtEach R xs ys = (place : ℕ) → AreBoth (R place) (slice_get xs place) (slice_get ys place)

-- what waits for the link of the host at a place
abbrev pub waiting_in : Option StackView → List (List ℕ)
waiting_in None = []
waiting_in (Some s) = waiting s

-- the packets that the hosts at the first places give to the link
abbrev pub given_below : List StackView → ℕ → List Flying
given_below stacks zero = []
given_below stacks (suc place) = given_below stacks place ++ sent_by place (waiting_in (slice_get stacks place))

-- the packets that the hosts give to the link, as they are under way afterwards, and the generator afterwards
abbrev pub collected : SegmentView → List Flying × Lcg
collected v = entering v.chances (given_below v.stacks (length v.stacks)) v.random

-- the packets that are due, in the order in which they arrive, and the generator afterwards
abbrev pub leaving : SegmentView → List Flying × Lcg
leaving v = shuffled v.chances (filter is_due v.flight) v.random

-- those of them that arrive at the host at a place with this configuration
abbrev pub received_in : ℕ → Option Config → List Flying → List (List ℕ)
received_in place None flight = []
received_in place (Some c) flight = received place c flight

-- Each host gave all packets that wait. They were added after those under way, up to the capacity.
pub record IsCollected (old new : SegmentView) : Type 0 where
  pub configs : new.configs ≡ old.configs
  pub room : new.room ≡ old.room
  pub links : new.links ≡ old.links
  pub chances : new.chances ≡ old.chances
  pub flight : new.flight ≡ take old.room (old.flight ++ (collected old).0)
  pub random : new.random ≡ (collected old).1
  pub tallies : new.tallies ≡ tallied old.chances (given_below old.stacks (length old.stacks)) old.random old.tallies
  pub hosts : AtEach (λ place s t. AreCalls s (transmits_of (waiting s)) t) old.stacks new.stacks

-- What was due arrived, and the rest is a carry older.
pub record HasComeDue (old new : SegmentView) : Type 0 where
  pub configs : new.configs ≡ old.configs
  pub room : new.room ≡ old.room
  pub links : new.links ≡ old.links
  pub chances : new.chances ≡ old.chances
  pub flight : new.flight ≡ map flying_aged (filter is_early old.flight)
  pub random : new.random ≡ (leaving old).1
  pub tallies : AtEach (λ place t u. u
      ≡ with_received (length (received_in place (slice_get old.configs place) (leaving old).0)) t)
      old.tallies new.tallies
  pub hosts : AtEach (λ place s t. AreCalls s (comes (received_in place (slice_get old.configs place) (leaving old).0))
      t) old.stacks new.stacks

-- a carry is both
abbrev pub IsCarried : SegmentView → SegmentView → Type 0
IsCarried old new = (mid : SegmentView) × IsCollected old mid × HasComeDue mid new

-- nothing waits for its link
abbrev pub is_silent : StackView → Bool
is_silent s = length (state_of s).output == 0

-- nothing is under way, and nothing waits for a link
abbrev pub is_quiet_segment : SegmentView → Bool
is_quiet_segment v = (length v.flight == 0) && list_all is_silent v.stacks

-- carries, one after another, until nothing is left, and at most this many
abbrev pub AreCarried : ℕ → SegmentView → SegmentView → Type 0
AreCarried zero old new = new ≡ old
AreCarried (suc n) old new =
    Choice (is_quiet_segment old) (new ≡ old) ((mid : SegmentView) × IsCarried old mid × AreCarried n mid new)

-- ---- by hand

-- the packet at a place is lost
abbrev pub lost_at : ℕ → SegmentView → SegmentView
lost_at place v = record v { flight = remove v.flight place }

-- a copy of it is added after all others, if the capacity allows
abbrev pub repeated_at : ℕ → SegmentView → SegmentView
repeated_at place v = record v { flight = take v.room (v.flight ++ option_to_list (slice_get v.flight place)) }

-- two packets are exchanged, if both are there
abbrev pub swapped_at : ℕ → ℕ → SegmentView → SegmentView
swapped_at place other v =
    record v {
      flight = if nat_lt place (length v.flight) && nat_lt other (length v.flight)
          then swap v.flight place other else v.flight;
    }

-- ---- joining

-- the addresses of two hosts differ: neither has the other's address, nor its broadcast address
abbrev pub are_apart : Config → Config → Bool
are_apart c d = not (c.addr == d.addr) && (not (c.addr == d.bcast) && not (d.addr == c.bcast))

-- each of these is apart from all before it
abbrev pub all_apart : List Config → Bool
all_apart [] = true
all_apart (c ∷ configs) = list_all (λ (d : Config). are_apart d c) configs && all_apart configs

-- A host has joined: it has the next place, and its stack has just started.
pub record IsJoined (config : Config) (old new : SegmentView) : Type 0 where
  pub few : length old.stacks < 64
  pub bare : is_ether old ≡ false
  pub apart : list_all (are_apart config) old.configs ≡ true
  pub is_config : IsConfig config
  pub stack : StackView
  pub started : state_of stack ≡ boot config
  pub configs : new.configs ≡ old.configs ++ config ∷ []
  pub stacks : new.stacks ≡ old.stacks ++ stack ∷ []
  pub flight : new.flight ≡ old.flight
  pub room : new.room ≡ old.room
  pub links : new.links ≡ old.links
  pub chances : new.chances ≡ old.chances ++ no_chances ∷ []
  pub tallies : new.tallies ≡ old.tallies ++ nothing_counted ∷ []
  pub random : new.random ≡ old.random

-- a host without a link can join
abbrev pub IsBarePlace : SegmentView → Type 0
IsBarePlace v = (length v.stacks < 64) × (is_ether v ≡ false)

-- why a host can't join, the first reason that applies
abbrev pub IsJoinRefused : SegmentView → Config → JoinFault → Type 0
IsJoinRefused v config TooManyHosts = 64 ≤ length v.stacks
IsJoinRefused v config OtherLink = (length v.stacks < 64) × (is_ether v ≡ true)
IsJoinRefused v config (BadLink fault) = ⊥
IsJoinRefused v config MacTaken = ⊥
IsJoinRefused v config AddressTaken = IsBarePlace v × (list_all (are_apart config) v.configs ≡ false)
IsJoinRefused v config (Unbooted Memory) = IsBarePlace v × (list_all (are_apart config) v.configs ≡ true)
IsJoinRefused v config (Unbooted fault) =
    IsBarePlace v × (list_all (are_apart config) v.configs ≡ true) × IsUnbooted config fault
