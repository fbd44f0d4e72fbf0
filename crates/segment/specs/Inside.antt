-- What the fields say is under way (this project's own).
use Rattle.std.specs.Prelude.{◌≡◌, ◌≢◌, ℕ, List, [], ◌∷◌, ◌++◌, drop, length, map, slice_get, take, vec_capacity, Option}
use Rattle.std.specs.Borrow.{LendsIf, MutBor, Fml}
use Rattle.std.specs.Vec.{with_item}
use Rattle.flat_model.specs.declared.config.Config.{Config}
use Rattle.flat_ether.specs.Hosts.{Host}
use Rattle.ether_host.specs.Inside.{link_seen}
use Rattle.ether_host.specs.declared.layer.LinkLayer.{LinkLayer}
use Rattle.net_stack.specs.Stack.{StackView}
use Rattle.net_stack.specs.contracts.stack.Stack.{the_row as stack_row}
use Rattle.segment.specs.contracts.segment.Segment.{the_row}
use Rattle.segment.specs.Chances.{entering}
use Rattle.segment.specs.Tallies.{tallied}
use Rattle.segment.specs.declared.chances.Impairment.{Impairment}
use Rattle.segment.specs.Flying.{Flying}
use Rattle.segment.specs.Frames.{hosts_of}
use Rattle.segment.specs.Segment.{AreBoth, AtEach, SegmentView, received_in}
use Rattle.segment.specs.declared.frame.Frame.{Frame}
use Rattle.segment.specs.declared.flight.Flight.{Flight}
use Rattle.segment.specs.declared.segment.Segment.{Segment}

-- what a frame carries
abbrev pub flying : Frame → Flying
flying f = record { sender = f.sender; packet = take f.len f.room.value; wait = f.wait }

-- what is under way
abbrev pub under_way : Flight → List Flying
under_way f = map flying f.frames.items

-- what is under way, the generator and the counts before and after these packets were sent; the chances are the same
pub record Enters (room room' : ℕ) (first last : List Flying) (i i' : Impairment) (sent : List Flying) : Type 0 where
  pub taken : last ≡ take room (first ++ (entering i.chances.items sent i.random).0)
  pub random : i'.random ≡ (entering i.chances.items sent i.random).1
  pub tallies : i'.tallies.items ≡ tallied i.chances.items sent i.random i.tallies.items
  pub chances : i'.chances ≡ i.chances
  pub same_room : room' ≡ room

abbrev pub AreSentBy : Flight → Impairment → List Flying → Flight → Impairment → Type 0
AreSentBy f i sent f' i' =
    Enters (vec_capacity f.frames) (vec_capacity f'.frames) (under_way f) (under_way f') i i' sent

-- these copies went under way, as many as the capacity allows
pub record GoUnderWay (f : Flight) (copies : List Flying) (f' : Flight) : Type 0 where
  pub entered : under_way f' ≡ take (vec_capacity f.frames) (under_way f ++ copies)
  pub room : vec_capacity f'.frames ≡ vec_capacity f.frames

-- what is at a place has changed by this relation, if something is there, and the rest is unchanged
pub record IsChangedAt {X : Type 0} (R : X → X → Type 0) (place : ℕ) (old now : List X) : Type 0 where
  pub here : AreBoth R (slice_get old place) (slice_get now place)
  pub others : (k : ℕ) → place ≢ k → slice_get now k ≡ slice_get old k
  pub len : length now ≡ length old

-- what a packet brings to the host at a place
abbrev pub arriving_at : ℕ → List Config → Flying → List (List ℕ)
arriving_at place configs f = received_in place (slice_get configs place) (f ∷ [])

-- no other host receives the packet
abbrev pub IsOnly : List Config → Flying → ℕ → Type 0
IsOnly configs f place = (k : ℕ) → place ≢ k → arriving_at k configs f ≡ []

-- each host went by this relation; a stack without a link is as it was
pub record EachHost (R : ℕ → Host → Host → Type 0) (ss : List StackView) (ls : List LinkLayer)
    (ss' : List StackView) (ls' : List LinkLayer) : Type 0 where
  pub hosts : AtEach R (hosts_of ss (map link_seen ls)) (hosts_of ss' (map link_seen ls'))
  pub links : length ls' ≡ length ls
  pub others : drop (length (map link_seen ls)) ss' ≡ drop (length (map link_seen ls)) ss

-- what a segment shows
abbrev pub view : Segment → SegmentView
view s = record {
  configs = s.directory.configs.items;
  stacks = s.stacks.items;
  links = map link_seen s.links.items;
  flight = under_way s.flight;
  room = vec_capacity s.flight.frames;
  chances = s.impairment.chances.items;
  random = s.impairment.random;
  tallies = s.impairment.tallies.items;
}

-- the segment with another stack at a place
abbrev pub with_stack : Segment → ℕ → StackView → Segment
with_stack s place stack = record s { stacks = with_item s.stacks place stack }

-- the segment ends with the last value of the reference at this place, or as it was
abbrev pub lends_stack : MutBor Segment → ℕ → Option (MutBor StackView) → Fml
lends_stack s place r = LendsIf the_row stack_row s r (with_stack s.now place) s.now
