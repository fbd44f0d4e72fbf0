-- Hosts on an Ethernet: what their links give to a segment and take from it (this project's own).
use Rattle.std.specs.Prelude.{◌≡◌, ◌+◌, ◌≤◌, ℕ, zero, suc, Bool, true, false, nat_le, ◌==◌, ◌&&◌, not, if◌then◌else◌, List, [], ◌∷◌, ◌++◌, length, filter, filter_map, map, take, drop, slice_get, slice_set, Option, Some, None, Result}
use Rattle.std.specs.List.{list_all}
use Rattle.flat_model.specs.Machine.State.{IsConfig, boot}
use Rattle.flat_model.specs.declared.config.Config.{Config}
use Rattle.flat_model.specs.declared.errno.Errno.{Errno}
use Rattle.flat_ether.specs.Frames.{is_addressed, same_mac}
use Rattle.flat_ether.specs.Hosts.{TakesFrame, Ticks, Host, gives, last_error}
use Rattle.flat_ether.specs.Links.{LinkState, link_up}
use Rattle.flat_ether.specs.Settings.{link_fault}
use Rattle.flat_ether.specs.declared.error.NetFault.{NetFault}
use Rattle.flat_ether.specs.declared.link.Link.{Link}
use Rattle.flat_ether.specs.declared.mac.Mac.{Mac}
use Rattle.flat_ether.specs.declared.sizes.TheConstants.{ETHER_HEADER, ETHER_MTU}
use Rattle.params.specs.declared.TheConstants.{IP_MAX_PACKET}
use Rattle.flat_model.specs.Machine.Event.{IsBytes}
use Rattle.ether_host.specs.View.{halves}
use Rattle.net_stack.specs.Boots.{IsUnbooted}
use Rattle.net_stack.specs.Stack.{StackView, state_of}
use Rattle.net_stack.specs.declared.stack.BootFault.TheVariants.{Memory}
use Rattle.segment.specs.Chances.{entering, no_chances}
use Rattle.segment.specs.Flying.{Flying, flying_aged, is_early, sent_by}
use Rattle.segment.specs.Segment.{SegmentView, AtEach, are_apart, leaving}
use Rattle.segment.specs.Tallies.{with_received, nothing_counted, tallied}
use Rattle.segment.specs.declared.links.TheConstants.{FRAMES}
use Rattle.segment.specs.declared.segment.JoinFault.{JoinFault}
use Rattle.segment.specs.declared.segment.JoinFault.TheVariants.{TooManyHosts, AddressTaken, Unbooted, OtherLink, MacTaken, BadLink}

-- the hosts of these stacks and links, by their places
abbrev pub hosts_of : List StackView → List LinkState → List Host
hosts_of [] links = []
hosts_of (s ∷ stacks) [] = []
hosts_of (s ∷ stacks) (l ∷ links) = halves s l ∷ hosts_of stacks links

abbrev pub hosts_in : SegmentView → List Host
hosts_in v = hosts_of v.stacks v.links

-- ---- what is sent

-- The next frame of a host. If a caller replaced its stack by one that takes longer packets than a frame carries,
-- nothing is sent.
abbrev pub gives_short : Host → Option (List ℕ) × Host
gives_short h = if nat_le h.machine.config.mtu ETHER_MTU then gives h else (None, h)

abbrev pub or_more : Option (List ℕ) × Host → List (List ℕ) × Host → List (List ℕ) × Host
or_more (None, h) rest = ([], h)
or_more (Some f, h) rest = (f ∷ rest.0, rest.1)

-- the next n frames of a host, or fewer if it has fewer, and the host then
abbrev pub frames_given : ℕ → Host → List (List ℕ) × Host
frames_given zero h = ([], h)
frames_given (suc n) h = or_more (gives_short h) (frames_given n (gives_short h).1)

abbrev pub given_in : Option Host → List (List ℕ)
given_in None = []
given_in (Some h) = (frames_given FRAMES h).0

-- what the hosts at the first places give
abbrev pub frames_below : List Host → ℕ → List Flying
frames_below hosts zero = []
frames_below hosts (suc place) = frames_below hosts place ++ sent_by place (given_in (slice_get hosts place))

-- what all hosts give
abbrev pub frames_of : SegmentView → List Flying
frames_of v = frames_below (hosts_in v) (length v.links)

-- Each host gave its frames. They were added after those under way, up to the capacity. A stack without a link is as it
-- was.
pub record AreFramesCollected (old new : SegmentView) : Type 0 where
  pub configs : new.configs ≡ old.configs
  pub room : new.room ≡ old.room
  pub chances : new.chances ≡ old.chances
  pub links : length new.links ≡ length old.links
  pub others : drop (length old.links) new.stacks ≡ drop (length old.links) old.stacks
  pub flight : new.flight ≡ take old.room (old.flight ++ (entering old.chances (frames_of old) old.random).0)
  pub random : new.random ≡ (entering old.chances (frames_of old) old.random).1
  pub tallies : new.tallies ≡ tallied old.chances (frames_of old) old.random old.tallies
  pub hosts : AtEach (λ place h k. k ≡ (frames_given FRAMES h).1) (hosts_in old) (hosts_in new)

-- ---- what arrives

-- a frame arrives at the host at this place: another host sent it, and its destination is the host's hardware address
-- or the broadcast address
abbrev pub frame_goes_to : ℕ → Mac → Flying → Bool
frame_goes_to place mac f = not (f.sender == place) && is_addressed mac f.packet

abbrev pub frames_to : ℕ → Mac → List Flying → List (List ℕ)
frames_to place mac flight =
    filter_map (λ (f : Flying). if frame_goes_to place mac f then Some f.packet else None) flight

abbrev pub frames_received : ℕ → Option LinkState → List Flying → List (List ℕ)
frames_received place None flight = []
frames_received place (Some l) flight = frames_to place l.link.mac flight

-- a frame arrives at a host
abbrev pub FrameComes : List ℕ → Host → Host → Type 0
FrameComes f old new = IsBytes f × (length f ≤ ETHER_HEADER + IP_MAX_PACKET) × TakesFrame f old new

-- these frames arrive, one after another
abbrev pub ReceiveEach : List (List ℕ) → Host → Host → Type 0
ReceiveEach [] old new = new ≡ old
ReceiveEach (f ∷ later) old new = (mid : Host) × FrameComes f old mid × ReceiveEach later mid new

-- What was due arrived, and the rest is a carry older. A stack without a link is as it was.
pub record AreFramesDelivered (old new : SegmentView) : Type 0 where
  pub configs : new.configs ≡ old.configs
  pub room : new.room ≡ old.room
  pub chances : new.chances ≡ old.chances
  pub links : length new.links ≡ length old.links
  pub others : drop (length old.links) new.stacks ≡ drop (length old.links) old.stacks
  pub flight : new.flight ≡ map flying_aged (filter is_early old.flight)
  pub random : new.random ≡ (leaving old).1
  pub tallies : AtEach (λ place t u. u
      ≡ with_received (length (frames_received place (slice_get old.links place) (leaving old).0)) t)
      old.tallies new.tallies
  pub hosts : AtEach (λ place h k. ReceiveEach (frames_to place h.link.link.mac (leaving old).0) h k)
      (hosts_in old) (hosts_in new)

-- ---- one host

-- a step of the host at a place
pub record IsHostStep (place : ℕ) (R : Host → Host → Type 0) (old new : SegmentView) : Type 0 where
  pub stack : StackView
  pub link : LinkState
  pub stack' : StackView
  pub link' : LinkState
  pub stack_is : slice_get old.stacks place ≡ Some stack
  pub link_is : slice_get old.links place ≡ Some link
  pub goes : R (halves stack link) (halves stack' link')
  pub is : new ≡ record old {
    stacks = slice_set old.stacks place stack';
    links = slice_set old.links place link';
  }

-- a frame from outside arrived at it
abbrev pub HasReceived : ℕ → List ℕ → SegmentView → SegmentView → Type 0
HasReceived place f old new = IsHostStep place (FrameComes f) old new

-- an error of one of its sockets was queried
abbrev pub IsErrorQueried : ℕ → ℕ → Result (Option NetFault) Errno → SegmentView → SegmentView → Type 0
IsErrorQueried place fd fault old new = IsHostStep place (λ h k. (fault, k) ≡ last_error fd h) old new

-- it's a tick older
abbrev pub IsHostTicked : ℕ → SegmentView → SegmentView → Type 0
IsHostTicked place old new = IsHostStep place Ticks old new

-- ---- joining

abbrev pub other_mac : Mac → LinkState → Bool
other_mac mac l = not (same_mac mac l.link.mac)

-- a host on an Ethernet can join
abbrev pub IsPlace : SegmentView → Type 0
IsPlace v = (nat_le 64 (length v.stacks) ≡ false) × ((length v.links == length v.stacks) ≡ true)

-- and its addresses differ from those of all others
abbrev pub IsFree : SegmentView → Config → Link → Type 0
IsFree v config link =
    IsPlace v × (link_fault config link ≡ None) × (list_all (are_apart config) v.configs ≡ true)
    × (list_all (other_mac link.mac) v.links ≡ true)

-- A host has joined: it has the next place, and its stack and its link have just started.
pub record IsEtherJoined (config : Config) (link : Link) (old new : SegmentView) : Type 0 where
  pub free : IsFree old config link
  pub is_config : IsConfig config
  pub stack : StackView
  pub started : state_of stack ≡ boot config
  pub configs : new.configs ≡ old.configs ++ config ∷ []
  pub stacks : new.stacks ≡ old.stacks ++ stack ∷ []
  pub links : new.links ≡ old.links ++ link_up config link ∷ []
  pub flight : new.flight ≡ old.flight
  pub room : new.room ≡ old.room
  pub chances : new.chances ≡ old.chances ++ no_chances ∷ []
  pub tallies : new.tallies ≡ old.tallies ++ nothing_counted ∷ []
  pub random : new.random ≡ old.random

-- why a host on an Ethernet can't join, the first reason that applies
abbrev pub IsEtherRefused : SegmentView → Config → Link → JoinFault → Type 0
IsEtherRefused v config link TooManyHosts = nat_le 64 (length v.stacks) ≡ true
IsEtherRefused v config link OtherLink =
    (nat_le 64 (length v.stacks) ≡ false) × ((length v.links == length v.stacks) ≡ false)
IsEtherRefused v config link (BadLink fault) = IsPlace v × (link_fault config link ≡ Some fault)
IsEtherRefused v config link AddressTaken =
    IsPlace v × (link_fault config link ≡ None) × (list_all (are_apart config) v.configs ≡ false)
IsEtherRefused v config link MacTaken =
    IsPlace v × (link_fault config link ≡ None) × (list_all (are_apart config) v.configs ≡ true)
    × (list_all (other_mac link.mac) v.links ≡ false)
IsEtherRefused v config link (Unbooted Memory) = IsFree v config link
IsEtherRefused v config link (Unbooted fault) = IsFree v config link × IsUnbooted config fault
