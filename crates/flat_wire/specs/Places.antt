-- Where each packet that arrives ends (this project's own): none is lost without a count.
use Rattle.std.specs.Prelude.{◌≡◌, ℕ, ◌+◌, ◌-◌, ◌<◌, ◌^◌, ◌==◌, ◌||◌, Bool, true, false, if◌then◌else◌, List, [], ◌∷◌, length, map, sum_by, Option, Some, None}
use Rattle.std.specs.List.{AllByRecursion as Each, AllZip}
use Rattle.params.specs.declared.TheConstants.{UDP_HEADER, OUTPUT_QUEUE_PACKETS}
use Rattle.flat_model.specs.Fragments.Cuts.{cuts}
use Rattle.flat_model.specs.Machine.Count.{value_of, counter_of, counter_place}
use Rattle.flat_model.specs.Machine.Event.{Event, Reply, IsEvent, Send, Receive, Close, Comes, Transmit, Done, Sent, Received, Given, Refused}
use Rattle.flat_model.specs.Machine.State.{State, Socket, socket_at}
use Rattle.flat_model.specs.Machine.Arrival.{End, Ended, Offered, Stored, Reassembled}
use Rattle.flat_model.specs.Machine.Send.{target}
use Rattle.flat_model.specs.Machine.Sending.{is_looped, mtu_to}
use Rattle.flat_model.specs.Machine.Step.{Step}
use Rattle.flat_model.specs.Machine.Fate.{Fated, Tells}
use Rattle.flat_model.specs.Runs.Consistent.{IsConsistent}
use Rattle.flat_model.specs.declared.address.Addr.{Addr}
use Rattle.flat_model.specs.declared.config.Config.{Config}
use Rattle.flat_model.specs.declared.errno.Errno.TheVariants.{NoBufs}
use Rattle.flat_model.specs.declared.errno.Lack.TheVariants.{Queue}
use Rattle.flat_model.specs.declared.counter.Counter.{Counter}
use Rattle.flat_model.specs.declared.counter.Counter.TheVariants.{IpTotal, IpFragments, IpFragtimeout, IpReclaimed, IpReassembled, Nobufs}
use Rattle.flat_model.specs.declared.counters.Counters.{Counters}
use Rattle.flat_model.specs.declared.counters.Why.{Why}
use Rattle.flat_model.specs.declared.counters.Why.TheVariants.{TooSmall, BadVersion, BadHeaderLength, Options, BadSum, BadLength, TooShort, CantForward, BadFragment, FragmentDropped, NoProtocol, UdpHeaderDrops, UdpBadLength, UdpBadSum, UdpNoPort, UdpNoPortBroadcast, UdpFullSocket, NoBufs as NoBuffers}
use Rattle.flat_model.specs.declared.fate.Fate.{Fate}
use Rattle.flat_wire.specs.Trail.{PassedStep}

-- ---- places

-- a socket that matches a datagram, and why its copy was lost, or None if the datagram is in its queue
pub record Copy : Type 0 where
  pub fd : ℕ
  pub lack : Option Why

-- where a whole datagram ends: it's dropped for a cause, or each socket that matches gets it or loses its copy
pub data WholePlace : Type 0 where
  Lost : (why : Why) → WholePlace
  Copied : (first : Copy) (more : List Copy) → WholePlace

-- where a packet ends
pub data PacketPlace : Type 0 where
  -- outside: the pool has no buffers for it
  Outside : PacketPlace
  -- it's no fragment, or its header or its size is wrong
  Alone : (whole : WholePlace) → PacketPlace
  -- a fragment that is lost for a cause
  Part : (why : Why) → PacketPlace
  -- a fragment that waits for the others of its datagram; whether it's the first of them
  Waits : (first : Bool) → PacketPlace
  -- a fragment that completes its datagram; whether it's the first of them
  Completes : (first : Bool) (whole : WholePlace) → PacketPlace

-- the ends to which the rules lead there
abbrev pub whole_ends : WholePlace → List End
whole_ends (Lost why) = Ended why ∷ []
whole_ends (Copied first more) =
    map (λ (copy : Copy). Offered (map (λ (copy : Copy). copy.fd) (first ∷ more)) copy.fd copy.lack) (first ∷ more)

abbrev pub ends_at : PacketPlace → List End
ends_at Outside = Ended NoBuffers ∷ []
ends_at (Alone whole) = whole_ends whole
ends_at (Part why) = Ended why ∷ []
ends_at (Waits first) = Stored ∷ []
ends_at (Completes first whole) = map Reassembled (whole_ends whole)

-- ---- what each place counts

-- 1 if the two are the same counter
abbrev pub hits : Counter → Counter → ℕ
hits k c = if counter_place k == counter_place c then 1 else 0

abbrev pub counts_for : Counter → Option Why → ℕ
counts_for k None = 0
counts_for k (Some why) = hits k (counter_of why)

abbrev pub counts_whole : Counter → WholePlace → ℕ
counts_whole k (Lost why) = hits k (counter_of why)
counts_whole k (Copied first more) = counts_for k first.lack + sum_by (λ (copy : Copy). counts_for k copy.lack) more

-- how many more a counter counts for a packet with this place
abbrev pub counts_in : Counter → PacketPlace → ℕ
counts_in k Outside = hits k Nobufs
counts_in k (Alone whole) = hits k IpTotal + counts_whole k whole
counts_in k (Part why) = hits k IpTotal + hits k IpFragments + hits k (counter_of why)
counts_in k (Waits first) = hits k IpTotal + hits k IpFragments
counts_in k (Completes first whole) = hits k IpTotal + hits k IpFragments + hits k IpReassembled + counts_whole k whole

-- all causes
abbrev pub every_cause : List Why
every_cause =
    TooSmall ∷ BadVersion ∷ BadHeaderLength ∷ Options ∷ BadSum ∷ BadLength ∷ TooShort ∷ CantForward ∷ BadFragment
    ∷ FragmentDropped ∷ NoProtocol ∷ UdpHeaderDrops ∷ UdpBadLength ∷ UdpBadSum ∷ UdpNoPort ∷ UdpNoPortBroadcast
    ∷ UdpFullSocket ∷ NoBuffers ∷ []

-- 1 if the copy was lost
abbrev pub loses : Option Why → ℕ
loses None = 0
loses (Some why) = 1

-- how many of a packet, and of the copies of its datagram, were lost
abbrev pub lost_whole : WholePlace → ℕ
lost_whole (Lost why) = 1
lost_whole (Copied first more) = loses first.lack + sum_by (λ (copy : Copy). loses copy.lack) more

abbrev pub lost : PacketPlace → ℕ
lost Outside = 1
lost (Alone whole) = lost_whole whole
lost (Part why) = 1
lost (Waits first) = 0
lost (Completes first whole) = lost_whole whole

-- 1 if it's a fragment that waits
abbrev pub waiting_one : PacketPlace → ℕ
waiting_one (Waits first) = 1
waiting_one _ = 0

-- how many copies were made, beyond the first
abbrev pub copies_whole : WholePlace → ℕ
copies_whole (Lost why) = 0
copies_whole (Copied first more) = length more

abbrev pub extra_copies : PacketPlace → ℕ
extra_copies (Alone whole) = copies_whole whole
extra_copies (Completes first whole) = copies_whole whole
extra_copies _ = 0

-- how many sockets got its datagram
abbrev pub gets : Option Why → ℕ
gets None = 1
gets (Some why) = 0

abbrev pub got_whole : WholePlace → ℕ
got_whole (Lost why) = 0
got_whole (Copied first more) = gets first.lack + sum_by (λ (copy : Copy). gets copy.lack) more

abbrev pub got : PacketPlace → ℕ
got (Alone whole) = got_whole whole
got (Completes first whole) = got_whole whole
got _ = 0

-- 1 if it's the first fragment of its datagram
abbrev pub begins : PacketPlace → ℕ
begins (Waits true) = 1
begins (Completes true whole) = 1
begins _ = 0

-- ---- runs, with the fates that were told

-- a step, and the fate of the packet that arrived, if it was told
pub record ToldStep : Type 0 where
  pub passed : PassedStep
  pub fate : Option Fate

abbrev pub IsTold : PassedStep → Option Fate → Type 0
IsTold p None = Step p.old p.turn.event p.turn.reply p.new
IsTold p (Some fate) = (packet : List ℕ) × (p.turn.event ≡ Comes packet) × (p.turn.reply ≡ Done)
    × Fated p.old packet fate p.new

-- these steps lead from old to new
abbrev pub IsToldRun : State → List ToldStep → State → Type 0
IsToldRun old [] new = new ≡ old
IsToldRun old (p ∷ later) new =
    (p.passed.old ≡ old) × IsEvent p.passed.turn.event × IsTold p.passed p.fate × IsToldRun p.passed.new later new

-- the send used an identification: it succeeded, or the output queue was full
abbrev pub went : Reply → Bool
went (Sent n) = true
went (Refused (NoBufs Queue)) = true
went _ = false

-- the number of packets of n bytes to this address
abbrev pub packets_of_send : Config → ℕ → ℕ → ℕ
packets_of_send c ip n = length (cuts (UDP_HEADER + n) (mtu_to c ip))

-- how many packets of a send come back: all of one to this host, and the copy of a broadcast
abbrev pub comes_back : State → Option Socket → Option Addr → ℕ → ℕ
comes_back s None to n = 0
comes_back s (Some me) to n =
    let ip : ℕ = (target s me to).ip in
    if is_looped s.config ip || (ip == s.config.bcast) then packets_of_send s.config ip n else 0

-- how many are for the link
abbrev pub goes_out : State → Option Socket → Option Addr → ℕ → ℕ
goes_out s None to n = 0
goes_out s (Some me) to n =
    let ip : ℕ = (target s me to).ip in if is_looped s.config ip then 0 else packets_of_send s.config ip n

-- how many packets arrive in a step
abbrev pub arrived_in : State → Event → Reply → ℕ
arrived_in s (Comes packet) reply = 1
arrived_in s (Send fd to bytes) reply = if went reply then comes_back s (socket_at fd s) to (length bytes) else 0
arrived_in s _ reply = 0

abbrev pub arrivals : ToldStep → ℕ
arrivals p = arrived_in p.passed.old p.passed.turn.event p.passed.turn.reply

-- how many packets of a step are for the link
abbrev pub sent_in : State → Event → Reply → ℕ
sent_in s (Send fd to bytes) reply = if went reply then goes_out s (socket_at fd s) to (length bytes) else 0
sent_in s _ reply = 0

abbrev pub packets_sent : ToldStep → ℕ
packets_sent p = sent_in p.passed.old p.passed.turn.event p.passed.turn.reply

-- how many of these the output queue had no space for
abbrev pub refused : ToldStep → ℕ
refused p = length p.passed.old.output + packets_sent p - OUTPUT_QUEUE_PACKETS

-- a packet was given to the link
abbrev pub given_by : Event → Reply → ℕ
given_by Transmit (Given (Some packet)) = 1
given_by _ _ = 0

abbrev pub packets_given : ToldStep → ℕ
packets_given p = given_by p.passed.turn.event p.passed.turn.reply

-- the places of the packets that arrived in a step: the fate that was told agrees with them
pub record ArePlaced (p : ToldStep) (places : List PacketPlace) : Type 0 where
  pub number : length places ≡ arrivals p
  pub told : (fate : Fate) → p.fate ≡ Some fate → Each (λ place. Each (Tells fate) (ends_at place)) places

-- ---- the sums

-- of all places of a run
abbrev pub total : (PacketPlace → ℕ) → List (List PacketPlace) → ℕ
total count places = sum_by (λ (xs : List PacketPlace). sum_by count xs) places

-- a datagram was read
abbrev pub read_by : Event → Reply → ℕ
read_by (Receive fd most) (Received sender bytes) = 1
read_by _ _ = 0

abbrev pub datagrams_read : ToldStep → ℕ
datagrams_read p = read_by p.passed.turn.event p.passed.turn.reply

-- the datagrams in the queue of a socket that is closed
abbrev pub waiting_at : Option Socket → ℕ
waiting_at None = 0
waiting_at (Some me) = length me.queue

abbrev pub closed_in_event : State → Event → ℕ
closed_in_event s (Close fd) = waiting_at (socket_at fd s)
closed_in_event s _ = 0

abbrev pub closed_away : ToldStep → ℕ
closed_away p = closed_in_event p.passed.old p.passed.turn.event

-- the datagrams in all queues
abbrev pub in_queues : State → ℕ
in_queues s = sum_by (λ (socket : Socket). length socket.queue) s.sockets

-- the unfinished datagrams that ended: completed, expired, or dropped to free their buffers
abbrev pub ended_datagrams : Counters → ℕ
ended_datagrams c = value_of IpReassembled c + value_of IpFragtimeout c + value_of IpReclaimed c

-- all that the counters of causes count
abbrev pub dropped : Counters → ℕ
dropped c = sum_by (λ why. value_of (counter_of why) c) every_cause

-- how many more this counter counts is what these places count
abbrev pub IsCountedIn : List (List PacketPlace) → State → State → Counter → Type 0
IsCountedIn places old new k = value_of k new.counters ≡ value_of k old.counters + total (counts_in k) places

pub record AddsUp (run : List ToldStep) (places : List (List PacketPlace)) (old new : State) : Type 0 where
  -- each counter of a cause counts the packets, and the copies, that were lost for it
  pub causes : (why : Why) → IsCountedIn places old new (counter_of why)
  pub packets : IsCountedIn places old new IpTotal
  pub fragments : IsCountedIn places old new IpFragments
  pub completed : IsCountedIn places old new IpReassembled
  -- what arrived, and the copies that were made, was lost for a cause, waits or waited for other fragments, or was got
  pub sum : sum_by arrivals run + total extra_copies places
      ≡ total lost places + total waiting_one places + total got places
  pub dropped : dropped new.counters ≡ dropped old.counters + total lost places
  -- each datagram that a socket got was read, was closed away with its socket, or is in a queue
  pub datagrams : in_queues old + total got places ≡ sum_by datagrams_read run + sum_by closed_away run + in_queues new
  -- each datagram whose first fragment waited was completed, expired, was reclaimed, or is unfinished
  pub unfinished : length old.unfinished + ended_datagrams old.counters + total begins places
      ≡ ended_datagrams new.counters + length new.unfinished
  -- each packet for the link was given to it, waits in the output queue, or found it full
  pub output : length old.output + sum_by packets_sent run
      ≡ sum_by packets_given run + length new.output + sum_by refused run

-- no counter has stopped at its greatest value
abbrev pub IsCounting : Counters → Type 0
IsCounting c = (k : Counter) → value_of k c < 2 ^ 64 - 1

-- This holds for each run, from any state that a machine reaches; from boot all counters begin at 0.
abbrev pub ConservationLaw : Type 0
ConservationLaw = (run : List ToldStep) (old new : State) → IsConsistent old → IsToldRun old run new
    → IsCounting new.counters
    → (places : List (List PacketPlace)) × AllZip ArePlaced run places × AddsUp run places old new
