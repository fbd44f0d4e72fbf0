-- The calls of `src/laws_on_a_wire.rt`, and the laws of whole runs.
use Rattle.std.proofs.Common.{◌≡◌, ℕ, zero, suc, ◌+◌, ◌-◌, ◌<◌, ◌≤◌, ◌^◌, List, [], ◌∷◌, ◌++◌, length, refl, sym, ap, ◌∙◌, subst, arith, Option, Some, None}
use Rattle.std.specs.Prelude.{All, Contains, filter_map, true}
use Rattle.std.specs.List.{AllByRecursion as Each, AllZip}
use Rattle.std.proofs.lemmas.List.{length-append}
use Rattle.std.proofs.lemmas.List.Elements.{recursion_from_All, All-from_recursion}
use Rattle.flat_model.specs.Fragments.Cuts.{Part}
use Rattle.flat_model.specs.Machine.Arrival.{is_fragment, key_of}
use Rattle.flat_model.specs.Packets.Header.{head_of}
use Rattle.flat_model.specs.Machine.Count.{counter_of, no_counts, value_of}
use Rattle.flat_model.specs.Machine.Event.{Event, Reply, IsEvent, Open, Bind, Comes, Transmit, Tick, Done, Given}
use Rattle.flat_model.specs.Machine.Fate.{Fated, Tells}
use Rattle.flat_model.specs.Machine.Ledger.{exact_ledger}
use Rattle.flat_model.specs.Machine.Sending.{packet_for}
use Rattle.flat_model.specs.Machine.State.{State, Key, Unfinished}
use Rattle.flat_model.specs.Machine.Step.{Step}
use Rattle.flat_model.specs.Runs.Consistent.{IsConsistent}
use Rattle.flat_model.specs.Runs.Run.{Turn, Run}
use Rattle.flat_model.specs.declared.address.Addr.{Addr}
use Rattle.flat_model.specs.declared.config.Config.{Config}
use Rattle.flat_model.specs.declared.counter.Counter.TheVariants.{IpReclaimed, Nobufs}
use Rattle.flat_model.specs.declared.counters.Counters.{Counters}
use Rattle.flat_model.specs.declared.counters.Why.{Why}
use Rattle.flat_model.specs.declared.counters.Why.TheVariants.{TooSmall, BadVersion, BadHeaderLength, Options, BadSum, BadLength, TooShort, CantForward, BadFragment, FragmentDropped, NoProtocol, UdpHeaderDrops, UdpBadLength, UdpBadSum, UdpNoPort, UdpNoPortBroadcast, UdpFullSocket, NoBufs}
use Rattle.flat_model.specs.declared.fate.Fate.{Fate}
use Rattle.flat_model.proofs.Laws.{each-weaker}
use Rattle.flat_wire.specs.Age.{AgeLaw, CanBegin, IsAsOld, ticks_in}
use Rattle.flat_wire.specs.Places.{ArePlaced, ConservationLaw, IsCounting, PacketPlace, ToldStep, counts_in, ends_at, total}
use Rattle.flat_wire.specs.Progress.{AllArriveOf, IsCompleted, ProgressLaw, key_for, parts}
use Rattle.flat_wire.specs.Queue.{KeepsOrder, QueueLaw, packets_in_queue}
use Rattle.flat_wire.specs.Wire.{packet_out}
use Rattle.callers.specs.Runs.{AreFirstGiven, AreTwoParts, IsAccountedFor, arrives}

-- ---- conservation

at_boot : (why : Why) → value_of (counter_of why) no_counts ≡ 0
at_boot TooSmall = refl
at_boot BadVersion = refl
at_boot BadHeaderLength = refl
at_boot Options = refl
at_boot BadSum = refl
at_boot BadLength = refl
at_boot TooShort = refl
at_boot CantForward = refl
at_boot BadFragment = refl
at_boot FragmentDropped = refl
at_boot NoProtocol = refl
at_boot UdpHeaderDrops = refl
at_boot UdpBadLength = refl
at_boot UdpBadSum = refl
at_boot UdpNoPort = refl
at_boot UdpNoPortBroadcast = refl
at_boot UdpFullSocket = refl
at_boot NoBufs = refl

abbrev told : State → Event → Reply → Option Fate → State → ToldStep
told old event reply fate new =
    record { passed = record { old = old; turn = record { event = event; reply = reply }; new = new }; fate = fate }

module _ (s0 s1 s2 s3 : State) (a : Addr) (opened bound : Reply) (packet : List ℕ) (fate : Fate) where
  abbrev run : List ToldStep
  run =
      told s0 Open opened None s1 ∷ told s1 (Bind 3 a) bound None s2
      ∷ told s2 (Comes packet) Done (Some fate) s3 ∷ []

  abbrev HasPlace : Counters → Type 0
  HasPlace counters = (place : PacketPlace) × Each (Tells fate) (ends_at place)
      × ((why : Why) → value_of (counter_of why) counters ≡ counts_in (counter_of why) place)

  one_packet : (xs ys zs : List PacketPlace) → length xs ≡ 0 → length ys ≡ 0
      → ArePlaced (told s2 (Comes packet) Done (Some fate) s3) zs
      → s0.counters ≡ no_counts
      → ((why : Why) → value_of (counter_of why) s3.counters
      ≡ value_of (counter_of why) s0.counters + total (counts_in (counter_of why)) (xs ∷ ys ∷ zs ∷ []))
      → (counters : Counters) → counters ≡ s3.counters → HasPlace counters
  one_packet (x ∷ xs) ys zs none_x none_y placed none causes counters same = absurd (omega (arith, none_x))
  one_packet [] (y ∷ ys) zs none_x none_y placed none causes counters same = absurd (omega (arith, none_y))
  one_packet [] [] [] none_x none_y placed none causes counters same = absurd (omega (arith, placed.number))
  one_packet [] [] (p ∷ q ∷ more) none_x none_y placed none causes counters same =
      absurd (omega (arith, placed.number))
  one_packet [] [] (p ∷ []) none_x none_y placed none causes counters same = (
    p,
    (placed.told fate refl).0,
    λ why. omega (
      arith,
      causes why,
      ap (value_of (counter_of why)) same,
      ap (value_of (counter_of why)) none,
      at_boot why,
    ),
  )

  one_place : (places : List (List PacketPlace)) → AllZip ArePlaced run places → s0.counters ≡ no_counts
      → ((why : Why) → value_of (counter_of why) s3.counters
      ≡ value_of (counter_of why) s0.counters + total (counts_in (counter_of why)) places)
      → (counters : Counters) → counters ≡ s3.counters → HasPlace counters
  one_place [] zipped none causes counters same = absurd zipped
  one_place (xs ∷ []) zipped none causes counters same = absurd zipped.1
  one_place (xs ∷ ys ∷ []) zipped none causes counters same = absurd zipped.1.1
  one_place (xs ∷ ys ∷ zs ∷ vs ∷ more) zipped none causes counters same = absurd zipped.1.1.1
  one_place (xs ∷ ys ∷ zs ∷ []) zipped none causes counters same =
      one_packet xs ys zs zipped.0.number zipped.1.0.number zipped.1.1.0 none causes counters same

  pub accounted : ConservationLaw → IsConsistent s0 → s0.counters ≡ no_counts → IsEvent (Bind 3 a)
      → IsEvent (Comes packet)
      → Step s0 Open opened s1 → Step s1 (Bind 3 a) bound s2 → Fated s2 packet fate s3
      → (counters : Counters) → counters ≡ s3.counters → IsAccountedFor fate counters
  accounted law is none port bytes opens binds fated counters same counting =
      let r = law run s0 s3 is
      (refl, tt, opens, (refl, port, binds, (refl, bytes, (packet, refl, refl, fated), refl)))
      (subst IsCounting same counting) in
      one_place r.0 r.1 none (λ why. r.2.causes why) counters same

-- ---- order

abbrev first_of : List (List ℕ) → List ℕ
first_of [] = []
first_of (x ∷ xs) = x

abbrev second_of : List (List ℕ) → List ℕ
second_of [] = []
second_of (x ∷ xs) = first_of xs

pub first_two : QueueLaw exact_ledger → (s0 s1 s2 s3 : State) (packet : List ℕ) (first second : Reply)
    → length s0.output ≤ 50 → IsEvent (Comes packet) → Step s0 Transmit first s1 → Step s1 (Comes packet) Done s2
    → Step s2 Transmit second s3 → AreFirstGiven s0.output first second
first_two law s0 s1 s2 s3 packet first second short bytes one comes two a b p q more waits is_one is_two =
    let turns : List Turn =
    record { event = Transmit; reply = first } ∷ arrives packet ∷ record { event = Transmit; reply = second } ∷ [] in
    let k : KeepsOrder (packets_in_queue s0.output) (filter_map packet_out turns) (packets_in_queue s3.output) =
    law s0 s3 turns short (tt, s1, one, (bytes, s2, comes, (tt, s3, two, refl))) in
    let given : filter_map packet_out turns ≡ p ∷ q ∷ [] =
    ap (λ r. filter_map packet_out (record { event = Transmit; reply = r } ∷ arrives packet
    ∷ record { event = Transmit; reply = second } ∷ [])) is_one
    ∙ ap (λ r. filter_map packet_out (record { event = Transmit; reply = Given (Some p) } ∷ arrives packet
    ∷ record { event = Transmit; reply = r } ∷ [])) is_two in
    let whole : a ∷ b ∷ (more ++ k.later) ≡ p ∷ q ∷ packets_in_queue s3.output =
    sym (ap (λ xs. xs ++ k.later) waits) ∙ k.same ∙ ap (λ xs. xs ++ packets_in_queue s3.output) given in
    (sym (ap first_of whole), sym (ap second_of whole))

-- ---- age

abbrev event_at : List Turn → Event
event_at [] = Open
event_at (x ∷ []) = Open
event_at (x ∷ y ∷ more) = y.event

abbrev rest_of : List Turn → List Turn
rest_of [] = []
rest_of (x ∷ xs) = xs

pub one_tick : (packet : List ℕ) (key : Key) (left : ℕ)
    → IsAsOld (arrives packet ∷ record { event = Tick; reply = Done } ∷ []) key left → left ≡ 59
one_tick packet key left a = go a.before a.turn a.after a.turns_are a.begins a.age
  where
    go : (before : List Turn) (turn : Turn) (after : List Turn)
        → arrives packet ∷ record { event = Tick; reply = Done } ∷ [] ≡ before ++ turn ∷ after
        → CanBegin turn.event key → ticks_in after + left ≡ 60 → left ≡ 59
    go [] turn after e begins age = omega (arith, age, ap (λ ts. ticks_in (rest_of ts)) e)
    go (x ∷ []) turn after e begins age = absurd (subst (λ event. CanBegin event key) (sym (ap event_at e)) begins)
    go (x ∷ y ∷ more) turn after e begins age =
        absurd (omega (arith, ap length e, length-append more (turn ∷ after)))

pub ticks_left : AgeLaw exact_ledger → (config : Config) (packet : List ℕ) (s : State)
    → Run config (arrives packet ∷ record { event = Tick; reply = Done } ∷ []) s
    → All (λ (u : Unfinished). u.ticks ≡ 59) s.unfinished
ticks_left law config packet s run =
    All-from_recursion (λ (u : Unfinished). u.ticks ≡ 59) s.unfinished
    (each-weaker (λ u a. one_tick packet u.key u.ticks a) s.unfinished
    (recursion_from_All (λ u. IsAsOld (arrives packet ∷ record { event = Tick; reply = Done } ∷ []) u.key u.ticks)
    s.unfinished (law config (arrives packet ∷ record { event = Tick; reply = Done } ∷ []) s run)))

-- ---- progress

module _ (s : State) (first second : List ℕ) (p : AreTwoParts s first second) where
  both_arrive : AllArriveOf p.sending p.mtu (arrives second ∷ arrives first ∷ [])
  both_arrive = record { unforged = unforged; all = all }
    where
      unforged : (packet : List ℕ) → Contains (second ∷ first ∷ []) packet
          → key_of (head_of packet) ≡ key_for p.sending → is_fragment (head_of packet) ≡ true
          → (q : Part) × Contains (parts p.sending p.mtu) q × (packet ≡ packet_for p.sending q)
      unforged packet (zero, few, is) key part =
          (p.two, subst (λ ps. Contains ps p.two) (sym p.are) (1, omega arith, refl), sym is ∙ p.second_is)
      unforged packet (suc zero, few, is) key part =
          (p.one, subst (λ ps. Contains ps p.one) (sym p.are) (0, omega arith, refl), sym is ∙ p.first_is)
      unforged packet (suc (suc k), few, is) key part = absurd (omega (arith, few))

      all : (q : Part) → Contains (parts p.sending p.mtu) q → Contains (second ∷ first ∷ []) (packet_for p.sending q)
      all q has = go (subst (λ ps. Contains ps q) p.are has)
        where
          go : Contains (p.one ∷ p.two ∷ []) q → Contains (second ∷ first ∷ []) (packet_for p.sending q)
          go (zero, few, is) = (1, omega arith, p.first_is ∙ ap (packet_for p.sending) is)
          go (suc zero, few, is) = (0, omega arith, p.second_is ∙ ap (packet_for p.sending) is)
          go (suc (suc k), few, is) = absurd (omega (arith, few))

  pub completed : ProgressLaw → (mid new : State) → IsEvent (Comes second) → IsEvent (Comes first)
      → Step s (Comes second) Done mid → Step mid (Comes first) Done new
      → value_of IpReclaimed new.counters ≡ value_of IpReclaimed s.counters
      → value_of Nobufs new.counters ≡ value_of Nobufs s.counters
      → value_of IpReclaimed new.counters < 2 ^ 64 - 1 → value_of Nobufs new.counters < 2 ^ 64 - 1
      → IsCompleted exact_ledger p.sending s new (arrives second ∷ arrives first ∷ [])
  completed law mid new second_is first_is one two reclaims buffers reclaims_count buffers_count =
      law p.sending p.mtu s new (arrives second ∷ arrives first ∷ []) (record {
        sending = p.is;
        cut = omega (arith, ap length p.are);
        consistent = p.consistent;
        here = p.here;
        other = p.other;
        fresh = p.fresh;
        leads = (second_is, mid, one, (first_is, new, two, refl));
        arrive = both_arrive;
        soon = omega arith;
        reclaims = reclaims;
        reclaims_count = reclaims_count;
        buffers = buffers;
        buffers_count = buffers_count;
      })
