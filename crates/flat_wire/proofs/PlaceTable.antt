-- What the places count: each cause is counted once.
use Rattle.std.proofs.Common.{◌≡◌, ℕ, ◌+◌, List, [], ◌∷◌, refl, sym, ◌∙◌, ap, arith, Option, Some, None}
use Rattle.std.specs.Prelude.{sum_by}
use Rattle.std.proofs.lemmas.List.Sums.{sum_by-cons}
use Rattle.flat_model.specs.Machine.Count.{value_of, counter_of}
use Rattle.flat_model.specs.declared.counter.Counter.{Counter}
use Rattle.flat_model.specs.declared.counter.Counter.TheVariants.{IpTotal, IpFragments, IpFragtimeout, IpReclaimed, IpReassembled}
use Rattle.flat_model.specs.declared.counters.Counters.{Counters}
use Rattle.flat_model.specs.declared.counters.Why.{Why}
use Rattle.flat_model.specs.declared.counters.Why.TheVariants.{TooSmall, BadVersion, BadHeaderLength, Options, BadSum, BadLength, TooShort, CantForward, BadFragment, FragmentDropped, NoProtocol, UdpHeaderDrops, UdpBadLength, UdpBadSum, UdpNoPort, UdpNoPortBroadcast, UdpFullSocket, NoBufs}
use Rattle.flat_wire.specs.Places.{Copy, PacketPlace, Lost, Copied, Outside, Alone, Part, Waits, Completes, WholePlace, counts_for, counts_in, counts_whole, extra_copies, copies_whole, every_cause, dropped, gets, got_whole, loses, lost, lost_whole, waiting_one, got, hits, total}
use Rattle.flat_wire.proofs.Tallies.{length-sum}
use Rattle.flat_wire.proofs.Moves.{at}
use Rattle.flat_wire.proofs.Accounting.{sent_counts}
use Rattle.flat_wire.proofs.Placing.{completes}

-- ---- which counters count what

-- no cause is counted by these
pub apart_from_causes : (why : Why) (expires out parts full r : ℕ)
    → (sent_counts (counter_of why) expires out parts full ≡ 0) × (at (counter_of why) IpReclaimed r ≡ 0)
    × (hits IpReassembled (counter_of why) ≡ 0) × (hits IpFragtimeout (counter_of why) ≡ 0)
    × (hits IpReclaimed (counter_of why) ≡ 0)
apart_from_causes TooSmall expires out parts full r = (refl, refl, refl, refl, refl)
apart_from_causes BadVersion expires out parts full r = (refl, refl, refl, refl, refl)
apart_from_causes BadHeaderLength expires out parts full r = (refl, refl, refl, refl, refl)
apart_from_causes Options expires out parts full r = (refl, refl, refl, refl, refl)
apart_from_causes BadSum expires out parts full r = (refl, refl, refl, refl, refl)
apart_from_causes BadLength expires out parts full r = (refl, refl, refl, refl, refl)
apart_from_causes TooShort expires out parts full r = (refl, refl, refl, refl, refl)
apart_from_causes CantForward expires out parts full r = (refl, refl, refl, refl, refl)
apart_from_causes BadFragment expires out parts full r = (refl, refl, refl, refl, refl)
apart_from_causes FragmentDropped expires out parts full r = (refl, refl, refl, refl, refl)
apart_from_causes NoProtocol expires out parts full r = (refl, refl, refl, refl, refl)
apart_from_causes UdpHeaderDrops expires out parts full r = (refl, refl, refl, refl, refl)
apart_from_causes UdpBadLength expires out parts full r = (refl, refl, refl, refl, refl)
apart_from_causes UdpBadSum expires out parts full r = (refl, refl, refl, refl, refl)
apart_from_causes UdpNoPort expires out parts full r = (refl, refl, refl, refl, refl)
apart_from_causes UdpNoPortBroadcast expires out parts full r = (refl, refl, refl, refl, refl)
apart_from_causes UdpFullSocket expires out parts full r = (refl, refl, refl, refl, refl)
apart_from_causes NoBufs expires out parts full r = (refl, refl, refl, refl, refl)

sum-same_by : {X : Type 0} (f g : X → ℕ) → ((x : X) → f x ≡ g x) → (xs : List X) → sum_by f xs ≡ sum_by g xs
sum-same_by f g same [] = refl
sum-same_by f g same (x ∷ xs) =
    omega (arith, same x, sum-same_by f g same xs, sum_by-cons f x xs, sum_by-cons g x xs)

sum-zero : {X : Type 0} (xs : List X) → sum_by (λ x. 0) xs ≡ 0
sum-zero [] = refl
sum-zero (x ∷ xs) = omega (arith, sum-zero xs, sum_by-cons (λ x. 0) x xs)

pub total_same : (f g : PacketPlace → ℕ) → ((p : PacketPlace) → f p ≡ g p) → (places : List (List PacketPlace))
    → total f places ≡ total g places
total_same f g same places =
    sum-same_by (λ xs. sum_by f xs) (λ xs. sum_by g xs) (λ xs. sum-same_by f g same xs) places

pub total_zero : (places : List (List PacketPlace)) → total (λ p. 0) places ≡ 0
total_zero places =
    sum-same_by (λ (xs : List PacketPlace). sum_by (λ p. 0) xs) (λ xs. 0) (λ xs. sum-zero xs) places ∙ sum-zero places

module _ (k : Counter) (never : (why : Why) → hits k (counter_of why) ≡ 0) where
  never_for : (lack : Option Why) → counts_for k lack ≡ 0
  never_for None = refl
  never_for (Some why) = never why

  never_whole : (whole : WholePlace) → counts_whole k whole ≡ 0
  never_whole (Lost why) = never why
  never_whole (Copied first more) =
      omega (
        arith,
        never_for first.lack,
        sum-same_by (λ (copy : Copy). counts_for k copy.lack) (λ copy. 0)
            (λ copy. never_for copy.lack) more,
        sum-zero more,
      )

pub completes_counts : (p : PacketPlace) → counts_in IpReassembled p ≡ completes p
completes_counts Outside = refl
completes_counts (Alone whole) =
    omega (arith, never_whole IpReassembled (λ why. (apart_from_causes why 0 0 0 0 0).2) whole)
completes_counts (Part why) = omega (arith, (apart_from_causes why 0 0 0 0 0).2)
completes_counts (Waits first) = refl
completes_counts (Completes first whole) =
    omega (arith, never_whole IpReassembled (λ why. (apart_from_causes why 0 0 0 0 0).2) whole)

pub expires_counts : (p : PacketPlace) → counts_in IpFragtimeout p ≡ 0
expires_counts Outside = refl
expires_counts (Alone whole) =
    omega (arith, never_whole IpFragtimeout (λ why. (apart_from_causes why 0 0 0 0 0).3) whole)
expires_counts (Part why) = omega (arith, (apart_from_causes why 0 0 0 0 0).3)
expires_counts (Waits first) = refl
expires_counts (Completes first whole) =
    omega (arith, never_whole IpFragtimeout (λ why. (apart_from_causes why 0 0 0 0 0).3) whole)

pub reclaims_counts : (p : PacketPlace) → counts_in IpReclaimed p ≡ 0
reclaims_counts Outside = refl
reclaims_counts (Alone whole) =
    omega (arith, never_whole IpReclaimed (λ why. (apart_from_causes why 0 0 0 0 0).4) whole)
reclaims_counts (Part why) = omega (arith, (apart_from_causes why 0 0 0 0 0).4)
reclaims_counts (Waits first) = refl
reclaims_counts (Completes first whole) =
    omega (arith, never_whole IpReclaimed (λ why. (apart_from_causes why 0 0 0 0 0).4) whole)

-- ---- the causes that a place counts are the packets and copies that were lost

one_cause : (why : Why) → sum_by (λ w. hits (counter_of w) (counter_of why)) every_cause ≡ 1
one_cause TooSmall = refl
one_cause BadVersion = refl
one_cause BadHeaderLength = refl
one_cause Options = refl
one_cause BadSum = refl
one_cause BadLength = refl
one_cause TooShort = refl
one_cause CantForward = refl
one_cause BadFragment = refl
one_cause FragmentDropped = refl
one_cause NoProtocol = refl
one_cause UdpHeaderDrops = refl
one_cause UdpBadLength = refl
one_cause UdpBadSum = refl
one_cause UdpNoPort = refl
one_cause UdpNoPortBroadcast = refl
one_cause UdpFullSocket = refl
one_cause NoBufs = refl

sum-plus : {X : Type 0} (f g : X → ℕ) (xs : List X) → sum_by (λ x. f x + g x) xs ≡ sum_by f xs + sum_by g xs
sum-plus f g [] = refl
sum-plus f g (x ∷ xs) =
    omega (arith, sum-plus f g xs, sum_by-cons (λ x. f x + g x) x xs, sum_by-cons f x xs, sum_by-cons g x xs)

sum-swapped : {X Y : Type 0} (f : Y → X → ℕ) (ys : List Y) (xs : List X)
    → sum_by (λ y. sum_by (f y) xs) ys ≡ sum_by (λ x. sum_by (λ y. f y x) ys) xs
sum-swapped f ys [] = sum-zero ys
sum-swapped f ys (x ∷ xs) =
    sum-same_by (λ y. sum_by (f y) (x ∷ xs)) (λ y. f y x + sum_by (f y) xs) (λ y. sum_by-cons (f y) x xs) ys
    ∙ sum-plus (λ y. f y x) (λ y. sum_by (f y) xs) ys
    ∙ ap (λ n. sum_by (λ y. f y x) ys + n) (sum-swapped f ys xs)
    ∙ sym (sum_by-cons (λ x. sum_by (λ y. f y x) ys) x xs)

copy_loses : (lack : Option Why) → sum_by (λ w. counts_for (counter_of w) lack) every_cause ≡ loses lack
copy_loses None = refl
copy_loses (Some why) = one_cause why

whole_loses : (whole : WholePlace) → sum_by (λ w. counts_whole (counter_of w) whole) every_cause ≡ lost_whole whole
whole_loses (Lost why) = one_cause why
whole_loses (Copied first more) =
    sum-plus (λ w. counts_for (counter_of w) first.lack)
    (λ w. sum_by (λ (copy : Copy). counts_for (counter_of w) copy.lack) more) every_cause
    ∙ omega (
      arith,
      copy_loses first.lack,
      sum-swapped (λ w (copy : Copy). counts_for (counter_of w) copy.lack) every_cause more,
      sum-same_by (λ (copy : Copy). sum_by (λ w. counts_for (counter_of w) copy.lack) every_cause)
          (λ (copy : Copy). loses copy.lack) (λ copy. copy_loses copy.lack) more,
    )

place_loses : (p : PacketPlace) → sum_by (λ w. counts_in (counter_of w) p) every_cause ≡ lost p
place_loses Outside = refl
place_loses (Alone whole) =
    sum-plus (λ w. hits (counter_of w) IpTotal) (λ w. counts_whole (counter_of w) whole) every_cause
    ∙ omega (arith, whole_loses whole)
place_loses (Part why) =
    sum-plus (λ w. hits (counter_of w) IpTotal + hits (counter_of w) IpFragments)
    (λ w. hits (counter_of w) (counter_of why)) every_cause
    ∙ omega (arith, one_cause why)
place_loses (Waits first) = refl
place_loses (Completes first whole) =
    sum-plus (λ w. hits (counter_of w) IpTotal + hits (counter_of w) IpFragments + hits (counter_of w) IpReassembled)
    (λ w. counts_whole (counter_of w) whole) every_cause
    ∙ omega (arith, whole_loses whole)

pub all_lost : (places : List (List PacketPlace))
    → sum_by (λ w. total (counts_in (counter_of w)) places) every_cause ≡ total lost places
all_lost places =
    sum-swapped (λ w (xs : List PacketPlace). sum_by (counts_in (counter_of w)) xs) every_cause places
    ∙ sum-same_by (λ (xs : List PacketPlace). sum_by (λ w. sum_by (counts_in (counter_of w)) xs) every_cause)
    (λ xs. sum_by lost xs) (λ xs. sum-swapped (λ w. counts_in (counter_of w)) every_cause xs
    ∙ sum-same_by (λ p. sum_by (λ w. counts_in (counter_of w) p) every_cause) lost place_loses xs) places

pub all_dropped : (old new : Counters) (places : List (List PacketPlace))
    → ((why : Why) → value_of (counter_of why) new ≡ value_of (counter_of why) old
    + total (counts_in (counter_of why)) places) → dropped new ≡ dropped old + total lost places
all_dropped old new places each =
    sum-same_by (λ w. value_of (counter_of w) new)
    (λ w. value_of (counter_of w) old + total (counts_in (counter_of w)) places) each every_cause
    ∙ sum-plus (λ w. value_of (counter_of w) old) (λ w. total (counts_in (counter_of w)) places) every_cause
    ∙ ap (λ n. dropped old + n) (all_lost places)

-- ---- each packet, and each copy, was lost, waits, or was got

one_or_other : (lack : Option Why) → loses lack + gets lack ≡ 1
one_or_other None = refl
one_or_other (Some why) = refl

whole_sum : (whole : WholePlace) → 1 + copies_whole whole ≡ lost_whole whole + got_whole whole
whole_sum (Lost why) = refl
whole_sum (Copied first more) =
    omega (
      arith,
      one_or_other first.lack,
      sum-plus (λ (copy : Copy). loses copy.lack) (λ (copy : Copy). gets copy.lack) more,
      sum-same_by (λ (copy : Copy). loses copy.lack + gets copy.lack) (λ copy. 1) (λ copy. one_or_other copy.lack)
          more,
      length-sum more,
    )

place_sum : (p : PacketPlace) → 1 + extra_copies p ≡ lost p + waiting_one p + got p
place_sum Outside = refl
place_sum (Alone whole) = omega (arith, whole_sum whole)
place_sum (Part why) = refl
place_sum (Waits first) = refl
place_sum (Completes first whole) = omega (arith, whole_sum whole)

total_plus : (f g : PacketPlace → ℕ) (places : List (List PacketPlace)) → total (λ p. f p + g p) places
    ≡ total f places + total g places
total_plus f g places =
    sum-same_by (λ (xs : List PacketPlace). sum_by (λ p. f p + g p) xs) (λ xs. sum_by f xs + sum_by g xs)
    (λ xs. sum-plus f g xs) places
    ∙ sum-plus (λ (xs : List PacketPlace). sum_by f xs) (λ xs. sum_by g xs) places

pub all_placed : (places : List (List PacketPlace)) → total (λ p. 1) places + total extra_copies places
    ≡ total lost places + total waiting_one places + total got places
all_placed places =
    omega (
      arith,
      total_same (λ p. 1 + extra_copies p) (λ p. lost p + waiting_one p + got p) place_sum places,
      total_plus (λ p. 1) extra_copies places,
      total_plus (λ p. lost p + waiting_one p) got places,
      total_plus lost waiting_one places,
    )
