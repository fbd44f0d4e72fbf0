-- The counters of the causes: each has its own, and none is that of something else.
use Rattle.std.proofs.Common.{◌≡◌, ℕ, ◌∷◌, [], List, Option, Some, None, cond, eqb, refl, sym, ap, ◌∙◌}
use Rattle.std.specs.Prelude.{◌≢◌, find}
use Rattle.std.proofs.lemmas.Bool.{cond-true, cond-false, eq-eqb, ne_eqb}
use Rattle.std.proofs.lemmas.Option.{none-some, same_Some}
use Rattle.flat_model.specs.Machine.Count.{counted, counter_of, counter_place, counts_more, more_by, value_of}
use Rattle.flat_model.specs.Machine.State.{State, ends}
use Rattle.flat_model.specs.declared.counter.Counter.{Counter}
use Rattle.flat_model.specs.declared.counter.Counter.TheVariants.{IpTotal, IpToosmall, IpBadvers, IpBadhlen, IpOptions, IpBadsum, IpBadlen, IpTooshort, IpCantforward, IpBadfrag, IpFragments, IpFragdropped, IpFragtimeout, IpReclaimed, IpReassembled, IpNoproto, UdpHdrops, UdpBadlen, UdpBadsum, UdpNoport, UdpNoportbcast, UdpFullsock, IpLocalout, IpFragmented, OutDropped, Nobufs}
use Rattle.flat_model.specs.declared.counters.Counters.{Counters}
use Rattle.flat_model.specs.declared.counters.Why.{Why}
use Rattle.flat_model.specs.declared.counters.Why.TheVariants.{TooSmall, BadVersion, BadHeaderLength, Options, BadSum, BadLength, TooShort, CantForward, BadFragment, FragmentDropped, NoProtocol, UdpHeaderDrops, UdpBadLength, UdpBadSum, UdpNoPort, UdpNoPortBroadcast, UdpFullSocket, NoBufs}
use Rattle.flat_fate.specs.Counted.{CountsFor, CountsLosses, count_for}

-- a counter's value after any of them has grown
value_after : (a b : Counter) (k : ℕ) (c : Counters) → value_of a (counts_more b k c)
    ≡ cond (eqb (counter_place a) (counter_place b)) (more_by k (value_of a c)) (value_of a c)
value_after IpTotal b k c = refl
value_after IpToosmall b k c = refl
value_after IpBadvers b k c = refl
value_after IpBadhlen b k c = refl
value_after IpOptions b k c = refl
value_after IpBadsum b k c = refl
value_after IpBadlen b k c = refl
value_after IpTooshort b k c = refl
value_after IpCantforward b k c = refl
value_after IpBadfrag b k c = refl
value_after IpFragments b k c = refl
value_after IpFragdropped b k c = refl
value_after IpFragtimeout b k c = refl
value_after IpReclaimed b k c = refl
value_after IpReassembled b k c = refl
value_after IpNoproto b k c = refl
value_after UdpHdrops b k c = refl
value_after UdpBadlen b k c = refl
value_after UdpBadsum b k c = refl
value_after UdpNoport b k c = refl
value_after UdpNoportbcast b k c = refl
value_after UdpFullsock b k c = refl
value_after IpLocalout b k c = refl
value_after IpFragmented b k c = refl
value_after OutDropped b k c = refl
value_after Nobufs b k c = refl

-- ---- the cause whose counter has this place, if there is one

abbrev causes : List Why
causes =
    TooSmall ∷ BadVersion ∷ BadHeaderLength ∷ Options ∷ BadSum ∷ BadLength ∷ TooShort ∷ CantForward ∷ BadFragment
    ∷ FragmentDropped ∷ NoProtocol ∷ UdpHeaderDrops ∷ UdpBadLength ∷ UdpBadSum ∷ UdpNoPort ∷ UdpNoPortBroadcast
    ∷ UdpFullSocket ∷ NoBufs ∷ []

abbrev cause_at : ℕ → Option Why
cause_at n = find (λ (why : Why). eqb (counter_place (counter_of why)) n) causes

found : (why : Why) → cause_at (counter_place (counter_of why)) ≡ Some why
found TooSmall = refl
found BadVersion = refl
found BadHeaderLength = refl
found Options = refl
found BadSum = refl
found BadLength = refl
found TooShort = refl
found CantForward = refl
found BadFragment = refl
found FragmentDropped = refl
found NoProtocol = refl
found UdpHeaderDrops = refl
found UdpBadLength = refl
found UdpBadSum = refl
found UdpNoPort = refl
found UdpNoPortBroadcast = refl
found UdpFullSocket = refl
found NoBufs = refl

-- ---- counting

-- for something that is no cause
beside : (why : Why) (counter : Counter) (k : ℕ) (c : Counters) → cause_at (counter_place counter) ≡ None
    → value_of (counter_of why) (counts_more counter k c) ≡ value_of (counter_of why) c
beside why counter k c none =
    value_after (counter_of why) counter k c
    ∙ cond-false _ _ _ (ne_eqb (counter_place (counter_of why)) (counter_place counter)
    (λ e. none-some why (sym none ∙ ap cause_at (sym e) ∙ found why)))

pub total_beside : (why : Why) (k : ℕ) (c : Counters)
    → value_of (counter_of why) (counts_more IpTotal k c) ≡ value_of (counter_of why) c
total_beside why k c = beside why IpTotal k c refl

pub fragments_beside : (why : Why) (k : ℕ) (c : Counters)
    → value_of (counter_of why) (counts_more IpFragments k c) ≡ value_of (counter_of why) c
fragments_beside why k c = beside why IpFragments k c refl

pub reassembled_beside : (why : Why) (k : ℕ) (c : Counters)
    → value_of (counter_of why) (counts_more IpReassembled k c) ≡ value_of (counter_of why) c
reassembled_beside why k c = beside why IpReassembled k c refl

pub reclaimed_beside : (why : Why) (k : ℕ) (c : Counters)
    → value_of (counter_of why) (counts_more IpReclaimed k c) ≡ value_of (counter_of why) c
reclaimed_beside why k c = beside why IpReclaimed k c refl

-- for a cause
counted_one : (why : Why) (c : Counters)
    → value_of (counter_of why) (counted why c) ≡ more_by 1 (value_of (counter_of why) c)
unfolding counted
counted_one why c =
    value_after (counter_of why) (counter_of why) 1 c
    ∙ cond-true _ _ _ (eq-eqb (counter_place (counter_of why)) (counter_place (counter_of why)) refl)

counted_other : (why other : Why) (c : Counters) → other ≢ why
    → value_of (counter_of other) (counted why c) ≡ value_of (counter_of other) c
unfolding counted
counted_other why other c ne =
    value_after (counter_of other) (counter_of why) 1 c
    ∙ cond-false _ _ _ (ne_eqb (counter_place (counter_of other)) (counter_place (counter_of why))
    (λ e. ne (same_Some other why (sym (found other) ∙ ap cause_at e ∙ found why))))

pub ends_for : (why : Why) (s : State) → CountsFor why s (ends why s)
ends_for why s = record {
  one = counted_one why s.counters;
  others = λ other ne. counted_other why other s.counters ne;
}

-- a socket's copy is lost for one of two causes
pub full_loses : (s : State) → CountsLosses s (ends UdpFullSocket s)
full_loses s why full bufs = counted_other UdpFullSocket why s.counters full

pub lack_loses : (s : State) → CountsLosses s (ends NoBufs s)
lack_loses s why full bufs = counted_other NoBufs why s.counters bufs
