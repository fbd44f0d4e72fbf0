-- A clock that ticks while nothing else happens.
use Rattle.std.proofs.Common.{◌≡◌, ℕ, zero, suc, ◌-◌, ◌≤◌, Bool, true, false, cond, List, [], ◌∷◌, map, refl, sym, ap, ◌∙◌, subst, arith}
use Rattle.std.specs.Prelude.{◌==◌, nat_lt, filter}
use Rattle.std.specs.List.{AllByRecursion as Each}
use Rattle.std.proofs.lemmas.Bool.{ltb-true}
use Rattle.params.specs.declared.TheConstants.{FRAGMENT_TICKS}
use Rattle.flat_model.specs.Machine.Count.{all_counters, counter_place, counts_more, more_by, value_of}
use Rattle.flat_model.specs.declared.counter.Counter.TheVariants.{IpFragtimeout}
use Rattle.flat_model.specs.declared.counters.Counters.{Counters}
use Rattle.flat_model.specs.Machine.Ledger.{exact_ledger}
use Rattle.flat_model.specs.Machine.State.{State, Unfinished}
use Rattle.flat_model.specs.Machine.Step.{ticked}
use Rattle.flat_model.specs.Runs.Clock.{only_ticks}
use Rattle.flat_model.specs.Runs.Consistent.{IsConsistent}
use Rattle.flat_model.specs.Runs.Run.{Leads}
use Rattle.flat_model.proofs.Lists.Each.{each-weaker}

abbrev times : ℕ → State → State
times zero s = s
times (suc n) s = times n (ticked s)

led : (n : ℕ) (s new : State) → Leads exact_ledger s (only_ticks n) new → new ≡ times n s
led zero s new h = h
led (suc n) s new h =
    led n (ticked s) new (subst (λ (mid : State). Leads exact_ledger mid (only_ticks n) new) h.2.1 h.3)

-- ---- the datagrams

abbrev older : Unfinished → Unfinished
older u = record u { ticks = u.ticks - 1 }

abbrev left : List Unfinished → List Unfinished
left us = filter (λ (u : Unfinished). nat_lt 0 u.ticks) (map older us)

abbrev Most : ℕ → List Unfinished → Type 0
Most k us = Each {X = Unfinished} (λ u. u.ticks ≤ k) us

none_left : (us : List Unfinished) → Most 1 us → left us ≡ []
none_left [] h = refl
none_left (u ∷ us) h = go (none_left us h.1) (nat_lt 0 (u.ticks - 1)) refl
  where
    go : left us ≡ [] → (b : Bool) → nat_lt 0 (u.ticks - 1) ≡ b → cond b (older u ∷ left us) (left us) ≡ []
    go later true e = absurd (let lt = ltb-true 0 (u.ticks - 1) e in omega (arith, lt, h.0))
    go later false e = later

fewer : (k : ℕ) (us : List Unfinished) → Most (suc k) us → Most k (left us)
fewer k [] h = tt
fewer k (u ∷ us) h = go (fewer k us h.1) (nat_lt 0 (u.ticks - 1))
  where
    go : Most k (left us) → (b : Bool) → Most k (cond b (older u ∷ left us) (left us))
    go later true = (omega (arith, h.0), later)
    go later false = later

finished : (k : ℕ) (s : State) → Most (suc k) s.unfinished → (times (suc k) s).unfinished ≡ []
finished zero s h = none_left s.unfinished h
finished (suc k) s h = finished k (ticked s) (fewer (suc k) s.unfinished h)

-- ---- the counter

same_again : (v k : ℕ) → more_by 0 (more_by k v) ≡ more_by k v
same_again v k = omega arith

counted_again : (k : ℕ) (c : Counters)
    → counts_more IpFragtimeout 0 (counts_more IpFragtimeout k c) ≡ counts_more IpFragtimeout k c
counted_again k c =
    ap (λ (z : ℕ). record {
      values =
          map (λ other. cond (counter_place other == counter_place IpFragtimeout) z (value_of other c)) all_counters;
    }) (same_again (value_of IpFragtimeout c) k)

-- ---- after the last datagram

idle : (s : State) → (ticked s).unfinished ≡ [] → ticked (ticked s) ≡ ticked s
idle s e =
    subst (λ (us : List Unfinished). ticked (record (ticked s) { unfinished = us })
    ≡ record (ticked s) { unfinished = us }) (sym e)
    (ap (λ (c : Counters). record (ticked s) { unfinished = []; counters = c }) (counted_again _ s.counters))

still : (n : ℕ) (s : State) → (ticked s).unfinished ≡ [] → times n (ticked s) ≡ ticked s
still zero s e = refl
still (suc n) s e = ap (times n) (idle s e) ∙ still n s e

last : (k n : ℕ) (s : State) → suc k ≤ n → Most (suc k) s.unfinished → times n s ≡ times (suc k) s
last k zero s le h = absurd (omega (arith, le))
last zero (suc n) s le h = still n s (finished zero s h)
last (suc k) (suc n) s le h = last k n (ticked s) (omega (arith, le)) (fewer (suc k) s.unfinished h)

most_of : (s : State) → IsConsistent s → Most 60 s.unfinished
most_of s is = each-weaker (λ u h. h.ticks) s.unfinished is.unfinished

-- ---- the law

pub ends_by_60 : (s new : State) (n : ℕ) → IsConsistent s → FRAGMENT_TICKS ≤ n → Leads exact_ledger s (only_ticks n) new
    → new.unfinished ≡ []
ends_by_60 s new n is le h =
    ap (λ (t : State). t.unfinished) (led n s new h ∙ last 59 n s le (most_of s is)) ∙ finished 59 s (most_of s is)

pub no_more_change : (s at later : State) (n : ℕ) → IsConsistent s → FRAGMENT_TICKS ≤ n
    → Leads exact_ledger s (only_ticks FRAGMENT_TICKS) at → Leads exact_ledger s (only_ticks n) later → later ≡ at
no_more_change s at later n is le h g = led n s later g ∙ last 59 n s le (most_of s is) ∙ sym (led 60 s at h)
