-- The law of conservation, for runs.
use Rattle.std.proofs.Common.{◌≡◌, ℕ, ◌+◌, Bool, true, false, List, [], ◌∷◌, length, refl, sym, subst, arith, Option, Some, None, cond}
use Rattle.std.specs.Prelude.{◌==◌, sum_by}
use Rattle.std.specs.List.{AllByRecursion as Each, AllZip}
use Rattle.std.proofs.lemmas.Option.{none-some, same_Some}
use Rattle.std.proofs.lemmas.List.Sums.{sum_by-cons}
use Rattle.flat_model.specs.Machine.Count.{counts_more, value_of, counter_of}
use Rattle.flat_model.specs.Machine.Event.{Event, Reply, Open, Bind, Connect, Send, Receive, Close, Set_option, Set_limit, Comes, Transmit, Tick, Ask_counters, Ask_usage, Done, Sent, Received, Given, Refused}
use Rattle.flat_model.specs.Machine.State.{State}
use Rattle.flat_model.specs.Machine.Ledger.{exact_ledger}
use Rattle.flat_model.specs.Machine.Fate.{Tells}
use Rattle.flat_model.specs.Runs.Consistent.{IsConsistent}
use Rattle.flat_model.specs.declared.fate.Fate.{Fate}
use Rattle.flat_model.specs.declared.counter.Counter.{Counter}
use Rattle.flat_model.specs.declared.counter.Counter.TheVariants.{IpTotal, IpFragments, IpFragtimeout, IpReclaimed, IpReassembled, IpLocalout, IpFragmented, OutDropped}
use Rattle.flat_model.proofs.Laws.{step_is_consistent, fated_step}
use Rattle.flat_wire.specs.Places.{ArePlaced, ConservationLaw, IsTold, IsToldRun, PacketPlace, ToldStep, arrivals, arrived_in, begins, closed_away, closed_in_event, counts_in, ends_at, packets_given, got, datagrams_read, read_by, refused, packets_sent, total}
use Rattle.flat_wire.proofs.Tallies.{length-sum}
use Rattle.flat_wire.proofs.Moves.{Change, Moves, at, nothing_more, move_nothing, move_both, move_as}
use Rattle.flat_wire.proofs.Accounting.{PutsOut, Stepped, comes, for_step, none_sent, sent_counts, step}
use Rattle.flat_wire.proofs.PlaceTable.{apart_from_causes, all_dropped, all_placed, completes_counts, expires_counts, reclaims_counts, total_same, total_zero}
use Rattle.flat_wire.proofs.Placing.{comes_in, completes}

-- ---- the fate that was told

record Accounted (event : Event) (reply : Reply) (fate : Option Fate) (old new : State) : Type 0 where
  places : List PacketPlace
  number : length places ≡ arrived_in old event reply
  told : (f : Fate) → fate ≡ Some f → Each (λ place. Each (Tells f) (ends_at place)) places
  reclaims : ℕ
  expires : ℕ
  out : ℕ
  parts : ℕ
  full : ℕ
  moves : Moves
      (for_step places reclaims expires out parts full (read_by event reply + closed_in_event old event)) old new
  output : PutsOut event reply old new

account : (event : Event) (reply : Reply) (fate : Option Fate) (old new : State) (s : Stepped event reply old new)
    → ((f : Fate) → fate ≡ Some f → Each (λ place. Each (Tells f) (ends_at place)) s.places)
    → Accounted event reply fate old new
account event reply fate old new s told = record {
  places = s.places;
  number = s.number;
  told = told;
  reclaims = s.reclaims;
  expires = s.expires;
  out = s.out;
  parts = s.parts;
  full = s.full;
  moves = s.moves;
  output = s.output;
}

told_step : (event : Event) (reply : Reply) (fate : Option Fate) (old new : State) → IsConsistent old
    → IsTold (record { old = old; turn = record { event = event; reply = reply }; new = new }) fate
    → Accounted event reply fate old new
unfolding comes
told_step event reply None old new is h =
    account event reply None old new (step old new is event reply h) (λ f e. absurd (none-some f e))
told_step event reply (Some fate) old new is (packet, comes_is, answer, fated) =
    subst (λ event. Accounted event reply (Some fate) old new) (sym comes_is)
    (let p = comes_in exact_ledger (Tells fate) packet old new is.distinct is.keys fated in
    account (Comes packet) reply (Some fate) old new (comes old new is packet reply (Tells fate) p)
    (λ f e. (subst (λ f. Each (Tells f) (ends_at p.place)) (same_Some fate f e) p.tells, tt)))

-- ---- runs

abbrev for_run : List ToldStep → List (List PacketPlace) → ℕ → ℕ → ℕ → ℕ → ℕ → Change
for_run run places r expires out parts full = record {
  counts = λ k. total (counts_in k) places + sent_counts k expires out parts full;
  reclaims = r;
  ends = total completes places + expires;
  begins = total begins places;
  gets = total got places;
  leaves = sum_by datagrams_read run + sum_by closed_away run;
}

record RunPlaced (run : List ToldStep) (old new : State) : Type 0 where
  places : List (List PacketPlace)
  zipped : AllZip ArePlaced run places
  reclaims : ℕ
  expires : ℕ
  out : ℕ
  parts : ℕ
  full : ℕ
  moves : Moves (for_run run places reclaims expires out parts full) old new
  sum : sum_by arrivals run ≡ total (λ p. 1) places
  output : length old.output + sum_by packets_sent run
      ≡ sum_by packets_given run + length new.output + sum_by refused run

at_plus : (k c : Counter) (m n : ℕ) → at k c (m + n) ≡ at k c m + at k c n
at_plus k c m n = go (Rattle.flat_model.specs.Machine.Count.counter_place k
    == Rattle.flat_model.specs.Machine.Count.counter_place c)
  where
    go : (b : Bool) → cond b (m + n) 0 ≡ cond b m 0 + cond b n 0
    go true = refl
    go false = omega arith

still_consistent : (event : Event) (reply : Reply) (fate : Option Fate) (old new : State) → IsConsistent old
    → Rattle.flat_model.specs.Machine.Event.IsEvent event
    → IsTold (record { old = old; turn = record { event = event; reply = reply }; new = new }) fate
    → IsConsistent new
still_consistent event reply None old new is ranges h = step_is_consistent old new event reply is ranges h
still_consistent event reply (Some fate) old new is ranges (packet, comes_is, answer, fated) =
    step_is_consistent old new (Comes packet) Done is
    (subst Rattle.flat_model.specs.Machine.Event.IsEvent comes_is ranges) (fated_step old new packet fate fated)

all_steps : (run : List ToldStep) (old new : State) → IsConsistent old → IsToldRun old run new → RunPlaced run old new
all_steps [] old new is e = subst (RunPlaced [] old) (sym e) (record {
  places = [];
  zipped = tt;
  reclaims = 0;
  expires = 0;
  out = 0;
  parts = 0;
  full = 0;
  moves = move_as nothing_more (for_run [] [] 0 0 0 0 0) old old (record {
    counts = λ k. omega (arith, none_sent k);
    reclaims = refl;
    ends = omega arith;
    begins = refl;
    gets = refl;
    leaves = omega arith;
  }) (move_nothing old);
  sum = refl;
  output = omega arith;
})
all_steps (p ∷ later) old new is (from, ranges, h, rest) =
    let here : IsConsistent p.passed.old = subst IsConsistent (sym from) is in
    let a = told_step p.passed.turn.event p.passed.turn.reply p.fate p.passed.old p.passed.new here h in
    let mid_is =
    still_consistent p.passed.turn.event p.passed.turn.reply p.fate p.passed.old p.passed.new here ranges h in
    let r = all_steps later p.passed.new new mid_is rest in
    subst (λ (s : State). RunPlaced (p ∷ later) s new) from (record {
      places = a.places ∷ r.places;
      zipped = (record { number = a.number; told = a.told }, r.zipped);
      reclaims = a.reclaims + r.reclaims;
      expires = a.expires + r.expires;
      out = a.out + r.out;
      parts = a.parts + r.parts;
      full = a.full + r.full;
      moves =
          move_as _ (for_run (p ∷ later) (a.places ∷ r.places) (a.reclaims + r.reclaims) (a.expires + r.expires)
          (a.out + r.out) (a.parts + r.parts) (a.full + r.full)) p.passed.old new
          (record {
            counts = λ k. omega (
              arith,
              sum_by-cons (λ (xs : List PacketPlace). sum_by (counts_in k) xs) a.places r.places,
              at_plus k IpFragtimeout a.expires r.expires,
              at_plus k IpLocalout a.out r.out,
              at_plus k IpFragmented a.parts r.parts,
              at_plus k OutDropped a.full r.full,
            );
            reclaims = refl;
            ends = omega (arith, sum_by-cons (λ (xs : List PacketPlace). sum_by completes xs) a.places r.places);
            begins = omega (arith, sum_by-cons (λ (xs : List PacketPlace). sum_by begins xs) a.places r.places);
            gets = omega (arith, sum_by-cons (λ (xs : List PacketPlace). sum_by got xs) a.places r.places);
            leaves = omega (arith, sum_by-cons datagrams_read p later, sum_by-cons closed_away p later);
          }) (move_both _ _ p.passed.old p.passed.new new a.moves r.moves);
      sum = omega (
        arith,
        a.number,
        r.sum,
        length-sum a.places,
        sum_by-cons arrivals p later,
        sum_by-cons (λ (xs : List PacketPlace). sum_by (λ p. 1) xs) a.places r.places,
      );
      output = omega (
        arith,
        a.output,
        r.output,
        sum_by-cons packets_sent p later,
        sum_by-cons packets_given p later,
        sum_by-cons refused p later,
      );
    })

pub conservation_law_lem : ConservationLaw
conservation_law_lem run old new is h counting =
    let r = all_steps run old new is h in (
      r.places,
      r.zipped,
      record {
        causes = λ why.
            let apart = apart_from_causes why r.expires r.out r.parts r.full r.reclaims in
            omega (arith, r.moves.counters (counter_of why) (counting (counter_of why)), apart.0, apart.1);
        packets = omega (arith, r.moves.counters IpTotal (counting IpTotal));
        fragments = omega (arith, r.moves.counters IpFragments (counting IpFragments));
        completed = omega (arith, r.moves.counters IpReassembled (counting IpReassembled));
        sum = omega (arith, r.sum, all_placed r.places);
        dropped = all_dropped old.counters new.counters r.places (λ why.
            let apart = apart_from_causes why r.expires r.out r.parts r.full r.reclaims in
            omega (arith, r.moves.counters (counter_of why) (counting (counter_of why)), apart.0, apart.1));
        datagrams = omega (arith, r.moves.queues);
        unfinished = omega (
          arith,
          r.moves.unfinished,
          r.moves.counters IpReassembled (counting IpReassembled),
          r.moves.counters IpFragtimeout (counting IpFragtimeout),
          r.moves.counters IpReclaimed (counting IpReclaimed),
          total_same (counts_in IpReassembled) completes completes_counts r.places,
          total_same (counts_in IpFragtimeout) (λ p. 0) expires_counts r.places,
          total_same (counts_in IpReclaimed) (λ p. 0) reclaims_counts r.places,
          total_zero r.places,
        );
        output = r.output;
      },
    )
