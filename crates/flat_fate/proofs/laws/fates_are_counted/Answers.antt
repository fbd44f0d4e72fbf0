use Rattle.std.proofs.Common.{◌≡◌, ℕ, List, Option, Ok, Err, sym, subst, ap, ◌∙◌}
use Rattle.flat_model.specs.Machine.Arrival.{End, Reassembled, Saying}
use Rattle.flat_model.specs.Machine.Count.{more_by}
use Rattle.flat_model.specs.Machine.Fate.{told}
use Rattle.flat_model.specs.Machine.Ledger.{exact_ledger}
use Rattle.flat_model.specs.Machine.State.{State, ends}
use Rattle.flat_model.specs.declared.counters.Why.{Why}
use Rattle.flat_model.specs.declared.fate.Fate.{Fate}
use Rattle.flat_model.specs.declared.fate.Fate.TheVariants.{Delivered, Kept, Completed, Dropped}
use Rattle.flat_fate.specs.Counted.{CountsFor, CountsLosses, CountsNone, count_for}
use Rattle.flat_fate.proofs.Counting.{ends_for}
use Rattle.flat_fate.proofs.Deliveries.{no_offer, some_offer}
use Rattle.flat_fate.proofs.Walk.{comes}
use Rattle.flat_fate.proofs.laws.fates_are_counted.Goals as goal

-- states that count as many before
for_from : (why : Why) (s t n : State) → CountsNone s t → CountsFor why t n → CountsFor why s n
for_from why s t n same counts = record {
  one = counts.one ∙ ap (λ (k : ℕ). more_by 1 k) (same why);
  others = λ other ne. counts.others other ne ∙ same other;
}

none_from : (s t n : State) → CountsNone s t → CountsNone t n → CountsNone s n
none_from s t n same none why = none why ∙ same why

losses_from : (s t n : State) → CountsNone s t → CountsLosses t n → CountsLosses s n
losses_from s t n same loses why full bufs = loses why full bufs ∙ same why

-- it ended for the cause that is told
for_told : (why cause : Why) (s n : State) → why ≡ cause → n ≡ ends cause s → CountsFor why s n
for_told why cause s n e is =
    subst (λ (t : State). CountsFor why s t) (sym is)
    (subst (λ (w : Why). CountsFor w s (ends cause s)) (sym e) (ends_for cause s))

-- what is told of the datagram that a fragment completed
abbrev joined : Fate → Saying
joined fate = λ end. told fate (Reassembled end)

pub returns-clause-dropped : goal.returns-clause-dropped
returns-clause-dropped c = λ old new packet why fated.
    let fate = Dropped why in
    comes exact_ledger (CountsFor why) (for_from why) (told fate) (λ cause s n h. for_told why cause s n h.0 h.1)
    (no_offer exact_ledger (told fate) (CountsFor why) (λ fds fd lack m is h. h.0)) (λ k bytes s n h. absurd h.0)
    (λ cause s n h. absurd h.0) (no_offer exact_ledger (joined fate) (CountsFor why) (λ fds fd lack m is h. h.0)) packet old new fated

pub returns-clause-completed : goal.returns-clause-completed
returns-clause-completed c = λ old new packet why fated.
    let fate = Completed (Err why) in
    comes exact_ledger (CountsFor why) (for_from why) (told fate) (λ cause s n h. absurd h.0)
    (no_offer exact_ledger (told fate) (CountsFor why) (λ fds fd lack m is h. h.0)) (λ k bytes s n h. absurd h.0)
    (λ cause s n h. for_told why cause s n h.0 h.1)
    (no_offer exact_ledger (joined fate) (CountsFor why) (λ fds fd lack m is h. h.0)) packet old new fated

pub returns-clause-kept : goal.returns-clause-kept
returns-clause-kept c = λ old new packet fated.
    comes exact_ledger CountsNone none_from (told Kept) (λ cause s n h. absurd h.0)
    (no_offer exact_ledger (told Kept) CountsNone (λ fds fd lack m is h. h.0))
    (λ k bytes s n h why. ap (λ (t : State). count_for why t) h.1) (λ cause s n h. absurd h.0)
    (no_offer exact_ledger (joined Kept) CountsNone (λ fds fd lack m is h. h.0)) packet old new fated

pub returns-clause-delivered : goal.returns-clause-delivered
returns-clause-delivered c = λ old new packet reached fated.
    let fate = Delivered reached in
    comes exact_ledger CountsLosses losses_from (told fate) (λ cause s n h. absurd h.0)
    (some_offer exact_ledger (told fate) (λ fds fd lack m is h. h.1)) (λ k bytes s n h. absurd h.0)
    (λ cause s n h. absurd h.0) (no_offer exact_ledger (joined fate) CountsLosses (λ fds fd lack m is h. h.0)) packet old new fated

pub returns-clause-completed_delivered : goal.returns-clause-completed_delivered
returns-clause-completed_delivered c = λ old new packet reached fated.
    let fate = Completed (Ok reached) in
    comes exact_ledger CountsLosses losses_from (told fate) (λ cause s n h. absurd h.0)
    (no_offer exact_ledger (told fate) CountsLosses (λ fds fd lack m is h. h.0)) (λ k bytes s n h. absurd h.0)
    (λ cause s n h. absurd h.0) (some_offer exact_ledger (joined fate) (λ fds fd lack m is h. h.1)) packet old new fated
