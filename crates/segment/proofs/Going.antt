-- What each act but a join does with a host.
use Rattle.std.proofs.Common.{◌≡◌, ◌≢◌, ◌⊎◌, inl, inr, ℕ, ◌≤◌, List, [], ◌∷◌, length, Bool, true, false, cond, Option, None, Some, refl, sym, ap, ◌∙◌, subst, arith}
use Rattle.std.specs.Prelude.{◌==◌, slice_get, slice_set}
use Rattle.std.proofs.lemmas.Bool.Decides.{eqb_tells}
use Rattle.std.proofs.lemmas.Option.{none-some}
use Rattle.flat_model.specs.Runs.Run.{Turn}
use Rattle.flat_model.specs.declared.config.Config.{Config}
use Rattle.net_stack.specs.Stack.{StackView}
use Rattle.net_stack.specs.Runs.{AreCalls}
use Rattle.segment.specs.Flying.{Flying, comes, transmits_of, waiting}
use Rattle.segment.specs.Segment.{SegmentView, AreBoth, leaving, received_in, waiting_in}
use Rattle.segment.specs.Law.{Act, Ether, Joins, Calls, Collects, Delivers, Impairs, Seeds, Loses, Repeats, Swaps, IsAct, IsHostCalled, turns_in}
use Rattle.segment.proofs.History.{get_within}
use Rattle.segment.proofs.Hosts.{AreFine, get_none}
use Rattle.segment.proofs.Walking.{get_past, get_set_other, get_set_same}

-- not a join
abbrev pub IsNoJoin : Act → Type 0
IsNoJoin (Ether act) = ⊥
IsNoJoin (Joins config) = ⊥
IsNoJoin _ = Unit {0}

-- these turns lead the host that is there to the one that is there afterwards; if none is there, there are none
pub record Goes (k : ℕ) (turns : List Turn) (old new : SegmentView) : Type 0 where
  pub both : AreBoth (λ s t. AreCalls s turns t) (slice_get old.stacks k) (slice_get new.stacks k)
  pub none : slice_get old.stacks k ≡ None → turns ≡ []
  pub configs : new.configs ≡ old.configs

both_same : (x : Option StackView) → AreBoth (λ s t. AreCalls s [] t) x x
both_same None = tt
both_same (Some s) = refl

stays : (k : ℕ) (old new : SegmentView) → slice_get new.stacks k ≡ slice_get old.stacks k
    → new.configs ≡ old.configs → Goes k [] old new
stays k old new same configs = record {
  both =
      subst (λ o. AreBoth (λ s t. AreCalls s [] t) (slice_get old.stacks k) o) (sym same)
      (both_same (slice_get old.stacks k));
  none = λ e. refl;
  configs = configs;
}

called : (k place : ℕ) (turn : Turn) (old new : SegmentView) → IsHostCalled place turn old new
    → Goes k (turns_in k (Calls place turn)) old new
called k place turn old new is = go (eqb_tells place k)
  where
    at : (b : Bool) → (place == k) ≡ b → Goes k (cond b (turn ∷ []) []) old new
        → Goes k (turns_in k (Calls place turn)) old new
    at b e g = subst (λ c. Goes k (cond c (turn ∷ []) []) old new) (sym e) g

    go : (((place == k) ≡ true) × (place ≡ k)) ⊎ (((place == k) ≡ false) × (place ≢ k))
        → Goes k (turns_in k (Calls place turn)) old new
    go (inl h) =
        let here : slice_get old.stacks k ≡ Some is.before =
        subst (λ n. slice_get old.stacks n ≡ Some is.before) h.1 is.here in
        let there : slice_get new.stacks k ≡ Some is.after =
        ap (λ xs. slice_get xs k) is.stacks
        ∙ subst (λ n. slice_get (slice_set old.stacks place is.after) n ≡ Some is.after) h.1
        (get_set_same old.stacks place is.after (get_within old.stacks place is.before is.here)) in
        at true h.0 (record {
          both =
              subst (λ o. AreBoth (λ s t. AreCalls s (turn ∷ []) t) o (slice_get new.stacks k)) (sym here)
              (subst (λ o. AreBoth (λ s t. AreCalls s (turn ∷ []) t) (Some is.before) o) (sym there) is.calls);
          none = λ e. absurd (none-some _ (sym e ∙ here));
          configs = is.configs;
        })
    go (inr h) =
        at false h.0 (stays k old new
        (ap (λ xs. slice_get xs k) is.stacks ∙ get_set_other old.stacks place k is.after h.1) is.configs)

both_give : (x y : Option StackView) → AreBoth (λ s t. AreCalls s (transmits_of (waiting s)) t) x y
    → AreBoth (λ s t. AreCalls s (transmits_of (waiting_in x)) t) x y
both_give None None h = tt
both_give None (Some u) h = absurd h
both_give (Some s) None h = absurd h
both_give (Some s) (Some u) h = h

none_waits : (x : Option StackView) → x ≡ None → transmits_of (waiting_in x) ≡ []
none_waits None e = refl
none_waits (Some s) e = absurd (none-some _ (sym e))

none_comes : (k : ℕ) (flight : List Flying) (o : Option Config) → o ≡ None → comes (received_in k o flight) ≡ []
none_comes k flight None e = refl
none_comes k flight (Some d) e = absurd (none-some _ (sym e))

pub goes : (k : ℕ) (act : Act) (old new : SegmentView) → IsNoJoin act → AreFine old → IsAct old act new
    → Goes k (turns_in k act) old new
goes k (Ether act) old new kind fine is = absurd kind
goes k (Joins config) old new kind fine is = absurd kind
goes k (Calls place turn) old new kind fine is = called k place turn old new is
goes k (Collects found) old new kind fine is =
    subst (λ (v : SegmentView). Goes k (transmits_of (waiting_in (slice_get v.stacks k))) old new) (sym is.0) (record {
      both = both_give (slice_get old.stacks k) (slice_get new.stacks k) (is.1.hosts k);
      none = none_waits (slice_get old.stacks k);
      configs = is.1.configs;
    })
goes k (Delivers found) old new kind fine is =
    subst (λ (v : SegmentView). Goes k (comes (received_in k (slice_get v.configs k) (leaving v).0)) old new)
    (sym is.0) (record {
      both = is.1.hosts k;
      none = λ e. none_comes k (leaving old).0 (slice_get old.configs k) (get_past old.configs k (past e));
      configs = is.1.configs;
    })
  where
    past : slice_get old.stacks k ≡ None → length old.configs ≤ k
    past e = omega (arith, get_none old.stacks k e, fine.even)
goes k (Impairs place chances) old new kind fine is =
    stays k old new (ap (λ (w : SegmentView). slice_get w.stacks k) is) (ap (λ (w : SegmentView). w.configs) is)
goes k (Seeds seed) old new kind fine is =
    stays k old new (ap (λ (w : SegmentView). slice_get w.stacks k) is) (ap (λ (w : SegmentView). w.configs) is)
goes k (Loses place) old new kind fine is =
    stays k old new (ap (λ (w : SegmentView). slice_get w.stacks k) is) (ap (λ (w : SegmentView). w.configs) is)
goes k (Repeats place) old new kind fine is =
    stays k old new (ap (λ (w : SegmentView). slice_get w.stacks k) is) (ap (λ (w : SegmentView). w.configs) is)
goes k (Swaps place other) old new kind fine is =
    stays k old new (ap (λ (w : SegmentView). slice_get w.stacks k) is) (ap (λ (w : SegmentView). w.configs) is)
