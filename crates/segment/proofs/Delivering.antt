-- Packets that arrive one after another, each at some of the hosts.
use Rattle.std.proofs.Common.{◌≡◌, ◌≢◌, ◌⊎◌, inl, inr, ℕ, ◌+◌, ◌<◌, ◌≤◌, List, [], ◌∷◌, ◌++◌, length, map, take, get_or, zero, suc, Bool, true, false, Option, None, Some, cond, refl, sym, ap, ◌∙◌, subst, arith}
use Rattle.std.specs.Prelude.{◌==◌, slice_get, slice_set}
use Rattle.std.proofs.Math.ListN.{length-set}
use Rattle.std.proofs.lemmas.Bool.Decides.{eqb_tells}
use Rattle.std.proofs.lemmas.List.{length-append, map-append, take_more}
use Rattle.std.proofs.lemmas.List.Elements.{filter_map-append}
use Rattle.flat_model.specs.declared.config.Config.{Config}
use Rattle.flat_model.specs.Runs.Run.{Turn}
use Rattle.net_stack.specs.Stack.{StackView}
use Rattle.net_stack.specs.Runs.{AreCalls}
use Rattle.segment.specs.Flying.{Flying, comes}
use Rattle.segment.specs.Inside.{IsChangedAt, arriving_at, flying}
use Rattle.segment.specs.Segment.{AreBoth, AtEach, received_in}
use Rattle.segment.specs.Tallies.{with_one, with_received}
use Rattle.segment.specs.declared.frame.Frame.{Frame}
use Rattle.segment.specs.declared.tally.Tally.{Tally}
use Rattle.std.specs.List.{cons_option}
use Rattle.segment.proofs.Taking.{came, if_goes, received_next, then_calls}
use Rattle.segment.proofs.Walking.{IsWalked, below_or, get_at, get_past, get_set_other, get_set_same}

-- ---- one place

pub set_at : {X : Type 0} (R : X → X → Type 0) (place : ℕ) (old : List X) (x y d : X) → place < length old
    → x ≡ get_or old place d → R x y → IsChangedAt R place old (slice_set old place y)
set_at R place old x y d within is r = record {
  here =
      subst (λ a. AreBoth R a (slice_get (slice_set old place y) place)) (sym (get_at old place x d within is))
      (subst (λ b. AreBoth R (Some x) b) (sym (get_set_same old place y within)) r);
  others = λ k other. get_set_other old place k y other;
  len = length-set old place y;
}

both_same : {X : Type 0} (R : X → X → Type 0) (o : Option X) → ((x : X) → R x x) → AreBoth R o o
both_same R None h = tt
both_same R (Some x) h = h x

pub left_at : {X : Type 0} (R : X → X → Type 0) (place : ℕ) (xs : List X) → ((x : X) → R x x)
    → IsChangedAt R place xs xs
left_at R place xs h = record { here = both_same R (slice_get xs place) h; others = λ k other. refl; len = refl }

pub past_at : {X : Type 0} (R : X → X → Type 0) (place : ℕ) (xs : List X) → length xs ≤ place
    → IsChangedAt R place xs xs
past_at R place xs past = record {
  here = subst (λ o. AreBoth R o o) (sym (get_past xs place past)) tt;
  others = λ k other. refl;
  len = refl;
}

-- ---- all places

-- the others aren't concerned
pub only_at : {X : Type 0} (R : ℕ → X → X → Type 0) (place : ℕ) (old now : List X)
    → IsChangedAt (R place) place old now → ((k : ℕ) (x : X) → place ≢ k → R k x x) → AtEach R old now
only_at R place old now c same k = go (eqb_tells place k)
  where
    go : (((place == k) ≡ true) × (place ≡ k)) ⊎ (((place == k) ≡ false) × (place ≢ k))
        → AreBoth (R k) (slice_get old k) (slice_get now k)
    go (inl h) = subst (λ j. AreBoth (R j) (slice_get old j) (slice_get now j)) h.1 c.here
    go (inr h) =
        subst (λ o. AreBoth (R k) (slice_get old k) o) (sym (c.others k h.1))
        (both_same (R k) (slice_get old k) (λ x. same k x h.1))

pub none_walked : {X : Type 0} (R : ℕ → X → X → Type 0) (xs : List X) → IsWalked R xs xs 0
none_walked R xs = record { done = λ k h. absurd (omega (arith, h)); rest = λ k h. refl; len = refl }

pub walk_changed : {X : Type 0} (R : ℕ → X → X → Type 0) (old mid now : List X) (place : ℕ) → IsWalked R old mid place
    → IsChangedAt (R place) place mid now → IsWalked R old now (place + 1)
walk_changed R old mid now place w c = record { done = done; rest = rest; len = c.len ∙ w.len }
  where
    by : (k : ℕ) → k < place + 1 → (k < place) ⊎ (place ≤ k) → AreBoth (R k) (slice_get old k) (slice_get now k)
    by k within (inl h) =
        subst (λ o. AreBoth (R k) (slice_get old k) o) (sym (c.others k (λ e. omega (arith, e, h)))) (w.done k h)
    by k within (inr h) =
        let e : place ≡ k = omega (arith, within, h) in
        subst (λ j. AreBoth (R j) (slice_get old j) (slice_get now j)) e
        (subst (λ o. AreBoth (R place) o (slice_get now place)) (w.rest place (omega arith)) c.here)

    done : (k : ℕ) → k < place + 1 → AreBoth (R k) (slice_get old k) (slice_get now k)
    done k h = by k h (below_or k place)

    rest : (k : ℕ) → place + 1 ≤ k → slice_get now k ≡ slice_get old k
    rest k h = c.others k (λ e. omega (arith, e, h)) ∙ w.rest k (omega (arith, h))

-- ---- one packet after another

pub each_same : {X : Type 0} (R : ℕ → X → X → Type 0) → ((k : ℕ) (x : X) → R k x x) → (xs : List X) → AtEach R xs xs
each_same R same xs k = both_same (R k) (slice_get xs k) (same k)

pub each_then : {X : Type 0} (R S T : ℕ → X → X → Type 0)
    → ((k : ℕ) (x y z : X) → R k x y → S k y z → T k x z) → (xs ys zs : List X)
    → AtEach R xs ys → AtEach S ys zs → AtEach T xs zs
each_then {X = X} R S T step xs ys zs first second k =
    go (slice_get xs k) (slice_get ys k) (slice_get zs k) (first k) (second k)
  where
    go : (a b c : Option X) → AreBoth (R k) a b → AreBoth (S k) b c → AreBoth (T k) a c
    go None None None f s = tt
    go (Some x) (Some y) (Some z) f s = step k x y z f s
    go None None (Some z) f s = absurd s
    go None (Some y) c f s = absurd f
    go (Some x) None c f s = absurd f
    go (Some x) (Some y) None f s = absurd s

pub received_none : (place : ℕ) (o : Option Config) → received_in place o [] ≡ []
received_none place None = refl
received_none place (Some c) = refl

received_more : (place : ℕ) (o : Option Config) (xs ys : List Flying)
    → received_in place o (xs ++ ys) ≡ received_in place o xs ++ received_in place o ys
received_more place None xs ys = refl
received_more place (Some c) xs ys = filter_map-append _ xs ys

-- what one more of the packets brings
pub next_brought : (place : ℕ) (configs : List Config) (all : List Frame) (i : ℕ) (frame : Frame) → i < length all
    → frame ≡ get_or all i frame
    → received_in place (slice_get configs place) (map flying (take (i + 1) all))
    ≡ received_in place (slice_get configs place) (map flying (take i all)) ++ arriving_at place configs (flying frame)
next_brought place configs all i frame within is =
    ap (λ (fs : List Frame). received_in place (slice_get configs place) (map flying fs))
    (take_more all i frame within ∙ ap (λ (f : Frame). take i all ++ f ∷ []) (sym is))
    ∙ ap (received_in place (slice_get configs place)) (map-append flying (take i all) (frame ∷ []))
    ∙ received_more place (slice_get configs place) (map flying (take i all)) (flying frame ∷ [])

received_twice : (m n : ℕ) (t : Tally) → with_received n (with_received m t) ≡ with_received (m + n) t
received_twice zero n t = let e : n ≡ 0 + n = omega arith in ap (λ k. with_received k t) e
received_twice (suc m) n t =
    let e : suc (m + n) ≡ suc m + n = omega arith in
    received_twice m n (with_one t) ∙ ap (λ k. with_received k t) e

pub counted_again : (xs ys : List (List ℕ)) (t u v : Tally) → u ≡ with_received (length xs) t
    → v ≡ with_received (length ys) u → v ≡ with_received (length (xs ++ ys)) t
counted_again xs ys t u v first second =
    second ∙ ap (with_received (length ys)) first ∙ received_twice (length xs) (length ys) t
    ∙ ap (λ n. with_received n t) (sym (length-append xs ys))

-- one more of the packets arrived
pub one_counted : (place : ℕ) (configs : List Config) (all : List Frame) (i : ℕ) (frame : Frame) (t u v : Tally)
    → i < length all → frame ≡ get_or all i frame
    → u ≡ with_received (length (received_in place (slice_get configs place) (map flying (take i all)))) t
    → v ≡ with_received (length (arriving_at place configs (flying frame))) u
    → v ≡ with_received (length (received_in place (slice_get configs place) (map flying (take (i + 1) all)))) t
one_counted place configs all i frame t u v within is before one =
    counted_again (received_in place (slice_get configs place) (map flying (take i all)))
    (arriving_at place configs (flying frame)) t u v before one
    ∙ ap (λ (ps : List (List ℕ)). with_received (length ps) t) (sym (next_brought place configs all i frame within is))

pub one_came : (place : ℕ) (configs : List Config) (all : List Frame) (i : ℕ) (frame : Frame) (s t u : StackView)
    → i < length all → frame ≡ get_or all i frame
    → AreCalls s (comes (received_in place (slice_get configs place) (map flying (take i all)))) t
    → AreCalls t (comes (arriving_at place configs (flying frame))) u
    → AreCalls s (comes (received_in place (slice_get configs place) (map flying (take (i + 1) all)))) u
one_came place configs all i frame s t u within is before one =
    let first = received_in place (slice_get configs place) (map flying (take i all)) in
    let next = arriving_at place configs (flying frame) in
    subst (λ (turns : List Turn). AreCalls s turns u)
    (sym (ap comes (next_brought place configs all i frame within is) ∙ map-append _ first next))
    (then_calls s t u (comes first) (comes next) before one)

-- none did
pub none_came : (place : ℕ) (o : Option Config) (s : StackView) → AreCalls s (comes (received_in place o [])) s
none_came place o s = subst (λ (ps : List (List ℕ)). AreCalls s (comes ps) s) (sym (received_none place o)) refl

pub none_counted : (place : ℕ) (o : Option Config) (t : Tally) → t ≡ with_received (length (received_in place o [])) t
none_counted place o t = ap (λ (ps : List (List ℕ)). with_received (length ps) t) (sym (received_none place o))

-- one more of the packets was examined
pub counted_one : (test : Flying → Bool) (i : ℕ) (frames : List Frame) (frame : Frame) (t u v : Tally) (goes : Bool)
    → i < length frames → frame ≡ get_or frames i frame
    → u ≡ with_received (length (came test (map flying (take i frames)))) t → goes ≡ test (flying frame)
    → v ≡ cond goes (with_one u) u → v ≡ with_received (length (came test (map flying (take (i + 1) frames)))) t
counted_one test i frames frame t u v goes within is before same after =
    counted_again (came test (map flying (take i frames))) (if_goes test (flying frame)) t u v before
    (after ∙ one goes
    ∙ ap (λ b. with_received (length (cons_option (cond b (Some (flying frame).packet) None) [])) u) same)
    ∙ ap (λ (ps : List (List ℕ)). with_received (length ps) t) (sym (received_next test i frames frame within is))
  where
    one : (b : Bool)
        → cond b (with_one u) u ≡ with_received (length (cons_option (cond b (Some (flying frame).packet) None) [])) u
    one true = refl
    one false = refl
