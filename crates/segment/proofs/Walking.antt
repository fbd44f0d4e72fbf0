-- A walk over the hosts, one after another.
use Rattle.std.proofs.Common.{◌≡◌, ◌≢◌, ◌⊎◌, inl, inr, ℕ, ◌+◌, ◌<◌, ◌≤◌, List, [], ◌∷◌, length, get_or, zero, suc, Option, None, Some, refl, sym, ap, ◌∙◌, subst, arith}
use Rattle.std.specs.Prelude.{slice_get, slice_set}
use Rattle.std.proofs.Math.ListN.{length-set}
use Rattle.segment.specs.Segment.{AreBoth, AtEach}

pub below_or : (k n : ℕ) → (k < n) ⊎ (n ≤ k)
below_or k zero = inr (omega arith)
below_or zero (suc n) = inl (omega arith)
below_or (suc k) (suc n) = go (below_or k n)
  where
    go : (k < n) ⊎ (n ≤ k) → (suc k < suc n) ⊎ (suc n ≤ suc k)
    go (inl h) = inl (omega arith)
    go (inr h) = inr (omega arith)

pub get_set_same : {X : Type 0} (xs : List X) (i : ℕ) (y : X) → i < length xs → slice_get (slice_set xs i y) i ≡ Some y
get_set_same [] i y h = absurd (omega arith)
get_set_same (x ∷ xs) zero y h = refl
get_set_same (x ∷ xs) (suc i) y h = get_set_same xs i y (omega arith)

pub get_set_other : {X : Type 0} (xs : List X) (i k : ℕ) (y : X) → i ≢ k
    → slice_get (slice_set xs i y) k ≡ slice_get xs k
get_set_other [] i k y h = refl
get_set_other (x ∷ xs) zero zero y h = absurd (h refl)
get_set_other (x ∷ xs) zero (suc k) y h = refl
get_set_other (x ∷ xs) (suc i) zero y h = refl
get_set_other (x ∷ xs) (suc i) (suc k) y h = get_set_other xs i k y (λ e. h (ap suc e))

pub get_at : {X : Type 0} (xs : List X) (i : ℕ) (x d : X) → i < length xs → x ≡ get_or xs i d → slice_get xs i ≡ Some x
get_at [] i x d h e = absurd (omega arith)
get_at (y ∷ xs) zero x d h e = ap Some (sym e)
get_at (y ∷ xs) (suc i) x d h e = get_at xs i x d (omega arith) e

pub get_past : {X : Type 0} (xs : List X) (i : ℕ) → length xs ≤ i → slice_get xs i ≡ None
get_past [] i h = refl
get_past (x ∷ xs) zero h = absurd (omega arith)
get_past (x ∷ xs) (suc i) h = get_past xs i (omega arith)

-- the hosts below a place have changed by this relation, and the others are unchanged
pub record IsWalked {X : Type 0} (R : ℕ → X → X → Type 0) (old now : List X) (place : ℕ) : Type 0 where
  pub done : (k : ℕ) → k < place → AreBoth (R k) (slice_get old k) (slice_get now k)
  pub rest : (k : ℕ) → place ≤ k → slice_get now k ≡ slice_get old k
  pub len : length now ≡ length old

abbrev both_are : {X : Type 0} (R : X → X → Type 0) (a b : Option X) (s t : X) → a ≡ Some s → b ≡ Some t → R s t
    → AreBoth R a b
both_are R a b s t e f r = subst (λ x. AreBoth R x b) (sym e) (subst (λ y. AreBoth R (Some s) y) (sym f) r)

pub walk_on : {X : Type 0} (R : ℕ → X → X → Type 0) (old now : List X) (place : ℕ) (s t d : X)
    → IsWalked R old now place → place < length now
    → s ≡ get_or now place d → R place s t → IsWalked R old (slice_set now place t) (place + 1)
walk_on R old now place s t d w within is step =
    record { done = done; rest = rest; len = length-set now place t ∙ w.len }
  where
    here : AreBoth (R place) (slice_get old place) (slice_get (slice_set now place t) place)
    here =
        both_are (R place) _ _ s t (sym (w.rest place (omega arith)) ∙ get_at now place s d within is)
        (get_set_same now place t within) step

    by : (k : ℕ) → k < place + 1 → (k < place) ⊎ (place ≤ k)
        → AreBoth (R k) (slice_get old k) (slice_get (slice_set now place t) k)
    by k within' (inl h) =
        subst (λ x. AreBoth (R k) (slice_get old k) x) (sym (get_set_other now place k t (λ e. omega arith)))
        (w.done k h)
    by k within' (inr h) = let e : place ≡ k = omega arith in
        subst (λ j. AreBoth (R j) (slice_get old j) (slice_get (slice_set now place t) j)) e here

    done : (k : ℕ) → k < place + 1 → AreBoth (R k) (slice_get old k) (slice_get (slice_set now place t) k)
    done k h = by k h (below_or k place)

    rest : (k : ℕ) → place + 1 ≤ k → slice_get (slice_set now place t) k ≡ slice_get old k
    rest k h = get_set_other now place k t (λ e. omega arith) ∙ w.rest k (omega arith)

pub walk_ends : {X : Type 0} (R : ℕ → X → X → Type 0) (old now : List X) (place : ℕ) → IsWalked R old now place
    → length old ≤ place → AtEach R old now
walk_ends R old now place w all k = by (below_or k place)
  where
    by : (k < place) ⊎ (place ≤ k) → AreBoth (R k) (slice_get old k) (slice_get now k)
    by (inl h) = w.done k h
    by (inr h) = let n : slice_get old k ≡ None = get_past old k (omega arith) in
        subst (λ x. AreBoth (R k) x (slice_get now k)) (sym n)
        (subst (λ y. AreBoth (R k) None y) (sym (w.rest k h ∙ n)) tt)
