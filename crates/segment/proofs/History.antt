-- The turns of each host, from its stack's start on.
use Rattle.std.proofs.Common.{◌≡◌, ◌≢◌, ◌⊎◌, inl, inr, ℕ, ◌+◌, ◌<◌, ◌≤◌, List, [], ◌∷◌, ◌++◌, length, zero, suc, Bool, true, false, Option, None, Some, refl, sym, ap, ◌∙◌, subst, arith}
use Rattle.std.specs.Prelude.{slice_get, slice_set, ◌==◌, if◌then◌else◌}
use Rattle.std.proofs.Math.ListN.{length-set}
use Rattle.std.proofs.lemmas.Bool.Decides.{eqb_tells}
use Rattle.std.proofs.lemmas.Option.{none-some}
use Rattle.flat_model.specs.Machine.State.{IsConfig, boot}
use Rattle.flat_model.specs.Runs.Run.{Turn}
use Rattle.flat_model.specs.declared.config.Config.{Config}
use Rattle.net_stack.specs.Stack.{StackView, state_of}
use Rattle.net_stack.specs.Runs.{AreCalls}
use Rattle.segment.specs.Flying.{Flying, comes, transmits_of, waiting}
use Rattle.segment.specs.Segment.{SegmentView, AreBoth, AtEach, IsCollected, HasComeDue, IsJoined, leaving, received_in, waiting_in}
use Rattle.segment.specs.Law.{Act, Ether, Joins, Calls, Collects, Delivers, Impairs, Seeds, Loses, Repeats, Swaps, IsHostCalled, AreActs, turns_in, turns_of}
use Rattle.segment.proofs.BareActs.{AreBare}
use Rattle.segment.proofs.Taking.{then_calls}
use Rattle.segment.proofs.Walking.{below_or, get_set_same, get_set_other, get_past}

-- a stack that these turns lead to from a booted one
abbrev pub Started : Config → List Turn → StackView → Type 0
Started c turns t = (start : StackView) × IsConfig c × (state_of start ≡ boot c) × AreCalls start turns t

-- from the host that was there, or from its start if none was
abbrev pub Begins : Config → List Turn → StackView → Option Config → Option StackView → Type 0
Begins c turns t None None = Started c turns t
Begins c turns t (Some d) (Some s) = (d ≡ c) × AreCalls s turns t
Begins c turns t _ _ = ⊥

get_last : {X : Type 0} (xs : List X) (x : X) → slice_get (xs ++ x ∷ []) (length xs) ≡ Some x
get_last [] x = refl
get_last (y ∷ xs) x = get_last xs x

pub get_front : {X : Type 0} (xs ys : List X) (k : ℕ) → k < length xs → slice_get (xs ++ ys) k ≡ slice_get xs k
get_front [] ys k h = absurd (omega arith)
get_front (x ∷ xs) ys zero h = refl
get_front (x ∷ xs) ys (suc k) h = get_front xs ys k (omega arith)

get_after : {X : Type 0} (xs : List X) (x : X) (k : ℕ) → length xs < k → slice_get (xs ++ x ∷ []) k ≡ None
get_after [] x zero h = absurd (omega arith)
get_after [] x (suc k) h = refl
get_after (y ∷ xs) x zero h = absurd (omega arith)
get_after (y ∷ xs) x (suc k) h = get_after xs x k (omega arith)

pub length-last : {X : Type 0} (xs : List X) (x : X) → length (xs ++ x ∷ []) ≡ length xs + 1
length-last [] x = refl
length-last (y ∷ xs) x = omega (arith, length-last xs x)

pub get_within : {X : Type 0} (xs : List X) (i : ℕ) (x : X) → slice_get xs i ≡ Some x → i < length xs
get_within [] i x e = absurd (none-some _ e)
get_within (y ∷ xs) zero x e = omega arith
get_within (y ∷ xs) (suc i) x e = omega (arith, get_within xs i x e)

-- lists that are related element by element have the same length
pub AtEach-length : {X : Type 0} (R : ℕ → X → X → Type 0) (xs ys : List X) → AtEach R xs ys → length xs ≡ length ys
AtEach-length R [] [] h = refl
AtEach-length R [] (y ∷ ys) h = absurd (h 0)
AtEach-length R (x ∷ xs) [] h = absurd (h 0)
AtEach-length R (x ∷ xs) (y ∷ ys) h = ap suc (AtEach-length (λ n. R (suc n)) xs ys (λ n. h (suc n)))

module _ (k : ℕ) (c : Config) (t : StackView) where
  joined : (d : Config) (turns : List Turn) (old new : SegmentView) → length old.configs ≡ length old.stacks
      → IsJoined d old new
      → Begins c turns t (slice_get new.configs k) (slice_get new.stacks k)
      → Begins c turns t (slice_get old.configs k) (slice_get old.stacks k)
  joined d turns old new even j from = go (below_or k (length old.stacks)) (below_or (length old.stacks) k)
    where
      moved : Begins c turns t (slice_get (old.configs ++ d ∷ []) k) (slice_get (old.stacks ++ j.stack ∷ []) k)
      moved =
          subst (λ (xs : List Config). Begins c turns t (slice_get xs k) (slice_get (old.stacks ++ j.stack ∷ []) k))
          j.configs
          (subst (λ (xs : List StackView). Begins c turns t (slice_get new.configs k) (slice_get xs k)) j.stacks from)

      to : (o : Option Config) (p : Option StackView) → slice_get (old.configs ++ d ∷ []) k ≡ o
          → slice_get (old.stacks ++ j.stack ∷ []) k ≡ p → Begins c turns t o p
      to o p e f =
          subst (λ (x : Option Config). Begins c turns t x p) e
          (subst (λ (y : Option StackView). Begins c turns t (slice_get (old.configs ++ d ∷ []) k) y) f moved)

      back : (o : Option Config) (p : Option StackView) → slice_get old.configs k ≡ o → slice_get old.stacks k ≡ p
          → Begins c turns t o p → Begins c turns t (slice_get old.configs k) (slice_get old.stacks k)
      back o p e f b =
          subst (λ (x : Option Config). Begins c turns t x (slice_get old.stacks k)) (sym e)
          (subst (λ (y : Option StackView). Begins c turns t o y) (sym f) b)

      none_there : length old.stacks ≤ k → Begins c turns t None None
          → Begins c turns t (slice_get old.configs k) (slice_get old.stacks k)
      none_there h b = back None None (get_past old.configs k (omega arith)) (get_past old.stacks k h) b

      newest : (d ≡ c) × AreCalls j.stack turns t → Started c turns t
      newest b = (j.stack, subst IsConfig b.0 j.is_config, j.started ∙ ap boot b.0, b.1)

      go : (k < length old.stacks) ⊎ (length old.stacks ≤ k) → (length old.stacks < k) ⊎ (k ≤ length old.stacks)
          → Begins c turns t (slice_get old.configs k) (slice_get old.stacks k)
      go (inl h) past =
          to (slice_get old.configs k) (slice_get old.stacks k) (get_front old.configs (d ∷ []) k (omega arith))
          (get_front old.stacks (j.stack ∷ []) k h)
      go (inr h) (inl g) =
          none_there h (to None None (get_after old.configs d k (omega arith)) (get_after old.stacks j.stack k g))
      go (inr h) (inr g) =
          let e : length old.configs ≡ k = omega arith in
          let f : length old.stacks ≡ k = omega arith in
          none_there h (newest (to (Some d) (Some j.stack)
          (subst (λ n. slice_get (old.configs ++ d ∷ []) n ≡ Some d) e (get_last old.configs d))
          (subst (λ n. slice_get (old.stacks ++ j.stack ∷ []) n ≡ Some j.stack) f (get_last old.stacks j.stack))))

  -- a host after more turns
  on : (turns more : List Turn) (o : Option Config) (x y : Option StackView) → (o ≡ None → x ≡ None → more ≡ [])
      → AreBoth (λ s u. AreCalls s more u) x y → Begins c turns t o y
      → Begins c (more ++ turns) t o x
  on turns more None None None none h b = subst (λ (m : List Turn). Started c (m ++ turns) t) (sym (none refl refl)) b
  on turns more None None (Some u) none h b = absurd h
  on turns more None (Some s) None none h b = absurd h
  on turns more None (Some s) (Some u) none h b = absurd b
  on turns more (Some d) None None none h b = absurd b
  on turns more (Some d) None (Some u) none h b = absurd h
  on turns more (Some d) (Some s) None none h b = absurd h
  on turns more (Some d) (Some s) (Some u) none h b = (b.0, then_calls s u t more turns h b.1)

  none_waits : (x : Option StackView) → x ≡ None → transmits_of (waiting_in x) ≡ []
  none_waits None e = refl
  none_waits (Some s) e = absurd (none-some _ (sym e))

  none_comes : (flight : List Flying) (o : Option Config) → o ≡ None → comes (received_in k o flight) ≡ []
  none_comes flight None e = refl
  none_comes flight (Some d) e = absurd (none-some _ (sym e))

  both_give : (x y : Option StackView) → AreBoth (λ s u. AreCalls s (transmits_of (waiting s)) u) x y
      → AreBoth (λ s u. AreCalls s (transmits_of (waiting_in x)) u) x y
  both_give None None h = tt
  both_give None (Some u) h = absurd h
  both_give (Some s) None h = absurd h
  both_give (Some s) (Some u) h = h

  collects : (turns : List Turn) (old new : SegmentView) → IsCollected old new
      → Begins c turns t (slice_get new.configs k) (slice_get new.stacks k)
      → Begins c (turns_in k (Collects old) ++ turns) t (slice_get old.configs k) (slice_get old.stacks k)
  collects turns old new is from =
      on turns (turns_in k (Collects old)) (slice_get old.configs k) (slice_get old.stacks k) (slice_get new.stacks k)
      (λ o x. none_waits (slice_get old.stacks k) x)
      (both_give (slice_get old.stacks k) (slice_get new.stacks k) (is.hosts k))
      (subst (λ (xs : List Config). Begins c turns t (slice_get xs k) (slice_get new.stacks k)) is.configs from)

  delivers : (turns : List Turn) (old new : SegmentView) → HasComeDue old new
      → Begins c turns t (slice_get new.configs k) (slice_get new.stacks k)
      → Begins c (turns_in k (Delivers old) ++ turns) t (slice_get old.configs k) (slice_get old.stacks k)
  delivers turns old new is from =
      on turns (turns_in k (Delivers old)) (slice_get old.configs k) (slice_get old.stacks k) (slice_get new.stacks k)
      (λ o x. none_comes (leaving old).0 (slice_get old.configs k) o)
      (is.hosts k)
      (subst (λ (xs : List Config). Begins c turns t (slice_get xs k) (slice_get new.stacks k)) is.configs from)

  same_both : (x y : Option StackView) → y ≡ x → AreBoth (λ s u. AreCalls s [] u) x y
  same_both None None e = tt
  same_both None (Some u) e = absurd (none-some _ (sym e))
  same_both (Some s) None e = absurd (none-some _ e)
  same_both (Some s) (Some u) e = cc

  some_both : (more : List Turn) (s u : StackView) (x y : Option StackView) → x ≡ Some s → y ≡ Some u
      → AreCalls s more u → AreBoth (λ a b. AreCalls a more b) x y
  some_both more s u x y e f calls =
      subst (λ z. AreBoth (λ a b. AreCalls a more b) z y) (sym e)
      (subst (λ z. AreBoth (λ a b. AreCalls a more b) (Some s) z) (sym f) calls)

  calls : (place : ℕ) (turn : Turn) (turns : List Turn) (old new : SegmentView) → IsHostCalled place turn old new
      → Begins c turns t (slice_get new.configs k) (slice_get new.stacks k)
      → Begins c (turns_in k (Calls place turn) ++ turns) t (slice_get old.configs k) (slice_get old.stacks k)
  calls place turn turns old new is from = by (eqb_tells place k)
    where
      mine : Begins c turns t (slice_get old.configs k) (slice_get (slice_set old.stacks place is.after) k)
      mine = subst (λ (xs : List StackView). Begins c turns t (slice_get old.configs k) (slice_get xs k)) is.stacks
          (subst (λ (xs : List Config). Begins c turns t (slice_get xs k) (slice_get new.stacks k)) is.configs from)

      go : (b : Bool) → ((place == k) ≡ b) → (more : List Turn) → (slice_get old.stacks k ≡ None → more ≡ [])
          → AreBoth (λ s u. AreCalls s more u) (slice_get old.stacks k)
          (slice_get (slice_set old.stacks place is.after) k)
          → (if b then turn ∷ [] else []) ≡ more
          → Begins c (turns_in k (Calls place turn) ++ turns) t (slice_get old.configs k) (slice_get old.stacks k)
      go b e more none both same =
          subst (λ (m : List Turn). Begins c (m ++ turns) t (slice_get old.configs k) (slice_get old.stacks k))
          (sym (ap (λ (x : Bool). if x then turn ∷ [] else []) e ∙ same))
          (on turns more (slice_get old.configs k) (slice_get old.stacks k)
          (slice_get (slice_set old.stacks place is.after) k) (λ o x. none x) both mine)

      by : (((place == k) ≡ true) × (place ≡ k)) ⊎ (((place == k) ≡ false) × (place ≢ k))
          → Begins c (turns_in k (Calls place turn) ++ turns) t (slice_get old.configs k) (slice_get old.stacks k)
      by (inl h) =
          let here : slice_get old.stacks k ≡ Some is.before =
          subst (λ n. slice_get old.stacks n ≡ Some is.before) h.1 is.here in
          let there : slice_get (slice_set old.stacks place is.after) k ≡ Some is.after =
          subst (λ n. slice_get (slice_set old.stacks place is.after) n ≡ Some is.after) h.1
          (get_set_same old.stacks place is.after (get_within old.stacks place is.before is.here)) in
          go true h.0 (turn ∷ []) (λ e. absurd (none-some _ (sym e ∙ here)))
          (some_both (turn ∷ []) is.before is.after _ _ here there is.calls) refl
      by (inr h) = go false h.0 [] (λ e. refl) (same_both _ _ (get_set_other old.stacks place k is.after h.1)) refl

  -- whatever was done
  pub began : (acts : List Act) (v last : SegmentView) → AreBare acts → length v.configs ≡ length v.stacks
      → AreActs v acts last
      → slice_get last.configs k ≡ Some c → slice_get last.stacks k ≡ Some t
      → Begins c (turns_of k acts) t (slice_get v.configs k) (slice_get v.stacks k)
  began [] v last bare even done is_c is_t =
      subst (λ (w : SegmentView). Begins c [] t (slice_get w.configs k) (slice_get w.stacks k)) done
      (subst (λ (o : Option Config). Begins c [] t o (slice_get last.stacks k)) (sym is_c)
      (subst (λ (p : Option StackView). Begins c [] t (Some c) p) (sym is_t) (refl, refl)))
  began (Ether act ∷ acts) v last bare even done is_c is_t = absurd bare.0
  began (Joins d ∷ acts) v last bare even (mid, j, done) is_c is_t = joined d (turns_of k acts) v mid even j
      (began acts mid last bare.1 (ap length j.configs ∙ length-last v.configs d ∙ ap (λ n. n + 1) even
      ∙ sym (ap length j.stacks ∙ length-last v.stacks j.stack)) done is_c is_t)
  began (Calls place turn ∷ acts) v last bare even (mid, is, done) is_c is_t =
      calls place turn (turns_of k acts) v mid is
      (began acts mid last bare.1 (ap length is.configs ∙ even
      ∙ sym (ap length is.stacks ∙ length-set v.stacks place is.after)) done is_c is_t)
  began (Collects found ∷ acts) v last bare even (mid, (found_is, is), done) is_c is_t =
      subst (λ (f : SegmentView). Begins c (turns_in k (Collects f) ++ turns_of k acts) t (slice_get v.configs k)
      (slice_get v.stacks k)) (sym found_is)
      (collects (turns_of k acts) v mid is
      (began acts mid last bare.1 (ap length is.configs ∙ even
      ∙ AtEach-length (λ place s u. AreCalls s (transmits_of (waiting s)) u) v.stacks mid.stacks
      is.hosts) done is_c is_t))
  began (Delivers found ∷ acts) v last bare even (mid, (found_is, is), done) is_c is_t =
      subst (λ (f : SegmentView). Begins c (turns_in k (Delivers f) ++ turns_of k acts) t (slice_get v.configs k)
      (slice_get v.stacks k)) (sym found_is)
      (delivers (turns_of k acts) v mid is
      (began acts mid last bare.1 (ap length is.configs ∙ even
      ∙ AtEach-length (λ place s u. AreCalls s (comes (received_in place (slice_get v.configs place) (leaving v).0))
      u) v.stacks mid.stacks is.hosts) done is_c is_t))
  began (Impairs place chances ∷ acts) v last bare even (mid, is, done) is_c is_t =
      subst (λ (w : SegmentView). Begins c (turns_of k acts) t (slice_get w.configs k) (slice_get w.stacks k)) is
      (began acts mid last bare.1 (subst (λ (w : SegmentView). length w.configs ≡ length w.stacks) (sym is) even) done
      is_c
      is_t)
  began (Seeds seed ∷ acts) v last bare even (mid, is, done) is_c is_t =
      subst (λ (w : SegmentView). Begins c (turns_of k acts) t (slice_get w.configs k) (slice_get w.stacks k)) is
      (began acts mid last bare.1 (subst (λ (w : SegmentView). length w.configs ≡ length w.stacks) (sym is) even) done
      is_c
      is_t)
  began (Loses at ∷ acts) v last bare even (mid, is, done) is_c is_t =
      subst (λ (w : SegmentView). Begins c (turns_of k acts) t (slice_get w.configs k) (slice_get w.stacks k)) is
      (began acts mid last bare.1 (subst (λ (w : SegmentView). length w.configs ≡ length w.stacks) (sym is) even) done
      is_c
      is_t)
  began (Repeats at ∷ acts) v last bare even (mid, is, done) is_c is_t =
      subst (λ (w : SegmentView). Begins c (turns_of k acts) t (slice_get w.configs k) (slice_get w.stacks k)) is
      (began acts mid last bare.1 (subst (λ (w : SegmentView). length w.configs ≡ length w.stacks) (sym is) even) done
      is_c
      is_t)
  began (Swaps at other ∷ acts) v last bare even (mid, is, done) is_c is_t =
      subst (λ (w : SegmentView). Begins c (turns_of k acts) t (slice_get w.configs k) (slice_get w.stacks k)) is
      (began acts mid last bare.1 (subst (λ (w : SegmentView). length w.configs ≡ length w.stacks) (sym is) even) done
      is_c
      is_t)
