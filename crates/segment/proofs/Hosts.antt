-- What holds of all hosts of a segment, whatever was done.
use Rattle.std.proofs.Common.{◌≡◌, ◌≢◌, ◌⊎◌, inl, inr, ℕ, ◌+◌, ◌/◌, ◌^◌, ◌<◌, ◌≤◌, List, [], ◌∷◌, ◌++◌, length, zero, suc, Bool, true, false, Option, None, Some, refl, sym, ap, ◌∙◌, subst, arith}
use Rattle.std.specs.Prelude.{slice_get, slice_set, ◌==◌, ◌||◌, not}
use Rattle.std.specs.List.{AllByRecursion as Each, list_all}
use Rattle.std.proofs.Math.ListN.{length-set}
use Rattle.std.proofs.lemmas.Bool.{and_parts, eqb-true, or_cases}
use Rattle.std.proofs.lemmas.Bool.Decides.{eqb_tells}
use Rattle.std.proofs.lemmas.Option.{none-some, same_Some}
use Rattle.flat_model.specs.Machine.State.{IsConfig, boot, loopback}
use Rattle.flat_model.specs.Runs.Run.{Turn}
use Rattle.flat_model.specs.declared.config.Config.{Config}
use Rattle.flat_model.specs.Amounts.Weight.{Item}
use Rattle.flat_model.proofs.Laws.{each-map_to}
use Rattle.flat_wire.specs.Wire.{ComesFrom, ip_source}
use Rattle.net_stack.specs.Stack.{StackView, state_of}
use Rattle.net_stack.specs.Runs.{AreCalls}
use Rattle.segment.specs.Flying.{comes, transmits_of, waiting}
use Rattle.segment.specs.Segment.{SegmentView, AreBoth, AtEach, IsJoined, are_apart, leaving, no_hosts, received_in, waiting_in}
use Rattle.segment.specs.Law.{Act, Ether, Joins, Calls, Collects, Delivers, Impairs, Seeds, Loses, Repeats, Swaps, IsAct, IsHostCalled, AreActs}
use Rattle.segment.proofs.BareActs.{AreBare, IsBare}
use Rattle.flat_ether.specs.Laws.{IsOwn}
use Rattle.flat_ether.proofs.Lemmas.{IsSourced}
use Rattle.segment.proofs.Sources.{boot_sourced, calls_sourced}
use Rattle.segment.proofs.Walking.{get_set_same, get_set_other}
use Rattle.segment.proofs.History.{AtEach-length, get_front, get_within, length-last}

-- an element of a list with one more is one of the list, or the new one
pub get_last_or : {X : Type 0} (xs : List X) (x y : X) (k : ℕ) → slice_get (xs ++ x ∷ []) k ≡ Some y
    → (slice_get xs k ≡ Some y) ⊎ ((k ≡ length xs) × (x ≡ y))
get_last_or [] x y zero e = inr (refl, same_Some x y e)
get_last_or [] x y (suc k) e = absurd (none-some _ e)
get_last_or (z ∷ xs) x y zero e = inl e
get_last_or (z ∷ xs) x y (suc k) e = go (get_last_or xs x y k e)
  where
    go : (slice_get xs k ≡ Some y) ⊎ ((k ≡ length xs) × (x ≡ y))
        → (slice_get (z ∷ xs) (suc k) ≡ Some y) ⊎ ((suc k ≡ length (z ∷ xs)) × (x ≡ y))
    go (inl h) = inl h
    go (inr h) = inr (ap suc h.0, h.1)

pub get_none : {X : Type 0} (xs : List X) (k : ℕ) → slice_get xs k ≡ None → length xs ≤ k
get_none [] k e = omega arith
get_none (x ∷ xs) zero e = absurd (none-some _ (sym e))
get_none (x ∷ xs) (suc k) e = omega (arith, get_none xs k e)

-- a test that all elements pass
pub all_pass : {X : Type 0} (p : X → Bool) (xs : List X) (k : ℕ) (x : X) → list_all p xs ≡ true → slice_get xs k ≡ Some
    x
    → p x ≡ true
all_pass p [] k x all e = absurd (none-some _ e)
all_pass p (y ∷ xs) zero x all e = subst (λ z. p z ≡ true) (same_Some y x e) (and_parts _ _ all).0
all_pass p (y ∷ xs) (suc k) x all e = all_pass p xs k x (and_parts _ _ all).1 e

-- neither has the other's address, and the first's isn't the other's broadcast address
pub record AreApart (c d : Config) : Type 0 where
  pub addr : c.addr ≢ d.addr
  pub bcast : c.addr ≢ d.bcast
  pub back : d.addr ≢ c.bcast

not_same : (a b : ℕ) → not (a == b) ≡ true → a ≢ b
not_same a b t e = go (eqb_tells a b)
  where
    never : false ≡ true → ⊥
    never x = cc

    go : (((a == b) ≡ true) × (a ≡ b)) ⊎ (((a == b) ≡ false) × (a ≢ b)) → ⊥
    go (inl h) = never (sym (ap not h.0) ∙ t)
    go (inr h) = h.1 e

pub from_are_apart : (c d : Config) → are_apart c d ≡ true → AreApart c d
from_are_apart c d t =
    let first = and_parts _ _ t in
    let second = and_parts _ _ first.1 in
    record {
      addr = not_same c.addr d.addr first.0;
      bcast = not_same c.addr d.bcast second.0;
      back = not_same d.addr c.bcast second.1;
    }

pub turned : (c d : Config) → AreApart c d → AreApart d c
turned c d a = record { addr = λ e. a.addr (sym e); bcast = a.back; back = a.bcast }

-- Every host has a stack whose packets have its address as the source, and all addresses are distinct.
pub record AreFine (v : SegmentView) : Type 0 where
  pub even : length v.configs ≡ length v.stacks
  pub sourced : (k : ℕ) (c : Config) (s : StackView) → slice_get v.configs k ≡ Some c → slice_get v.stacks k ≡ Some s
      → IsSourced c (state_of s)
  pub booted : (k : ℕ) (c : Config) → slice_get v.configs k ≡ Some c → IsConfig c
  pub apart : (i k : ℕ) (c d : Config) → i ≢ k → slice_get v.configs i ≡ Some c → slice_get v.configs k ≡ Some d
      → AreApart c d

pub none_fine : (room : ℕ) → AreFine (no_hosts room)
none_fine room = record {
  even = refl;
  sourced = λ k c s e f. absurd (none-some _ e);
  booted = λ k c e. absurd (none-some _ e);
  apart = λ i k c d h e f. absurd (none-some _ e);
}

joined_fine : (d : Config) (old new : SegmentView) → AreFine old → IsJoined d old new → AreFine new
joined_fine d old new fine j = record {
  even =
      ap length j.configs ∙ length-last old.configs d ∙ ap (λ n. n + 1) fine.even
      ∙ sym (ap length j.stacks ∙ length-last old.stacks j.stack);
  sourced =
      λ k c s e f. stack k c s (config k c e)
      (get_last_or old.stacks j.stack s k (sym (ap (λ xs. slice_get xs k) j.stacks) ∙ f));
  booted = λ k c e. config_is k c (config k c e);
  apart = λ i k a b h e f. both i k a b h (config i a e) (config k b f);
}
  where
    config : (k : ℕ) (c : Config) → slice_get new.configs k ≡ Some c
        → (slice_get old.configs k ≡ Some c) ⊎ ((k ≡ length old.configs) × (d ≡ c))
    config k c e = get_last_or old.configs d c k (sym (ap (λ xs. slice_get xs k) j.configs) ∙ e)

    config_is : (k : ℕ) (c : Config) → (slice_get old.configs k ≡ Some c) ⊎ ((k ≡ length old.configs) × (d ≡ c))
        → IsConfig c
    config_is k c (inl e) = fine.booted k c e
    config_is k c (inr e) = subst IsConfig e.1 j.is_config

    within : {X : Type 0} (xs : List X) (k : ℕ) (x : X) → slice_get xs k ≡ Some x → k ≡ length xs → ⊥
    within xs k x e f = let less : k < length xs = get_within xs k x e in absurd (omega arith)

    stack : (k : ℕ) (c : Config) (s : StackView)
        → (slice_get old.configs k ≡ Some c) ⊎ ((k ≡ length old.configs) × (d ≡ c))
        → (slice_get old.stacks k ≡ Some s) ⊎ ((k ≡ length old.stacks) × (j.stack ≡ s)) → IsSourced c (state_of s)
    stack k c s (inl e) (inl f) = fine.sourced k c s e f
    stack k c s (inl e) (inr f) = absurd (within old.configs k c e (f.0 ∙ sym fine.even))
    stack k c s (inr e) (inl f) = absurd (within old.stacks k s f (e.0 ∙ fine.even))
    stack k c s (inr e) (inr f) =
        boot_sourced c (state_of s) (subst IsConfig e.1 j.is_config)
        (subst (λ (x : StackView). state_of x ≡ boot c) f.1 (j.started ∙ ap boot e.1))

    both : (i k : ℕ) (a b : Config) → i ≢ k → (slice_get old.configs i ≡ Some a) ⊎ ((i ≡ length old.configs) × (d ≡ a))
        → (slice_get old.configs k ≡ Some b) ⊎ ((k ≡ length old.configs) × (d ≡ b)) → AreApart a b
    both i k a b h (inl e) (inl f) = fine.apart i k a b h e f
    both i k a b h (inl e) (inr f) =
        turned b a (from_are_apart b a (subst (λ (x : Config). are_apart x a ≡ true) f.1
        (all_pass (are_apart d) old.configs i a j.apart e)))
    both i k a b h (inr e) (inl f) =
        from_are_apart a b (subst (λ (x : Config). are_apart x b ≡ true) e.1
        (all_pass (are_apart d) old.configs k b j.apart f))
    both i k a b h (inr e) (inr f) = absurd (h (e.0 ∙ sym f.0))

-- the same hosts, after some turns
went_on : (old new : SegmentView) (turns : ℕ → StackView → List Turn) → AreFine old → new.configs ≡ old.configs
    → AtEach (λ place s t. AreCalls s (turns place s) t) old.stacks new.stacks → AreFine new
went_on old new turns fine configs each = record {
  even =
      ap length configs ∙ fine.even ∙ AtEach-length (λ place s t. AreCalls s (turns place s) t) old.stacks new.stacks
      each;
  sourced =
      λ k c t e f. go k c t (slice_get old.stacks k) refl (here k c e)
      (subst (λ o. AreBoth (λ s t. AreCalls s (turns k s) t) (slice_get old.stacks k) o) f (each k));
  booted = λ k c e. fine.booted k c (here k c e);
  apart = λ i k c d h e f. fine.apart i k c d h (here i c e) (here k d f);
}
  where
    here : (k : ℕ) (c : Config) → slice_get new.configs k ≡ Some c → slice_get old.configs k ≡ Some c
    here k c e = sym (ap (λ xs. slice_get xs k) configs) ∙ e

    go : (k : ℕ) (c : Config) (t : StackView) (o : Option StackView) → slice_get old.stacks k ≡ o
        → slice_get old.configs k ≡ Some c → AreBoth (λ s t. AreCalls s (turns k s) t) o (Some t)
        → IsSourced c (state_of t)
    go k c t None e is h = absurd h
    go k c t (Some s) e is h = calls_sourced c s t (turns k s) (fine.sourced k c s is e) h

called_fine : (place : ℕ) (turn : Turn) (old new : SegmentView) → AreFine old → IsHostCalled place turn old new
    → AreFine new
called_fine place turn old new fine is = record {
  even = ap length is.configs ∙ fine.even ∙ sym (ap length is.stacks ∙ length-set old.stacks place is.after);
  sourced = λ k c t e f. go k c t (here k c e) (sym (ap (λ xs. slice_get xs k) is.stacks) ∙ f) (eqb_tells place k);
  booted = λ k c e. fine.booted k c (here k c e);
  apart = λ i k c d h e f. fine.apart i k c d h (here i c e) (here k d f);
}
  where
    here : (k : ℕ) (c : Config) → slice_get new.configs k ≡ Some c → slice_get old.configs k ≡ Some c
    here k c e = sym (ap (λ xs. slice_get xs k) is.configs) ∙ e

    go : (k : ℕ) (c : Config) (t : StackView) → slice_get old.configs k ≡ Some c
        → slice_get (slice_set old.stacks place is.after) k ≡ Some t
        → (((place == k) ≡ true) × (place ≡ k)) ⊎ (((place == k) ≡ false) × (place ≢ k)) → IsSourced c (state_of t)
    go k c t e f (inl h) =
        let after : is.after ≡ t =
        same_Some is.after t (sym (get_set_same old.stacks place is.after
        (get_within old.stacks place is.before is.here)) ∙ subst (λ n. slice_get
        (slice_set old.stacks place is.after) n ≡ Some t) (sym h.1) f) in
        subst (λ (x : StackView). IsSourced c (state_of x)) after
        (calls_sourced c is.before is.after (turn ∷ [])
        (fine.sourced k c is.before e (subst (λ n. slice_get old.stacks n ≡ Some is.before) h.1 is.here)) is.calls)
    go k c t e f (inr h) = fine.sourced k c t e (sym (get_set_other old.stacks place k is.after h.1) ∙ f)

pub act_fine : (act : Act) (old new : SegmentView) → IsBare act → AreFine old → IsAct old act new → AreFine new
act_fine (Ether act) old new bare fine is = absurd bare
act_fine (Joins d) old new bare fine is = joined_fine d old new fine is
act_fine (Calls place turn) old new bare fine is = called_fine place turn old new fine is
act_fine (Collects found) old new bare fine is =
    went_on old new (λ place s. transmits_of (waiting s)) fine is.1.configs is.1.hosts
act_fine (Delivers found) old new bare fine is =
    went_on old new (λ place s. comes (received_in place (slice_get old.configs place) (leaving old).0)) fine
    is.1.configs is.1.hosts
act_fine (Impairs place chances) old new bare fine is =
    subst AreFine (sym is) (record
    { even = fine.even; sourced = fine.sourced; booted = fine.booted; apart = fine.apart })
act_fine (Seeds seed) old new bare fine is =
    subst AreFine (sym is) (record
    { even = fine.even; sourced = fine.sourced; booted = fine.booted; apart = fine.apart })
act_fine (Loses place) old new bare fine is =
    subst AreFine (sym is) (record
    { even = fine.even; sourced = fine.sourced; booted = fine.booted; apart = fine.apart })
act_fine (Repeats place) old new bare fine is =
    subst AreFine (sym is) (record
    { even = fine.even; sourced = fine.sourced; booted = fine.booted; apart = fine.apart })
act_fine (Swaps place other) old new bare fine is =
    subst AreFine (sym is) (record
    { even = fine.even; sourced = fine.sourced; booted = fine.booted; apart = fine.apart })

pub acts_fine : (acts : List Act) (v last : SegmentView) → AreBare acts → AreFine v → AreActs v acts last → AreFine last
acts_fine [] v last bare fine e = subst AreFine (sym e) fine
acts_fine (act ∷ acts) v last bare fine (mid, is, done) =
    acts_fine acts mid last bare.1 (act_fine act v mid bare.0 fine is) done

-- a host keeps its place and its configuration
stays : (act : Act) (old new : SegmentView) (k : ℕ) (c : Config) → IsBare act → IsAct old act new
    → slice_get old.configs k ≡ Some c
    → slice_get new.configs k ≡ Some c
stays (Ether act) old new k c bare is e = absurd bare
stays (Joins d) old new k c bare is e =
    ap (λ xs. slice_get xs k) is.configs ∙ get_front old.configs (d ∷ []) k (get_within old.configs k c e) ∙ e
stays (Calls place turn) old new k c bare is e = ap (λ xs. slice_get xs k) is.configs ∙ e
stays (Collects found) old new k c bare is e = ap (λ xs. slice_get xs k) is.1.configs ∙ e
stays (Delivers found) old new k c bare is e = ap (λ xs. slice_get xs k) is.1.configs ∙ e
stays (Impairs place chances) old new k c bare is e = ap (λ (w : SegmentView). slice_get w.configs k) is ∙ e
stays (Seeds seed) old new k c bare is e = ap (λ (w : SegmentView). slice_get w.configs k) is ∙ e
stays (Loses place) old new k c bare is e = ap (λ (w : SegmentView). slice_get w.configs k) is ∙ e
stays (Repeats place) old new k c bare is e = ap (λ (w : SegmentView). slice_get w.configs k) is ∙ e
stays (Swaps place other) old new k c bare is e = ap (λ (w : SegmentView). slice_get w.configs k) is ∙ e

pub remains : (acts : List Act) (v last : SegmentView) (k : ℕ) (c : Config) → AreBare acts → AreActs v acts last
    → slice_get v.configs k ≡ Some c → slice_get last.configs k ≡ Some c
remains [] v last k c bare done e = ap (λ (w : SegmentView). slice_get w.configs k) done ∙ e
remains (act ∷ acts) v last k c bare (mid, is, done) e =
    remains acts mid last k c bare.1 done (stays act v mid k c bare.0 is e)

-- ---- no other host's packets bear a host's address

-- a packet of one host doesn't have the address of a distinct host as its source
pub not_from : (c d : Config) (bytes : List ℕ) → IsConfig c → AreApart c d → IsOwn d bytes → ¬ ComesFrom c.addr bytes
not_from c d bytes is apart own from =
    go (or_cases ((ip_source bytes == d.addr) || (ip_source bytes == d.bcast)) (ip_source bytes == loopback) own)
  where
    lo : c.addr ≢ loopback
    lo e = is.addr.no_loopback (ap (λ n. n / 2 ^ 24) e)

    first : ((ip_source bytes == d.addr) ≡ true) ⊎ ((ip_source bytes == d.bcast) ≡ true) → ⊥
    first (inl e) = apart.addr (sym from.source ∙ eqb-true (ip_source bytes) d.addr e)
    first (inr e) = apart.bcast (sym from.source ∙ eqb-true (ip_source bytes) d.bcast e)

    go : (((ip_source bytes == d.addr) || (ip_source bytes == d.bcast)) ≡ true) ⊎ ((ip_source bytes == loopback) ≡ true)
        → ⊥
    go (inl e) = first (or_cases (ip_source bytes == d.addr) (ip_source bytes == d.bcast) e)
    go (inr e) = lo (sym from.source ∙ eqb-true (ip_source bytes) loopback e)

-- nor do the packets that wait at such a host
pub none_from : (c : Config) (v : SegmentView) (k : ℕ)
    (configs : (d : Config) → slice_get v.configs k ≡ Some d → AreApart c d) → IsConfig c → AreFine v
    → Each (λ bytes. ¬ ComesFrom c.addr bytes) (waiting_in (slice_get v.stacks k))
none_from c v k configs is fine = go (slice_get v.configs k) (slice_get v.stacks k) refl refl
  where
    go : (o : Option Config) (p : Option StackView) → slice_get v.configs k ≡ o → slice_get v.stacks k ≡ p
        → Each (λ bytes. ¬ ComesFrom c.addr bytes) (waiting_in p)
    go o None e f = tt
    go None (Some s) e f = absurd (never (get_within v.stacks k s f) (get_none v.configs k e))
      where
        never : k < length v.stacks → length v.configs ≤ k → ⊥
        never l m = absurd (omega (arith, fine.even))
    go (Some d) (Some s) e f =
        each-map_to (λ bytes. ¬ ComesFrom c.addr bytes) (λ (item : Item). item.bytes)
        (λ item own. not_from c d item.bytes is (configs d e) own.0) (state_of s).output (fine.sourced k d s e f).output
