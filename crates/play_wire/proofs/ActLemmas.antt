-- Acts, one after another.
use Rattle.std.proofs.Common.{◌≡◌, ℕ, zero, suc, ◌+◌, add-one, Bool, true, false, List, [], ◌∷◌, ◌++◌, map, replicate, Some, None, refl, sym, ap, ap₂, ◌∙◌, subst}
use Rattle.std.specs.Prelude.{◌&&◌, length, nat_lt, slice_get, slice_set, MatchResult, Result, Ok, Err}
use Rattle.flat_model.specs.Amounts.Choice.{Choice}
use Rattle.flat_model.specs.Machine.Event.{Tick, Done}
use Rattle.flat_model.specs.Runs.Run.{Turn}
use Rattle.net_stack.specs.Runs.{AreCalls, IsTurnOf}
use Rattle.net_stack.specs.Stack.{StackView}
use Rattle.segment.specs.Frames.{IsHostTicked}
use Rattle.segment.specs.Law.{Act, Calls, Collects, Delivers, Ether, TicksHost, IsAct, AreActs}
use Rattle.segment.specs.Segment.{SegmentView, AreCarried, IsCarried, is_linked, is_quiet_segment}
use Rattle.segment.specs.declared.segment.JoinFault.{JoinFault}
use Rattle.play_wire.specs.Acts.{AreLedTo, call_turn, with_stack_at}
use Rattle.play_wire.specs.Inside.{IsExchanged, IsKept}

pub acts_append : (u v w : SegmentView) (xs ys : List Act) → AreActs u xs v → AreActs v ys w → AreActs u (xs ++ ys) w
acts_append u v w [] ys same later = subst (λ (x : SegmentView). AreActs x ys w) same later
acts_append u v w (x ∷ xs) ys (mid, is, rest) later = (mid, is, acts_append mid v w xs ys rest later)

pub moves_not : (v w : SegmentView) → w ≡ v → AreLedTo v w
moves_not v w same = ([], same)

pub moves_on : (u v w : SegmentView) → AreLedTo u v → AreLedTo v w → AreLedTo u w
moves_on u v w (xs, first) (ys, second) = (xs ++ ys, acts_append u v w xs ys first second)

-- ---- one stack among others

pub set_twice : {X : Type 0} (xs : List X) (i : ℕ) (a b : X) → slice_set (slice_set xs i a) i b ≡ slice_set xs i b
set_twice [] i a b = refl
set_twice (x ∷ xs) zero a b = refl
set_twice (x ∷ xs) (suc i) a b = ap (λ ys. x ∷ ys) (set_twice xs i a b)

pub set_same : {X : Type 0} (xs : List X) (i : ℕ) (x : X) → slice_get xs i ≡ Some x → slice_set xs i x ≡ xs
set_same [] i x e = refl
set_same (y ∷ xs) zero x e = cc
set_same (y ∷ xs) (suc i) x e = ap (λ ys. y ∷ ys) (set_same xs i x e)

pub get_set : {X : Type 0} (xs : List X) (i : ℕ) (x y : X) → slice_get xs i ≡ Some x
    → slice_get (slice_set xs i y) i ≡ Some y
get_set [] i x y e = absurd (never e)
  where
    never : None ≡ Some x → ⊥
    never f = cc
get_set (z ∷ xs) zero x y e = refl
get_set (z ∷ xs) (suc i) x y e = get_set xs i x y e

-- calls on a stack are acts on its segment
pub calls_are_acts : (place : ℕ) (v : SegmentView) (turns : List Turn) (s t : StackView)
    → slice_get v.stacks place ≡ Some s → AreCalls s turns t
    → AreActs v (map (Calls place) turns) (with_stack_at place t v)
calls_are_acts place v [] s t here same =
    ap (λ (xs : List StackView). record v { stacks = xs })
    (ap (slice_set v.stacks place) same ∙ set_same v.stacks place s here)
calls_are_acts place v (turn ∷ turns) s t here (range, mid, is, rest) = (
  with_stack_at place mid v,
  record {
    before = s;
    after = mid;
    here = here;
    links = refl;
    calls = (range, mid, is, refl);
    stacks = refl;
    configs = refl;
    flight = refl;
    room = refl;
    chances = refl;
    random = refl;
    tallies = refl;
  },
  subst (λ (xs : List StackView). AreActs (with_stack_at place mid v) (map (Calls place) turns)
      (record v { stacks = xs }))
      (set_twice v.stacks place mid t)
      (calls_are_acts place (with_stack_at place mid v) turns mid t (get_set v.stacks place s mid here) rest),
)

-- ---- ticks

one_more : {X : Type 0} (n : ℕ) (x : X) → replicate n x ++ x ∷ [] ≡ replicate (suc n) x
one_more zero x = refl
one_more (suc n) x = ap (λ xs. x ∷ xs) (one_more n x)

calls_append : (s t u : StackView) (xs ys : List Turn) → AreCalls s xs t → AreCalls t ys u → AreCalls s (xs ++ ys) u
calls_append s t u [] ys same later = subst (λ (x : StackView). AreCalls x ys u) same later
calls_append s t u (x ∷ xs) ys (range, mid, is, rest) later = (range, mid, is, calls_append mid t u xs ys rest later)

pub one_tick_more : (n : ℕ) (s t u : StackView) → AreCalls s (replicate n (call_turn Tick Done)) t
    → IsTurnOf t (call_turn Tick Done) u
    → AreCalls s (replicate (suc n) (call_turn Tick Done)) u
one_tick_more n s t u before step =
    subst (λ (xs : List Turn). AreCalls s xs u) (one_more n (call_turn Tick Done))
    (calls_append s t u (replicate n (call_turn Tick Done)) (call_turn Tick Done ∷ []) before (tt, u, step, refl))

pub one_tick_later : (n : ℕ) (s t u : StackView) → AreCalls s (replicate n (call_turn Tick Done)) t
    → IsTurnOf t (call_turn Tick Done) u
    → AreCalls s (replicate (n + 1) (call_turn Tick Done)) u
one_tick_later n s t u before step =
    subst (λ k. AreCalls s (replicate k (call_turn Tick Done)) u) (sym (add-one n)) (one_tick_more n s t u before step)

-- ---- carries

pub carried_moves : (v w : SegmentView) → IsCarried v w → AreLedTo v w
carried_moves v w (mid, collected, delivered) =
    (Collects v ∷ Delivers mid ∷ [], (mid, (refl, collected), (w, (refl, delivered), refl)))

by_choice : (v w : SegmentView) (n : ℕ) → ((mid : SegmentView) → AreCarried n mid w → AreLedTo mid w) → (b : Bool)
    → is_quiet_segment v ≡ b
    → AreCarried (suc n) v w → AreLedTo v w
by_choice v w n later true e choice = moves_not v w (choice.yes e)
by_choice v w n later false e choice = let more = choice.no e in
    moves_on v more.0 w (carried_moves v more.0 more.1) (later more.0 more.2)

-- ---- acts that change no stack

pub one_act : (v w : SegmentView) (act : Act) → IsAct v act w → AreLedTo v w
one_act v w act is = (act ∷ [], (w, is, refl))

-- ---- the stack of a host, exchanged with another one and put back

pub put_back : (place : ℕ) (v mid w : SegmentView) (spare s t other : StackView) (b : Bool)
    → IsExchanged place v spare mid s
    → Choice b (IsExchanged place mid t w other) (IsKept place mid w)
    → (slice_get v.stacks place ≡ Some s) × (w ≡ with_stack_at place t v)
put_back place v mid w spare s t other b (here, is) back = (here, by b refl)
  where
    there : slice_get mid.stacks place ≡ Some spare
    there = ap (λ (x : SegmentView). slice_get x.stacks place) is ∙ get_set v.stacks place s spare here

    never : None ≡ Some spare → ⊥
    never e = cc

    by : (c : Bool) → b ≡ c → w ≡ with_stack_at place t v
    by true e =
        (back.yes e).1 ∙ ap (with_stack_at place t) is
        ∙ ap (λ (xs : List StackView). record v { stacks = xs }) (set_twice v.stacks place spare t)
    by false e = absurd (never (sym (back.no e).0 ∙ there))

pub calls_move : (place : ℕ) (v mid w : SegmentView) (spare s t other : StackView) (b : Bool) (turns : List Turn)
    → IsExchanged place v spare mid s
    → AreCalls s turns t → Choice b (IsExchanged place mid t w other) (IsKept place mid w) → AreLedTo v w
calls_move place v mid w spare s t other b turns first calls back =
    let put = put_back place v mid w spare s t other b first back in (
      map (Calls place) turns,
      subst (λ (x : SegmentView). AreActs v (map (Calls place) turns) x) (sym put.1)
          (calls_are_acts place v turns s t put.0 calls),
    )

-- ---- hosts on an Ethernet

-- a host joined the Ethernet, or nothing changed
pub joins_or_not : (v w : SegmentView) (act : Act) (came : Result Unit JoinFault) (Why : JoinFault → Type 0)
    → MatchResult came (λ _. IsAct v act w) (λ fault. Why fault × (w ≡ v)) → AreLedTo v w
joins_or_not v w act (Ok done) Why is = one_act v w act is
joins_or_not v w act (Err fault) Why refused = moves_not v w refused.1

set_length : {X : Type 0} (xs : List X) (i : ℕ) (x : X) → length (slice_set xs i x) ≡ length xs
set_length [] i x = refl
set_length (y ∷ xs) zero x = refl
set_length (y ∷ xs) (suc i) x = ap suc (set_length xs i x)

still_linked : (place : ℕ) (v w : SegmentView) → IsHostTicked place v w → is_linked place v ≡ true
    → is_linked place w ≡ true
still_linked place v w is linked =
    ap (is_linked place) is.is
    ∙ ap₂ (λ m n. nat_lt place m && nat_lt place n) (set_length v.stacks place is.stack')
    (set_length v.links place is.link')
    ∙ linked

-- n ticks of the host at a place, and then it's still there
pub record AreTicked (place n : ℕ) (v w : SegmentView) : Type 0 where
  pub acts : AreActs v (replicate n (Ether (TicksHost place))) w
  pub linked : is_linked place w ≡ true

pub none_ticked : (place : ℕ) (v : SegmentView) → is_linked place v ≡ true → AreTicked place 0 v v
none_ticked place v linked = record { acts = refl; linked = linked }

pub one_ticked : (place n : ℕ) (v w x : SegmentView) (b : Bool) → AreTicked place n v w → b ≡ is_linked place w
    → Choice b (IsHostTicked place w x) (x ≡ w) → AreTicked place (n + 1) v x
one_ticked place n v w x b before is choice =
    let ticked : IsHostTicked place w x = choice.yes (is ∙ before.linked) in
    record {
      acts =
          subst (λ k. AreActs v (replicate k (Ether (TicksHost place))) x) (sym (add-one n))
          (subst (λ (acts : List Act). AreActs v acts x) (one_more n (Ether (TicksHost place)))
          (acts_append v w x (replicate n (Ether (TicksHost place))) (Ether (TicksHost place) ∷ []) before.acts
          (x, ticked, refl)));
      linked = still_linked place w x ticked before.linked;
    }
