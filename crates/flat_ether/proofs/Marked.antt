-- The steps of a machine, and those of them that the laws without end speak of: all but some of the link's turns.
use Rattle.std.proofs.Common.{◌≡◌, ℕ, zero, suc, ◌+◌, Bool, true, false, cond, List, [], ◌∷◌, ◌++◌, length, map, Option, Some, None, refl, sym, ap, ◌∙◌, subst, arith, append_assoc}
use Rattle.std.specs.Prelude.{not, count_by, filter_map}
use Rattle.std.specs.List.{AllByRecursion as Each, cons_option}
use Rattle.std.proofs.lemmas.Bool.{eq-eqb}
use Rattle.std.proofs.lemmas.List.{length-append, length-map, map-append}
use Rattle.std.proofs.lemmas.List.Elements.{filter_map-append}
use Rattle.std.proofs.lemmas.List.Sums.{sum_by-cons}
use Rattle.std.proofs.lemmas.Option.{none-some}
use Rattle.flat_model.specs.Machine.Event.{Event, IsEvent, Transmit}
use Rattle.flat_model.specs.Machine.Ledger.{Ledger}
use Rattle.flat_model.specs.Machine.State.{State}
use Rattle.flat_model.specs.Machine.Step.{StepBy}
use Rattle.flat_model.specs.Runs.Run.{Turn}
use Rattle.flat_model.proofs.Laws.{each-append}
use Rattle.flat_wire.specs.Age.{is_tick, ticks_in}
use Rattle.flat_wire.specs.Ever.{AreNear, IsMadeBySend, uses_id}
use Rattle.flat_wire.specs.Trail.{PassedStep, IsTrail, trail_turns}
use Rattle.flat_wire.specs.Wire.{came_in, packet_in}

-- a step, and whether it's seen
pub record Marked : Type 0 where
  pub step : PassedStep
  pub seen : Bool

-- the link took a packet
pub record IsMute (p : PassedStep) : Type 0 where
  pub event : p.turn.event ≡ Transmit
  pub id : p.new.next_id ≡ p.old.next_id

abbrev pub IsMarked : Marked → Type 0
IsMarked m = m.seen ≡ false → IsMute m.step

abbrev pub all_steps : List Marked → List PassedStep
all_steps ms = map (λ (m : Marked). m.step) ms

abbrev pub all_turns : List Marked → List Turn
all_turns ms = map (λ (m : Marked). m.step.turn) ms

abbrev pub if_seen : Bool → PassedStep → Option PassedStep
if_seen true p = Some p
if_seen false p = None

abbrev pub seen_steps : List Marked → List PassedStep
seen_steps ms = filter_map (λ (m : Marked). if_seen m.seen m.step) ms

abbrev pub seen_turns : List Marked → List Turn
seen_turns ms = trail_turns (seen_steps ms)

pub turns_of_steps : (ms : List Marked) → trail_turns (all_steps ms) ≡ all_turns ms
turns_of_steps [] = refl
turns_of_steps (m ∷ ms) = ap (λ ts. m.step.turn ∷ ts) (turns_of_steps ms)

-- ---- a run of marked steps

-- these turns lead from the first machine to the last; their steps are marked, and these are seen
pub record AreMarked (L : Ledger) (old : State) (turns : List Turn) (new : State) (shown : List PassedStep) : Type 0
  where
    pub all : List Marked
    pub turns_are : all_turns all ≡ turns
    pub trail : IsTrail L old (all_steps all) new
    pub marked : Each IsMarked all
    pub shown_are : seen_steps all ≡ shown

pub none_marked : {L : Ledger} (old new : State) → new ≡ old → AreMarked L old [] new []
none_marked old new e = record { all = []; turns_are = refl; trail = e; marked = tt; shown_are = refl }

pub one_marked : {L : Ledger} (old new : State) (turn : Turn) → IsEvent turn.event
    → StepBy L old turn.event turn.reply new
    → AreMarked L old (turn ∷ []) new (record { old = old; turn = turn; new = new } ∷ [])
one_marked old new turn is step = record {
  all = record { step = record { old = old; turn = turn; new = new }; seen = true } ∷ [];
  turns_are = refl;
  trail = (refl, is, step, refl);
  marked = (λ e. cc, tt);
  shown_are = refl;
}

-- one more step in front that isn't seen
pub mute_marked : {L : Ledger} (old mid : State) (turn : Turn) → turn.event ≡ Transmit → mid.next_id ≡ old.next_id
    → StepBy L old turn.event turn.reply mid → {turns : List Turn} {new : State} {shown : List PassedStep}
    → AreMarked L mid turns new shown → AreMarked L old (turn ∷ turns) new shown
mute_marked {L} old mid turn event id step m = record {
  all = record { step = record { old = old; turn = turn; new = mid }; seen = false } ∷ m.all;
  turns_are = ap (λ ts. turn ∷ ts) m.turns_are;
  trail = (refl, subst IsEvent (sym event) tt, step, m.trail);
  marked = (λ e. record { event = event; id = id }, m.marked);
  shown_are = m.shown_are;
}

then_trail : (L : Ledger) (old mid new : State) (xs ys : List PassedStep) → IsTrail L old xs mid → IsTrail L mid ys new
    → IsTrail L old (xs ++ ys) new
then_trail L old mid new [] ys same later = subst (λ (s : State). IsTrail L s ys new) same later
then_trail L old mid new (x ∷ xs) ys (at, is, step, rest) later =
    (at, is, step, then_trail L x.new mid new xs ys rest later)

pub both_marked : {L : Ledger} (old mid new : State) (xs ys : List Turn) (shown more : List PassedStep)
    → AreMarked L old xs mid shown → AreMarked L mid ys new more → AreMarked L old (xs ++ ys) new (shown ++ more)
both_marked {L} old mid new xs ys shown more a b = record {
  all = a.all ++ b.all;
  turns_are =
      map-append (λ (m : Marked). m.step.turn) a.all b.all ∙ ap (λ ts. ts ++ all_turns b.all) a.turns_are
      ∙ ap (λ ts. xs ++ ts) b.turns_are;
  trail =
      subst (λ ps. IsTrail L old ps new) (sym (map-append (λ (m : Marked). m.step) a.all b.all))
      (then_trail L old mid new (all_steps a.all) (all_steps b.all) a.trail b.trail);
  marked = each-append IsMarked a.all b.all a.marked b.marked;
  shown_are =
      filter_map-append (λ (m : Marked). if_seen m.seen m.step) a.all b.all
      ∙ ap (λ ps. ps ++ seen_steps b.all) a.shown_are ∙ ap (λ ps. shown ++ ps) b.shown_are;
}

-- the same after an act that has one of the turns that are seen, or none
pub then_marked : {L : Ledger} (old mid new : State) (xs ys : List Turn) (step : Option PassedStep)
    (more : List PassedStep)
    → AreMarked L old xs mid (cons_option step []) → AreMarked L mid ys new more
    → AreMarked L old (xs ++ ys) new (cons_option step more)
then_marked old mid new xs ys None more a b = both_marked old mid new xs ys [] more a b
then_marked old mid new xs ys (Some step) more a b = both_marked old mid new xs ys (step ∷ []) more a b

-- ---- a send among the steps that are seen is one among all

record IsSeenSplit (ms : List Marked) (before : List PassedStep) (x : PassedStep) : Type 0 where
  front : List Marked
  rest : List PassedStep
  are : all_steps ms ≡ all_steps front ++ x ∷ rest
  seen : seen_steps front ≡ before
  marked : Each IsMarked front

split_seen : (ms : List Marked) (before : List PassedStep) (x : PassedStep) (after : List PassedStep) → Each IsMarked ms
    → seen_steps ms ≡ before ++ x ∷ after → IsSeenSplit ms before x
split_seen [] before x after is e = absurd (none before e)
  where
    none : (before : List PassedStep) → [] ≡ before ++ x ∷ after → ⊥
    none [] e = cc
    none (y ∷ before) e = cc
split_seen (m ∷ ms) before x after is e = go m.seen refl before (λ earlier. split_seen ms earlier x after is.1) e
  where
    head : (y : PassedStep) (xs ys : List PassedStep) (z : PassedStep) → y ∷ xs ≡ z ∷ ys → y ≡ z
    head y xs ys z e = cc

    tail : (y : PassedStep) (xs ys : List PassedStep) (z : PassedStep) → y ∷ xs ≡ z ∷ ys → xs ≡ ys
    tail y xs ys z e = cc

    more : (b : Bool) → m.seen ≡ b → (earlier before : List PassedStep) → IsSeenSplit ms earlier x
        → cons_option (if_seen b m.step) earlier ≡ before → IsSeenSplit (m ∷ ms) before x
    more b at earlier before s same = record {
      front = m ∷ s.front;
      rest = s.rest;
      are = ap (λ ps. m.step ∷ ps) s.are;
      seen =
          ap (λ c. cons_option (if_seen c m.step) (seen_steps s.front)) at
          ∙ ap (cons_option (if_seen b m.step)) s.seen ∙ same;
      marked = (is.0, s.marked);
    }

    go : (b : Bool) → m.seen ≡ b → (before : List PassedStep)
        → ((earlier : List PassedStep) → seen_steps ms ≡ earlier ++ x ∷ after → IsSeenSplit ms earlier x)
        → cons_option (if_seen b m.step) (seen_steps ms) ≡ before ++ x ∷ after → IsSeenSplit (m ∷ ms) before x
    go false at before later e = more false at before before (later before e) refl
    go true at [] later e = record {
      front = [];
      rest = all_steps ms;
      are = ap (λ p. p ∷ all_steps ms) (head m.step (seen_steps ms) after x e);
      seen = refl;
      marked = tt;
    }
    go true at (y ∷ before) later e =
        more true at before (y ∷ before) (later before (tail m.step (seen_steps ms) (before ++ x ∷ after) y e))
        (ap (λ p. p ∷ before) (head m.step (seen_steps ms) (before ++ x ∷ after) y e))

count_cons : {X : Type 0} (p : X → Bool) (x : X) (xs : List X)
    → count_by p (x ∷ xs) ≡ cond (p x) 1 0 + count_by p xs
count_cons p x xs = sum_by-cons (λ y. cond (p y) 1 0) x xs

-- steps that aren't seen use no identification
same_uses : (ms : List Marked) → Each IsMarked ms → count_by uses_id (all_steps ms) ≡ count_by uses_id (seen_steps ms)
same_uses [] is = refl
same_uses (m ∷ ms) is = go m.seen refl (same_uses ms is.1) (count_cons uses_id m.step (all_steps ms))
  where
    go : (b : Bool) → m.seen ≡ b → count_by uses_id (all_steps ms) ≡ count_by uses_id (seen_steps ms)
        → count_by uses_id (m.step ∷ all_steps ms) ≡ cond (uses_id m.step) 1 0 + count_by uses_id (all_steps ms)
        → count_by uses_id (m.step ∷ all_steps ms) ≡ count_by uses_id (cons_option (if_seen b m.step) (seen_steps ms))
    go true at same size =
        size ∙ ap (λ n. cond (uses_id m.step) 1 0 + n) same ∙ sym (count_cons uses_id m.step (seen_steps ms))
    go false at same size =
        let none : cond {A = ℕ} (uses_id m.step) 1 0 ≡ 0 =
        ap {B = ℕ} (λ b. cond (not b) 1 0) (eq-eqb _ _ (is.0 at).id) in
        omega (arith, none, size, same)

pub made_among : (ms : List Marked) (number : ℕ) (packet : List ℕ) → Each IsMarked ms
    → IsMadeBySend (seen_steps ms) number packet → IsMadeBySend (all_steps ms) number packet
made_among ms number packet is made =
    let s = split_seen ms made.before made.send made.after is made.trail_is in
    record {
      before = all_steps s.front;
      send = made.send;
      after = s.rest;
      trail_is = s.are;
      number_is = same_uses s.front s.marked ∙ ap (count_by uses_id) s.seen ∙ made.number_is;
      uses = made.uses;
      made = made.made;
      queued = made.queued;
      among = made.among;
    }

-- ---- a packet that arrives among all turns arrives among those that are seen

record IsAllSplit (ms : List Marked) (before after : List Turn) (turn : Turn) : Type 0 where
  front : List Marked
  m : Marked
  rest : List Marked
  are : ms ≡ front ++ m ∷ rest
  before_is : all_turns front ≡ before
  turn_is : m.step.turn ≡ turn
  after_is : all_turns rest ≡ after
  marked : IsMarked m
  marked_front : Each IsMarked front
  marked_rest : Each IsMarked rest

split_all : (ms : List Marked) (before after : List Turn) (turn : Turn) → Each IsMarked ms
    → all_turns ms ≡ before ++ turn ∷ after → IsAllSplit ms before after turn
split_all [] [] after turn is e = absurd (none e)
  where
    none : [] ≡ turn ∷ after → ⊥
    none e = cc
split_all [] (x ∷ before) after turn is e = absurd (none e)
  where
    none : [] ≡ x ∷ (before ++ turn ∷ after) → ⊥
    none e = cc
split_all (m ∷ ms) [] after turn is e = record {
  front = [];
  m = m;
  rest = ms;
  are = refl;
  before_is = refl;
  turn_is = head e;
  after_is = tail e;
  marked = is.0;
  marked_front = tt;
  marked_rest = is.1;
}
  where
    head : m.step.turn ∷ all_turns ms ≡ turn ∷ after → m.step.turn ≡ turn
    head e = cc

    tail : m.step.turn ∷ all_turns ms ≡ turn ∷ after → all_turns ms ≡ after
    tail e = cc
split_all (m ∷ ms) (x ∷ before) after turn is e =
    let s = split_all ms before after turn is.1 (tail e) in
    record {
      front = m ∷ s.front;
      m = s.m;
      rest = s.rest;
      are = ap (λ xs. m ∷ xs) s.are;
      before_is = ap (λ ts. m.step.turn ∷ ts) s.before_is ∙ ap (λ t. t ∷ before) (head e);
      turn_is = s.turn_is;
      after_is = s.after_is;
      marked = s.marked;
      marked_front = (is.0, s.marked_front);
      marked_rest = s.marked_rest;
    }
  where
    head : m.step.turn ∷ all_turns ms ≡ x ∷ (before ++ turn ∷ after) → m.step.turn ≡ x
    head e = cc

    tail : m.step.turn ∷ all_turns ms ≡ x ∷ (before ++ turn ∷ after) → all_turns ms ≡ before ++ turn ∷ after
    tail e = cc

-- a turn that brings a packet is seen
is_seen : (m : Marked) (turn : Turn) (packet : List ℕ) → IsMarked m → m.step.turn ≡ turn → packet_in turn ≡ Some packet
    → m.seen ≡ true
is_seen m turn packet is same comes = go m.seen refl
  where
    go : (b : Bool) → m.seen ≡ b → b ≡ true
    go true at = refl
    go false at =
        absurd (none-some packet (ap came_in (sym (is at).event) ∙ ap packet_in same ∙ comes))

-- how many of the first k turns are seen
pub seen_before : List Marked → ℕ → ℕ
seen_before [] k = 0
seen_before (m ∷ ms) zero = 0
seen_before (m ∷ ms) (suc k) = cond m.seen 1 0 + seen_before ms k

place_seen : (front : List Marked) (more : List Marked) → seen_before (front ++ more) (length front)
    ≡ length (seen_turns front)
unfolding seen_before
place_seen [] [] = refl
place_seen [] (m ∷ more) = refl
place_seen (m ∷ front) more = go m.seen (place_seen front more)
  where
    go : (b : Bool) → seen_before (front ++ more) (length front) ≡ length (seen_turns front)
        → cond b 1 0 + seen_before (front ++ more) (length front)
        ≡ length (trail_turns (cons_option (if_seen b m.step) (seen_steps front)))
    go true e = omega (arith, e)
    go false e = omega (arith, e)

-- all turns that are seen, around one of them
around : (front : List Marked) (m : Marked) (rest : List Marked) (turn : Turn) → m.seen ≡ true → m.step.turn ≡ turn
    → seen_turns (front ++ m ∷ rest) ≡ seen_turns front ++ turn ∷ seen_turns rest
around front m rest turn at same =
    ap trail_turns (filter_map-append (λ (x : Marked). if_seen x.seen x.step) front (m ∷ rest))
    ∙ map-append (λ (p : PassedStep). p.turn) (seen_steps front) (seen_steps (m ∷ rest))
    ∙ ap (λ b. seen_turns front ++ trail_turns (cons_option (if_seen b m.step) (seen_steps rest))) at
    ∙ ap (λ t. seen_turns front ++ t ∷ seen_turns rest) same

abbrev ticks : Turn → Bool
ticks turn = is_tick turn.event

same_ticks : (ms : List Marked) → Each IsMarked ms → ticks_in (seen_turns ms) ≡ ticks_in (all_turns ms)
same_ticks [] is = refl
same_ticks (m ∷ ms) is = go m.seen refl (same_ticks ms is.1) (count_cons ticks m.step.turn (all_turns ms))
  where
    go : (b : Bool) → m.seen ≡ b → ticks_in (seen_turns ms) ≡ ticks_in (all_turns ms)
        → ticks_in (m.step.turn ∷ all_turns ms) ≡ cond (is_tick m.step.turn.event) 1 0 + ticks_in (all_turns ms)
        → ticks_in (trail_turns (cons_option (if_seen b m.step) (seen_steps ms)))
        ≡ ticks_in (m.step.turn ∷ all_turns ms)
    go true at same size =
        count_cons ticks m.step.turn (seen_turns ms)
        ∙ ap (λ n. cond (is_tick m.step.turn.event) 1 0 + n) same
        ∙ sym size
    go false at same size =
        let none : cond {A = ℕ} (is_tick m.step.turn.event) 1 0 ≡ 0 =
        ap {B = ℕ} (λ (event : Event). cond (is_tick event) 1 0) (is.0 at).event in
        omega (arith, none, size, same)

-- what holds of each turn that is seen, and of each turn of the link, holds of all
pub all_turns_hold : (P : Turn → Type 0) → ((p : PassedStep) → IsMute p → P p.turn) → (ms : List Marked)
    → Each IsMarked ms → Each P (seen_turns ms) → Each P (all_turns ms)
all_turns_hold P mute [] is h = tt
all_turns_hold P mute (m ∷ ms) is h = go m.seen refl h (all_turns_hold P mute ms is.1)
  where
    go : (b : Bool) → m.seen ≡ b → Each P (trail_turns (cons_option (if_seen b m.step) (seen_steps ms)))
        → (Each P (seen_turns ms) → Each P (all_turns ms)) → Each P (m.step.turn ∷ all_turns ms)
    go true at h later = (h.0, later h.1)
    go false at h later = (mute m.step (is.0 at), later h)

module _ (ms : List Marked) (is : Each IsMarked ms) where
  -- what holds of each packet that arrives in a turn that is seen holds of each packet that arrives
  pub all_arrive : (P : ℕ → List ℕ → Type 0) (Q : List ℕ → Type 0)
      → ((before after : List Turn) (turn : Turn) (packet : List ℕ) → seen_turns ms ≡ before ++ turn ∷ after
      → packet_in turn ≡ Some packet → Q packet → P (length before) packet)
      → (before after : List Turn) (turn : Turn) (packet : List ℕ) → all_turns ms ≡ before ++ turn ∷ after
      → packet_in turn ≡ Some packet → Q packet → P (seen_before ms (length before)) packet
  all_arrive P Q h before after turn packet e comes q =
      let s = split_all ms before after turn is e in
      let at = is_seen s.m turn packet s.marked s.turn_is comes in
      subst (λ k. P k packet)
      (sym (ap (seen_before ms) (ap length (sym s.before_is) ∙ length-map s.front (λ (m : Marked). m.step.turn))
      ∙ ap (λ xs. seen_before xs (length s.front)) s.are ∙ place_seen s.front (s.m ∷ s.rest)))
      (h (seen_turns s.front) (seen_turns s.rest) turn packet
      (ap seen_turns s.are ∙ around s.front s.m s.rest turn at s.turn_is) comes q)

  pub all_near : (address : ℕ) (born : ℕ → ℕ) → AreNear address (seen_turns ms) born
      → AreNear address (all_turns ms) (λ k. born (seen_before ms k))
  all_near address born near before between after one other meet =
      let s = split_all ms before (between ++ other ∷ after) one is meet.came_are in
      let r = split_all s.rest between after other s.marked_rest s.after_is in
      let at = is_seen s.m one meet.first.packet s.marked s.turn_is meet.first.comes in
      let at' = is_seen r.m other meet.second.packet r.marked r.turn_is meet.second.comes in
      let front : ℕ = length (seen_turns s.front) in
      let here : seen_before ms (length before) ≡ front =
      ap (seen_before ms) (ap length (sym s.before_is) ∙ length-map s.front (λ (m : Marked). m.step.turn))
      ∙ ap (λ xs. seen_before xs (length s.front)) s.are ∙ place_seen s.front (s.m ∷ s.rest) in
      let whole : ms ≡ (s.front ++ s.m ∷ r.front) ++ r.m ∷ r.rest =
      s.are ∙ ap (λ xs. s.front ++ s.m ∷ xs) r.are ∙ sym (append_assoc s.front (s.m ∷ r.front) (r.m ∷ r.rest)) in
      let place : length before + 1 + length between ≡ length (s.front ++ s.m ∷ r.front) =
      omega (
        arith,
        ap length s.before_is,
        length-map s.front (λ (m : Marked). m.step.turn),
        ap length r.before_is,
        length-map r.front (λ (m : Marked). m.step.turn),
        length-append s.front (s.m ∷ r.front),
      ) in
      let there : seen_before ms (length before + 1 + length between) ≡ front + 1 + length (seen_turns r.front) =
      ap (seen_before ms) place ∙ ap (λ xs. seen_before xs (length (s.front ++ s.m ∷ r.front))) whole
      ∙ place_seen (s.front ++ s.m ∷ r.front) (r.m ∷ r.rest)
      ∙ ap length (around s.front s.m r.front one at s.turn_is)
      ∙ (let size = length-append (seen_turns s.front) (one ∷ seen_turns r.front) in omega (arith, size)) in
      let close =
      near (seen_turns s.front) (seen_turns r.front) (seen_turns r.rest) one other (record {
        came_are =
            ap seen_turns s.are ∙ around s.front s.m s.rest one at s.turn_is
            ∙ ap (λ ts. seen_turns s.front ++ one ∷ ts)
            (ap seen_turns r.are ∙ around r.front r.m r.rest other at' r.turn_is);
        first = meet.first;
        second = meet.second;
        soon = omega (arith, meet.soon, same_ticks r.front r.marked_front, ap ticks_in r.before_is);
      }) in (
        omega (arith, close.0, ap born here, ap born there),
        omega (arith, close.1, ap born here, ap born there),
      )
