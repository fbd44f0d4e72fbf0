-- The number of each send of the first machine: how many sends that used an identification came before it.
use Rattle.std.proofs.Common.{◌≡◌, ◌≢◌, ℕ, ◌+◌, ◌%◌, ◌<◌, ◌≤◌, Bool, true, false, List, [], ◌∷◌, ◌++◌, length, refl, sym, ◌∙◌, ap, subst, ◌⊎◌, inl, inr, arith, cond}
use Rattle.std.specs.Prelude.{◌==◌, not, count_by, Contains}
use Rattle.std.proofs.lemmas.Bool.{eqb-true, eq-eqb}
use Rattle.std.proofs.lemmas.List.{append_assoc, append-nil}
use Rattle.std.proofs.lemmas.List.Elements.{All-from_recursion, All-contains}
use Rattle.flat_model.specs.Machine.Event.{IsEvent}
use Rattle.flat_model.specs.Machine.State.{IsConfig, State, boot}
use Rattle.flat_model.specs.declared.config.Config.{Config}
use Rattle.flat_model.specs.Machine.Ledger.{Ledger}
use Rattle.flat_model.specs.Machine.Sending.{Sending}
use Rattle.flat_model.specs.Machine.Step.{StepBy}
use Rattle.flat_model.specs.Runs.Run.{Turn, Leads}
use Rattle.flat_model.proofs.Laws.{count_cons, one_more_turn}
use Rattle.flat_wire.specs.Ever.{IsMadeBySend, uses_id}
use Rattle.flat_wire.specs.Queue.{packets_in_queue}
use Rattle.flat_wire.specs.Trail.{PassedStep, IsTrail, trail_turns}
use Rattle.flat_wire.proofs.Recorded as Recorded
use Rattle.flat_wire.proofs.Recorded.{Among}

pub leads_of : (L : Ledger) (trail : List PassedStep) (old new : State) → IsTrail L old trail new
    → Leads L old (trail_turns trail) new
leads_of L [] old new e = e
leads_of L (p ∷ later) old new (old_is, range, step, rest) = (
  range,
  p.new,
  subst (λ (s : State). StepBy L s p.turn.event p.turn.reply p.new) old_is step,
  leads_of L later p.new new rest,
)

module _ (L : Ledger) (c : Config) (boots : IsConfig c) where
  -- the send with a number; past the last one, anything with the right identification
  unfoldable pub at : List Sending → ℕ → Sending
  at [] n = record {
    id = (c.first_id + n) % 65536;
    source = 0;
    to = record { ip = 0; port = 0 };
    port = 0;
    bytes = [];
  }
  at (x ∷ older) n = cond (n == length older) x (at older n)

  pub ids : (log : List Sending) → Recorded.Numbered L c boots log → (n : ℕ)
      → (at log n).id ≡ (c.first_id + n) % 65536
  unfolding at
  ids [] h n = refl
  ids (x ∷ older) h n = go (n == length older) refl (ids older h.1 n)
    where
      go : (b : Bool) → (n == length older) ≡ b → (at older n).id ≡ (c.first_id + n) % 65536
          → (cond b x (at older n)).id ≡ (c.first_id + n) % 65536
      go true e rest = h.0 ∙ ap (λ m. (c.first_id + m) % 65536) (sym (eqb-true n (length older) e))
      go false e rest = rest

  pub at_newest : (x : Sending) (older : List Sending) → at (x ∷ older) (length older) ≡ x
  unfolding at
  at_newest x older = go (length older == length older) (eq-eqb (length older) (length older) refl)
    where
      go : (b : Bool) → b ≡ true → cond b x (at older (length older)) ≡ x
      go true e = refl
      go false e = absurd (no e)
        where
          no : false ≡ true → ⊥
          no e = cc

  pub at_older : (x : Sending) (older : List Sending) (n : ℕ) → n < length older → at (x ∷ older) n ≡ at older n
  unfolding at
  at_older x older n l = go (n == length older) refl
    where
      go : (b : Bool) → (n == length older) ≡ b → cond b x (at older n) ≡ at older n
      go true e = absurd (omega (arith, l, eqb-true n (length older) e))
      go false e = refl

  -- a run from a state with a log to one with a longer log
  pub record HasNumbers (all before : List Turn) (s : State) (was : Recorded.IsRecorded L c boots before s)
      (trail : List PassedStep) (new : State) : Type 0 where
    pub now : Recorded.IsRecorded L c boots all new
    pub longer : length was.log ≤ length now.log
    pub kept : (n : ℕ) → n < length was.log → at now.log n ≡ at was.log n
    pub up : (x : Sending) (b : List ℕ) → Recorded.IsOf L c boots was.log before s x b
        → Recorded.IsOf L c boots now.log all new x b
    pub made : (n : ℕ) (packet : List ℕ) → IsMadeBySend trail n packet
        → Recorded.IsOf L c boots now.log all new (at now.log (length was.log + n)) packet

  -- one more step before such a run
  module _ (all before : List Turn) (s new : State) (p : PassedStep) (later : List PassedStep)
      (was : Recorded.IsRecorded L c boots before s) (old_is : p.old ≡ s)
      (next : Recorded.IsNext L c boots before p.turn s p.new was)
      (one : (x : Sending) (b : List ℕ) → Recorded.IsOf L c boots was.log before s x b
      → Recorded.IsOf L c boots next.now.log (before ++ p.turn ∷ []) p.new x b)
      (h : HasNumbers all (before ++ p.turn ∷ []) p.new next.now later new) where
    abbrev Longer : Type 0
    Longer = Recorded.IsLonger L c boots (before ++ p.turn ∷ []) s p.new was.log next.now.log

    id_was : p.old.next_id ≡ s.next_id
    id_was = ap (λ (t : State). t.next_id) old_is

    -- the identification differs if one was used
    differs : Longer → p.new.next_id ≢ p.old.next_id
    differs l e =
        let was_id : s.next_id ≡ (c.first_id + length was.log) % 65536 = was.next in
        let used : p.new.next_id ≡ (s.next_id + 1) % 65536 = l.used in absurd (omega (arith, id_was))

    grown : length next.now.log ≡ length was.log + cond (uses_id p) 1 0
    grown = go next.log (p.new.next_id == p.old.next_id) refl
      where
        go : ((p.new.next_id ≡ s.next_id) × (next.now.log ≡ was.log)) ⊎ Longer → (b : Bool)
            → (p.new.next_id == p.old.next_id) ≡ b → length next.now.log ≡ length was.log + cond (not b) 1 0
        go (inl (id, same)) true e = omega (arith, ap length same)
        go (inl (id, same)) false e = absurd (no (sym e ∙ eq-eqb p.new.next_id p.old.next_id (id ∙ sym id_was)))
          where
            no : false ≡ true → ⊥
            no e = cc
        go (inr l) true e = absurd (differs l (eqb-true p.new.next_id p.old.next_id e))
        go (inr l) false e = omega (arith, ap length l.log_is)

    kept_one : (n : ℕ) → n < length was.log → at next.now.log n ≡ at was.log n
    kept_one n less = go next.log
      where
        go : ((p.new.next_id ≡ s.next_id) × (next.now.log ≡ was.log)) ⊎ Longer → at next.now.log n ≡ at was.log n
        go (inl (id, same)) = ap (λ log. at log n) same
        go (inr l) = ap (λ log. at log n) l.log_is ∙ at_older l.newest was.log n less

    of_first : (n : ℕ) (packet : List ℕ) (made : List (List ℕ)) → 0 ≡ n → uses_id p ≡ true
        → packets_in_queue p.new.output ≡ packets_in_queue p.old.output ++ made → Contains made packet
        → Recorded.IsOf L c boots h.now.log all new (at h.now.log (length was.log + n)) packet
    of_first n packet made none uses queued among = go next.log
      where
        go : ((p.new.next_id ≡ s.next_id) × (next.now.log ≡ was.log)) ⊎ Longer
            → Recorded.IsOf L c boots h.now.log all new (at h.now.log (length was.log + n)) packet
        go (inl (id, same)) = absurd (no (ap length same))
          where
            no : length next.now.log ≡ length was.log → ⊥
            no e = omega (arith, e, grown, ap {B = ℕ} (λ b. cond b 1 0) uses)
        go (inr l) =
            let is : at h.now.log (length was.log + n) ≡ l.newest =
            ap (at h.now.log) place ∙ h.kept (length was.log) inside ∙ ap (λ log. at log (length was.log)) l.log_is
            ∙ at_newest l.newest was.log in
            subst (λ x. Recorded.IsOf L c boots h.now.log all new x packet) (sym is)
            (h.up l.newest packet (All-contains (Recorded.IsOf L c boots next.now.log (before ++ p.turn ∷ []) p.new
            l.newest) made packet
            (All-from_recursion _ made (l.queued made
            (queued ∙ ap (λ (t : State). packets_in_queue t.output ++ made) old_is))) among))
          where
            place : length was.log + n ≡ length was.log
            place = omega (arith, none)

            inside : length was.log < length next.now.log
            inside = omega (arith, ap length l.log_is)

    of_later : (n : ℕ) (packet : List ℕ) (later_number : ℕ) → cond (uses_id p) 1 0 + later_number ≡ n
        → IsMadeBySend later later_number packet
        → Recorded.IsOf L c boots h.now.log all new (at h.now.log (length was.log + n)) packet
    of_later n packet k count m =
        subst (λ i. Recorded.IsOf L c boots h.now.log all new (at h.now.log i) packet) same (h.made k packet m)
      where
        same : length next.now.log + k ≡ length was.log + n
        same = omega (arith, grown, count)

    one_more : HasNumbers all before s was (p ∷ later) new
    one_more = record {
      now = h.now;
      longer = omega (arith, h.longer, grown);
      kept = λ n less. h.kept n (omega (arith, less, grown)) ∙ kept_one n less;
      up = λ x b o. h.up x b (one x b o);
      made = λ n packet m. go n packet m m.before m.trail_is m.number_is;
    }
      where
        go : (n : ℕ) (packet : List ℕ) (m : IsMadeBySend (p ∷ later) n packet) (b : List PassedStep)
            → p ∷ later ≡ b ++ m.send ∷ m.after → count_by uses_id b ≡ n
            → Recorded.IsOf L c boots h.now.log all new (at h.now.log (length was.log + n)) packet
        go n packet m [] e count =
            let is : p ≡ m.send = cc in
            of_first n packet m.made count (ap uses_id is ∙ m.uses)
            (ap (λ (q : PassedStep). packets_in_queue q.new.output) is ∙ m.queued
            ∙ ap (λ (q : PassedStep). packets_in_queue q.old.output ++ m.made) (sym is)) m.among
        go n packet m (q ∷ b) e count =
            let is : p ≡ q = cc in
            of_later n packet (count_by uses_id b)
            (ap (λ (r : PassedStep). cond (uses_id r) 1 0 + count_by uses_id b) is ∙ sym (count_cons uses_id q b)
            ∙ count)
            (record {
              before = b;
              send = m.send;
              after = m.after;
              trail_is = cc;
              number_is = refl;
              uses = m.uses;
              made = m.made;
              queued = m.queued;
              among = m.among;
            })

  pub numbers : (all before : List Turn) (s : State) (was : Recorded.IsRecorded L c boots before s)
      → Leads L (boot c) before s → (trail : List PassedStep) (new : State) → all ≡ before ++ trail_turns trail
      → IsTrail L s trail new → HasNumbers all before s was trail new
  numbers all before s was leads [] new total e =
      subst (λ ts. HasNumbers ts before s was [] new) (sym (total ∙ append-nil before))
      (subst (HasNumbers before before s was []) (sym e) here)
    where
      here : HasNumbers before before s was [] s
      here = record {
        now = was;
        longer = omega arith;
        kept = λ n l. refl;
        up = λ x b o. o;
        made = λ n packet m. absurd (none m.before m.send m.after m.trail_is);
      }
        where
          none : (b : List PassedStep) (q : PassedStep) (after : List PassedStep) → [] ≡ b ++ q ∷ after → ⊥
          none [] q after e = cc
          none (r ∷ b) q after e = cc
  numbers all before s was leads (p ∷ later) new total (old_is, range, step, rest) =
      let here : StepBy L s p.turn.event p.turn.reply p.new =
      subst (λ (t : State). StepBy L t p.turn.event p.turn.reply p.new) old_is step in
      let next : Recorded.IsNext L c boots before p.turn s p.new was =
      Recorded.recorded_step L c boots before s p.new p.turn.reply was leads p.turn.event range here in
      one_more all before s new p later was old_is next (one next range here)
      (numbers all (before ++ p.turn ∷ []) p.new next.now
      (one_more_turn L (boot c) s p.new before p.turn leads range here) later new
      (total ∙ sym (append_assoc before (p.turn ∷ []) (trail_turns later))) rest)
    where
      one : (next : Recorded.IsNext L c boots before p.turn s p.new was) → IsEvent p.turn.event
          → StepBy L s p.turn.event p.turn.reply p.new → (x : Sending) (b : List ℕ)
          → Recorded.IsOf L c boots was.log before s x b
          → Recorded.IsOf L c boots next.now.log (before ++ p.turn ∷ []) p.new x b
      one next range here x b o =
          Recorded.later_of L c boots was.log next.now.log before p.turn s p.new range here x b (up next.log) o
        where
          up : ((p.new.next_id ≡ s.next_id) × (next.now.log ≡ was.log))
              ⊎ Recorded.IsLonger L c boots (before ++ p.turn ∷ []) s p.new was.log next.now.log
              → (y : Sending) → Among was.log y → Among next.now.log y
          up (inl (id, same)) y a = subst (λ log. Among log y) (sym same) a
          up (inr l) y a = subst (λ log. Among log y) (sym l.log_is) (inr a)
