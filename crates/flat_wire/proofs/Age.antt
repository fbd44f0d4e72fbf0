-- An unfinished datagram is as old as its ticks say.
use Rattle.std.proofs.Common.{◌≡◌, ℕ, ◌+◌, ◌-◌, Bool, true, false, List, [], ◌∷◌, ◌++◌, map, refl, sym, ◌∙◌, ap, subst, ◌⊎◌, inl, inr, arith, Option, cond}
use Rattle.std.specs.Prelude.{filter, nat_lt}
use Rattle.std.specs.List.{AllByRecursion as Each}
use Rattle.std.proofs.lemmas.List.{append_assoc, append-nil}
use Rattle.std.proofs.lemmas.List.Elements.{All-from_recursion}
use Rattle.std.proofs.lemmas.Bool.{ltb-true}
use Rattle.params.specs.declared.TheConstants.{FRAGMENT_TICKS}
use Rattle.flat_model.specs.Fragments.Overlay.{Map}
use Rattle.flat_model.specs.Machine.Event.{Event, Reply, Open, Bind, Connect, Send, Receive, Close, Set_option, Set_limit, Comes, Transmit, Tick, Ask_counters, Ask_usage}
use Rattle.flat_model.specs.declared.address.Addr.{Addr}
use Rattle.flat_model.specs.Machine.State.{State, Key, Unfinished, boot, begun, is_key}
use Rattle.flat_model.specs.Machine.Ledger.{Ledger}
use Rattle.flat_model.specs.Machine.Step.{StepBy}
use Rattle.flat_model.specs.Runs.Run.{Turn, Leads}
use Rattle.flat_model.proofs.Laws.{count_cons, count-append, each-map, each-append, each-filter, each-weaker}
use Rattle.flat_wire.specs.Age.{CanBegin, IsAsOld, AgeLaw, ticks_in, is_tick}
use Rattle.flat_wire.proofs.Quiet.{IsQuiet, quiet}
use Rattle.flat_wire.proofs.Walk as Walk
use Rattle.flat_wire.proofs.Closed.{IsClosedBy}

-- one more turn
pub ticks_more : (turns : List Turn) (turn : Turn) → ticks_in (turns ++ turn ∷ []) ≡ ticks_in turns + cond
    (is_tick turn.event) 1 0
ticks_more turns turn =
    omega (arith, count-append (λ t. is_tick t.event) turns (turn ∷ []), count_cons (λ t. is_tick t.event) turn [])

module _ (turns : List Turn) (turn : Turn) where
  longer : (key : Key) (left less : ℕ) → less + cond (is_tick turn.event) 1 0 ≡ left → IsAsOld turns key left
      → IsAsOld (turns ++ turn ∷ []) key less
  longer key left less size a = record {
    before = a.before;
    turn = a.turn;
    after = a.after ++ turn ∷ [];
    turns_are = ap (λ ts. ts ++ turn ∷ []) a.turns_are ∙ append_assoc a.before (a.turn ∷ a.after) (turn ∷ []);
    begins = a.begins;
    age = omega (arith, ticks_more a.after turn, size, a.age);
  }

  newest : (key : Key) → CanBegin turn.event key → IsAsOld (turns ++ turn ∷ []) key FRAGMENT_TICKS
  newest key is = record { before = turns; turn = turn; after = []; turns_are = refl; begins = is; age = refl }

  -- during the turn
  abbrev Fresh : Key → ℕ → Type 0
  Fresh key left = IsAsOld turns key left ⊎ ((left ≡ FRAGMENT_TICKS) × CanBegin turn.event key)

  abbrev AreFresh : List Unfinished → Type 0
  AreFresh us = Each (λ u. Fresh u.key u.ticks) us

  abbrev AreOld : List Unfinished → Type 0
  AreOld us = Each (λ u. IsAsOld (turns ++ turn ∷ []) u.key u.ticks) us

  after_it : is_tick turn.event ≡ false → (us : List Unfinished) → AreFresh us → AreOld us
  after_it quiet us fresh = each-weaker one us fresh
    where
      one : (u : Unfinished) → Fresh u.key u.ticks → IsAsOld (turns ++ turn ∷ []) u.key u.ticks
      one u (inl a) = longer u.key u.ticks u.ticks (omega (arith, ap {B = ℕ} (λ b. cond b 1 0) quiet)) a
      one u (inr b) = subst (λ n. IsAsOld (turns ++ turn ∷ []) u.key n) (sym b.0) (newest u.key b.1)

  start : (us : List Unfinished) → Each (λ u. IsAsOld turns u.key u.ticks) us → AreFresh us
  start us old = each-weaker (λ u a. inl a) us old

  closed : (L : Ledger) → IsClosedBy L (CanBegin turn.event) (λ s. AreFresh s.unfinished)
  closed L = record {
    ended = λ why s us. us;
    dropped = λ s us. tt;
    queued = λ fd d s us. us;
    fragment = λ s us. us;
    packet = λ s us. us;
    begins =
        λ k s q us. each-append (λ u. Fresh u.key u.ticks) s.unfinished (begun k ∷ []) us (inr (refl, q), tt);
    sets =
        λ k bytes s q us. each-map (λ u. Fresh u.key u.ticks) _ (λ u g. go bytes u (is_key k u) g) s.unfinished us;
    finishes = λ k s q us. each-filter (λ u. Fresh u.key u.ticks) _ s.unfinished us;
  }
    where
      go : (bytes : Map) (u : Unfinished) (b : Bool) → Fresh u.key u.ticks
          → (let v : Unfinished = cond b (record u { bytes = bytes }) u in Fresh v.key v.ticks)
      go bytes u true g = g
      go bytes u false g = g

  -- a tick
  older : is_tick turn.event ≡ true → (us : List Unfinished) → Each (λ u. IsAsOld turns u.key u.ticks) us
      → AreOld (filter (λ u. nat_lt 0 u.ticks) (map (λ (u : Unfinished). record u { ticks = u.ticks - 1 }) us))
  older tick [] h = tt
  older tick (u ∷ us) h = go (nat_lt 0 (u.ticks - 1)) refl (older tick us h.1)
    where
      rest : List Unfinished
      rest = filter (λ u. nat_lt 0 u.ticks) (map (λ (u : Unfinished). record u { ticks = u.ticks - 1 }) us)

      go : (b : Bool) → nat_lt 0 (u.ticks - 1) ≡ b
          → AreOld (filter (λ u. nat_lt 0 u.ticks) (map (λ (u : Unfinished). record u { ticks = u.ticks - 1 }) us))
          → AreOld (cond b (record u { ticks = u.ticks - 1 }
          ∷ filter (λ u. nat_lt 0 u.ticks) (map (λ (u : Unfinished). record u { ticks = u.ticks - 1 }) us))
          (filter (λ u. nat_lt 0 u.ticks) (map (λ (u : Unfinished). record u { ticks = u.ticks - 1 }) us)))
      go false e later = later
      go true e later = (
        longer u.key u.ticks (u.ticks - 1)
            (omega (arith, ltb-true 0 (u.ticks - 1) e, ap {B = ℕ} (λ b. cond b 1 0) tick)) h.0,
        later,
      )

module _ (L : Ledger) (turns : List Turn) where
  abbrev Olds : List Unfinished → Type 0
  Olds us = Each (λ u. IsAsOld turns u.key u.ticks) us

  step : (event : Event) (reply : Reply) (old new : State) → Olds old.unfinished → StepBy L old event reply new
      → AreOld turns (record { event = event; reply = reply }) new.unfinished
  step event reply old new k h = go event h
    where
      same : (event : Event) → is_tick event ≡ false → Olds new.unfinished
          → AreOld turns (record { event = event; reply = reply }) new.unfinished
      same event quiet k =
          after_it turns (record { event = event; reply = reply }) quiet new.unfinished
          (start turns (record { event = event; reply = reply }) new.unfinished k)

      sends : (fd : ℕ) (to : Option Addr) (bytes : List ℕ) → StepBy L old (Send fd to bytes) reply new
          → AreFresh turns (record { event = Send fd to bytes; reply = reply }) new.unfinished
      sends fd to bytes h =
          Walk.sends L (CanBegin (Send fd to bytes)) (λ cc us c. AreFresh turns t us) (closed turns t L) fd to bytes
          reply old
          new (record { counts = λ cc us c u. u; cuts = λ cc us c u. u; drops = λ cc us c u. u })
          (λ me at c e x ip source p. tt) (start turns t old.unfinished k) h
        where
          t : Turn
          t = record { event = Send fd to bytes; reply = reply }

      comes : (packet : List ℕ) → StepBy L old (Comes packet) reply new
          → AreFresh turns (record { event = Comes packet; reply = reply }) new.unfinished
      comes packet h =
          Walk.comes L (CanBegin (Comes packet)) (λ cc us c. AreFresh turns t us) (closed turns t L) packet reply old
          new
          (λ e f. refl) (start turns t old.unfinished k) h
        where
          t : Turn
          t = record { event = Comes packet; reply = reply }

      quietly : (event : Event) → is_tick event ≡ false → IsQuiet L (λ cc us c. Olds us) event
          → StepBy L old event reply new
          → AreOld turns (record { event = event; reply = reply }) new.unfinished
      quietly event e q h = same event e (quiet L (λ cc us c. Olds us) event reply old new q k h)

      go : (event : Event) → StepBy L old event reply new
          → AreOld turns (record { event = event; reply = reply }) new.unfinished
      go Open h = quietly Open refl tt h
      go (Bind fd a) h = quietly (Bind fd a) refl tt h
      go (Connect fd a) h = quietly (Connect fd a) refl tt h
      go (Send fd to bytes) h =
          after_it turns (record { event = Send fd to bytes; reply = reply }) refl new.unfinished (sends fd to bytes h)
      go (Receive fd most) h = quietly (Receive fd most) refl tt h
      go (Close fd) h = quietly (Close fd) refl tt h
      go (Set_option fd option on) h = quietly (Set_option fd option on) refl tt h
      go (Set_limit fd limit) h = quietly (Set_limit fd limit) refl tt h
      go (Comes packet) h =
          after_it turns (record { event = Comes packet; reply = reply }) refl new.unfinished (comes packet h)
      go Transmit h = quietly Transmit refl tt h
      go Tick h =
          subst (λ (s : State). AreOld turns (record { event = Tick; reply = reply }) s.unfinished) (sym h.1)
          (older turns (record { event = Tick; reply = reply }) refl old.unfinished k)
      go Ask_counters h = quietly Ask_counters refl tt h
      go Ask_usage h = quietly Ask_usage refl tt h

all_steps : (L : Ledger) (before turns : List Turn) (old new : State)
    → Each (λ u. IsAsOld before u.key u.ticks) old.unfinished → Leads L old turns new
    → Each (λ u. IsAsOld (before ++ turns) u.key u.ticks) new.unfinished
all_steps L before [] old new k e =
    subst (λ ts. Each (λ u. IsAsOld ts u.key u.ticks) new.unfinished) (sym (append-nil before))
    (subst (λ (s : State). Each (λ u. IsAsOld before u.key u.ticks) s.unfinished) (sym e) k)
all_steps L before (turn ∷ turns) old new k (is, mid, one, later) =
    subst (λ ts. Each (λ u. IsAsOld ts u.key u.ticks) new.unfinished) (append_assoc before (turn ∷ []) turns)
    (all_steps L (before ++ turn ∷ []) turns mid new (step L before turn.event turn.reply old mid k one) later)

pub age_law_lem : (L : Ledger) → AgeLaw L
age_law_lem L config turns s h =
    All-from_recursion (λ u. IsAsOld turns u.key u.ticks) s.unfinished
    (all_steps L [] turns (boot config) s tt h)
