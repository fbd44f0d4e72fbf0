-- Each act of a segment keeps what `Holds` says of the first host's packets.
use Rattle.std.proofs.Common.{◌≡◌, ◌≢◌, ◌⊎◌, inl, inr, ℕ, ◌+◌, ◌-◌, ◌^◌, ◌<◌, ◌≤◌, List, [], ◌∷◌, ◌++◌, length, zero, suc, Bool, true, false, cond, Option, None, Some, refl, sym, ap, ◌∙◌, subst, arith}
use Rattle.std.specs.Prelude.{◌==◌, count_by, filter, filter_map, nat_lt, ◌&&◌, slice_get, slice_set, Contains}
use Rattle.std.specs.List.{AllByRecursion as Each, cons_option}
use Rattle.std.proofs.lemmas.Bool.Decides.{eqb_tells}
use Rattle.std.proofs.lemmas.List.{append_assoc, append-nil}
use Rattle.std.proofs.lemmas.List.Elements.{filter_map-append}
use Rattle.std.proofs.lemmas.Option.{none-some, same_Some}
use Rattle.params.specs.declared.TheConstants.{OUTPUT_QUEUE_PACKETS}
use Rattle.flat_model.specs.Amounts.Weight.{Item}
use Rattle.flat_model.specs.Machine.Event.{Comes, Done, Given}
use Rattle.flat_model.specs.Machine.State.{IsConfig, State, boot}
use Rattle.flat_model.specs.Machine.Step.{Transmits}
use Rattle.flat_model.specs.Runs.Run.{Turn}
use Rattle.flat_model.specs.declared.config.Config.{Config}
use Rattle.flat_model.proofs.Laws.{count_cons, each-append, each-map_to, each-take, each-weaker}
use Rattle.flat_wire.specs.Age.{is_tick, ticks_in}
use Rattle.flat_wire.specs.Ever.{uses_id}
use Rattle.flat_wire.specs.Queue.{packets_in_queue}
use Rattle.flat_wire.specs.Wire.{ComesFrom, packet_in}
use Rattle.net_stack.specs.Stack.{StackView, state_of}
use Rattle.net_stack.specs.Runs.{AreCalls, AreCallsOf, PassedCall, steps_of, turns_of_calls}
use Rattle.segment.specs.Chances.{chances_at, no_chances}
use Rattle.segment.specs.Flying.{Flying, comes, flying_aged, is_due, sent_by, transmits_of, waiting, waits}
use Rattle.segment.specs.Segment.{SegmentView, AreBoth, IsCollected, HasComeDue, IsJoined, collected, given_below, leaving, received_in, waiting_in}
use Rattle.segment.specs.Law.{Act, Ether, Joins, Calls, Collects, Delivers, Impairs, Seeds, Loses, Repeats, Swaps, AreActs, IsAct, IsHostCalled, called_in, called_of, turns_in, turns_of}
use Rattle.segment.specs.Delay.{IsLifetime, KeepsDelay, is_collection, is_delivery, sends_of}
use Rattle.segment.specs.declared.chances.Chances.{Chances}
use Rattle.segment.proofs.Hosts.{AreFine, act_fine, get_last_or, get_none}
use Rattle.segment.proofs.BareActs.{AreBare, IsBare}
use Rattle.segment.proofs.Choosing.{each_delayed, each_due, each_early, each_lost, each_repeated, each_shuffled, each_swapped}
use Rattle.segment.proofs.Wires.{each_received, elsewhere}
use Rattle.segment.proofs.Going.{Goes, goes}
use Rattle.segment.proofs.History.{get_within}
use Rattle.segment.proofs.Outputs.{IsDone, is_done, none_added}
use Rattle.segment.proofs.Walking.{get_past}
use Rattle.segment.proofs.Numbered.{HasPassed, count_then, numbered, passed, sends_then, steps_both, then_calls_of, uses, uses_both}
use Rattle.segment.proofs.Lifetimes as Lifetimes

module _ (i j delay a : ℕ) where
  abbrev IsSince : (List Act → Type 0) → List Act → List PassedCall → ℕ → List ℕ → Type 0
  IsSince = Lifetimes.IsSince i j delay a

  abbrev Waits : List Act → Type 0
  Waits = Lifetimes.Waits i j delay a

  abbrev IsUnderWay : ℕ → List Act → Type 0
  IsUnderWay = Lifetimes.IsUnderWay i j delay a

  abbrev HasArrived : ℕ → ℕ → List Act → Type 0
  HasArrived = Lifetimes.HasArrived i j delay a

  abbrev Waiting : List Act → List PassedCall → List ℕ → Type 0
  Waiting = Lifetimes.Waiting i j delay a

  abbrev Flies : List Act → List PassedCall → Flying → Type 0
  Flies = Lifetimes.Flies i j delay a

  abbrev Runs : Config → List PassedCall → StackView → Type 0
  Runs = Lifetimes.Runs i j delay a

  abbrev Arrives : List Act → Act → List PassedCall → Turn → Type 0
  Arrives = Lifetimes.Arrives i j delay a

  abbrev Holds : List Act → SegmentView → Type 0
  Holds = Lifetimes.Holds i j delay a

  module _ (acts : List Act)
      (few_sends : (before lifetime after : List Act) → acts ≡ before ++ (lifetime ++ after)
      → IsLifetime delay j lifetime
      → sends_of i lifetime ≤ 2 ^ 16) where
    -- ---- the calls on the first host in the act

    module _ (past rest : List Act) (act : Act) (v new : SegmentView) (h : Holds past v)
        (is : acts ≡ (past ++ act ∷ []) ++ rest) where
      record HasMore : Type 0 where
        more : List PassedCall
        turns_are : turns_of_calls more ≡ turns_in i act
        few : uses more ≤ count_by numbered (turns_in i act)
        runs : (c : Config) (s : StackView) → slice_get new.configs i ≡ Some c → slice_get new.stacks i ≡ Some s
            → Runs c (h.calls ++ more) s
        none : slice_get new.stacks i ≡ None → h.calls ++ more ≡ []
        waits : Each (Waiting (past ++ act ∷ []) (h.calls ++ more)) (waiting_in (slice_get new.stacks i))

      has_more : Goes i (turns_in i act) v new
          → ((s t : StackView) → slice_get v.stacks i ≡ Some s → AreCalls s (turns_in i act) t
          → (p : HasPassed s (turns_in i act) t)
          → Each (Waiting (past ++ act ∷ []) (h.calls ++ p.calls)) (waiting t)) → HasMore
      has_more g queue = go (slice_get v.stacks i) (slice_get new.stacks i) refl refl g.both
        where
          go : (o p : Option StackView) → slice_get v.stacks i ≡ o → slice_get new.stacks i ≡ p
              → AreBoth (λ s t. AreCalls s (turns_in i act) t) o p → HasMore
          go None None e f b = record {
            more = [];
            turns_are = sym (g.none e);
            few = omega arith;
            runs = λ c s x y. absurd (none-some s (sym f ∙ y));
            none = λ y. ap (λ xs. xs ++ []) (h.none e);
            waits =
                subst (λ o. Each (Waiting (past ++ act ∷ []) (h.calls ++ [])) (waiting_in o)) (sym f) tt;
          }
          go None (Some t) e f b = absurd b
          go (Some s) None e f b = absurd b
          go (Some s) (Some t) e f b = let p = passed s t (turns_in i act) b in record {
            more = p.calls;
            turns_are = p.turns_are;
            few = p.few;
            runs = λ c u x y.
                let r = h.runs c s (sym (ap (λ xs. slice_get xs i) g.configs) ∙ x) e in
                record {
                  start = r.start;
                  starts = r.starts;
                  are =
                      subst (λ (w : StackView). AreCallsOf r.start (h.calls ++ p.calls) w)
                      (same_Some t u (sym f ∙ y))
                      (then_calls_of r.start s t h.calls p.calls r.are p.are);
                };
            none = λ y. absurd (none-some t (sym y ∙ f));
            waits =
                subst (λ o. Each (Waiting (past ++ act ∷ []) (h.calls ++ p.calls)) (waiting_in o)) (sym f)
                (queue s t e b p);
          }

      -- what waited still waits
      still_waits : is_collection act ≡ false → (more : List PassedCall)
          → uses more ≤ count_by numbered (turns_in i act) → (packets : List (List ℕ))
          → Each (Waiting past h.calls) packets → Each (Waiting (past ++ act ∷ []) (h.calls ++ more)) packets
      still_waits kind more few_more packets w =
          each-weaker (λ packet (number, since). (
            number,
            Lifetimes.lift i j delay a past act h.calls more few_more Waits Waits number packet
                (λ acts' none. omega (arith, none, count_then is_collection acts' act false kind)) since,
          )) packets w

      waited : (s : StackView) → slice_get v.stacks i ≡ Some s → Each (Waiting past h.calls) (waiting s)
      waited s e = subst (λ o. Each (Waiting past h.calls) (waiting_in o)) e h.waits

      -- nothing was added
      as_before : is_collection act ≡ false → (s t : StackView) → slice_get v.stacks i ≡ Some s
          → (state_of t).output ≡ (state_of s).output → (p : HasPassed s (turns_in i act) t)
          → Each (Waiting (past ++ act ∷ []) (h.calls ++ p.calls)) (waiting t)
      as_before kind s t e same p =
          subst (λ o. Each (Waiting (past ++ act ∷ []) (h.calls ++ p.calls)) (packets_in_queue o)) (sym same)
          (still_waits kind p.calls p.few (waiting s) (waited s e))

      -- a call was made on the first host
      module _ (fine : AreFine v) (kind : is_collection act ≡ false) (s t : StackView)
          (here : slice_get v.stacks i ≡ Some s) where
        short : length (state_of s).output ≤ OUTPUT_QUEUE_PACKETS
        short = go (slice_get v.configs i) refl
          where
            go : (o : Option Config) → slice_get v.configs i ≡ o
                → length (state_of s).output ≤ OUTPUT_QUEUE_PACKETS
            go None e =
                absurd (omega (arith, get_none v.configs i e, get_within v.stacks i s here, fine.even))
            go (Some c) e = (fine.sourced i c s e here).consistent.short

        each_of : (P : List ℕ → Type 0) (xs : List (List ℕ)) → ((x : List ℕ) → Contains xs x → P x) → Each P xs
        each_of P [] f = tt
        each_of P (x ∷ xs) f =
            (f x (0, omega arith, refl), each_of P xs (λ y c. f y (suc c.0, omega (arith, c.1), c.2)))

        one_call : (c : PassedCall) → uses (c ∷ []) ≤ count_by numbered (turns_in i act) → c.old ≡ s → t ≡ c.new
            → IsDone (state_of c.old) c.turn.event c.turn.reply (state_of c.new)
            → Each (Waiting (past ++ act ∷ []) (h.calls ++ c ∷ [])) (waiting t)
        one_call c few_more at end (inl sent) =
            subst (λ o. Each (Waiting (past ++ act ∷ []) (h.calls ++ c ∷ [])) o) (sym shape)
            (each-append (Waiting (past ++ act ∷ []) (h.calls ++ c ∷ [])) (waiting s) sent.made
            (still_waits kind (c ∷ []) few_more (waiting s) (waited s here))
            (each_of (Waiting (past ++ act ∷ []) (h.calls ++ c ∷ [])) sent.made (λ packet among. (
              uses h.calls,
              record {
                earlier = past;
                since = act ∷ [];
                past_is = refl;
                stage = omega (arith, count_then is_collection [] act false kind);
                made = record {
                  before = steps_of h.calls;
                  send = record { old = state_of c.old; turn = c.turn; new = state_of c.new };
                  after = [];
                  trail_is = steps_both h.calls (c ∷ []);
                  number_is = refl;
                  uses = sent.uses;
                  made = sent.made;
                  queued = queued;
                  among = among;
                };
                below = omega (arith, one, uses_both h.calls (c ∷ []));
                near = omega (arith, few_more, uses_both h.calls (c ∷ []), sends_then i [] act);
              },
            ))))
          where
            queued : packets_in_queue (state_of c.new).output ≡ packets_in_queue (state_of c.old).output ++ sent.made
            queued =
                sent.queued
                (subst (λ (u : StackView). length (state_of u).output ≤ OUTPUT_QUEUE_PACKETS) (sym at) short)

            shape : waiting t ≡ waiting s ++ sent.made
            shape = ap waiting end ∙ queued ∙ ap (λ u. waiting u ++ sent.made) at

            one : uses (c ∷ []) ≡ 1
            one =
                omega (
                  arith,
                  count_cons uses_id (record { old = state_of c.old; turn = c.turn; new = state_of c.new }) [],
                  ap {B = ℕ} (λ b. cond b 1 0) sent.uses,
                )
        one_call c few_more at end (inr (inl same)) =
            subst (λ o. Each (Waiting (past ++ act ∷ []) (h.calls ++ c ∷ [])) o) (sym shape)
            (still_waits kind (c ∷ []) few_more (waiting s) (waited s here))
          where
            shape : waiting t ≡ waiting s
            shape = ap waiting end ∙ ap packets_in_queue same.0 ∙ ap waiting at
        one_call c few_more at end (inr (inr took)) =
            (subst (λ o. Each (Waiting (past ++ act ∷ []) (h.calls ++ c ∷ [])) o) shape
            (still_waits kind (c ∷ []) few_more (waiting s) (waited s here))).1
          where
            shape : waiting s ≡ took.item.bytes ∷ waiting t
            shape =
                ap waiting (sym at) ∙ ap packets_in_queue took.output
                ∙ ap (λ u. took.item.bytes ∷ waiting u) (sym end)

        called_once : (turn : Turn) (calls : List PassedCall) → uses calls ≤ count_by numbered (turns_in i act)
            → AreCallsOf s calls t → turns_of_calls calls ≡ turn ∷ []
            → Each (Waiting (past ++ act ∷ []) (h.calls ++ calls)) (waiting t)
        called_once turn [] few_more are e = absurd (omega (arith, ap length e))
        called_once turn (c ∷ d ∷ more) few_more are e =
            absurd (omega (arith, ap length e))
        called_once turn (c ∷ []) few_more (at, range, step, end) e =
            one_call c few_more at end (is_done (state_of c.old) (state_of c.new) c.turn.reply c.turn.event step)

      -- ---- what is under way

      still_fly : is_delivery act ≡ false → (more : List PassedCall)
          → uses more ≤ count_by numbered (turns_in i act) → (fs : List Flying) → Each (Flies past h.calls) fs
          → Each (Flies (past ++ act ∷ []) (h.calls ++ more)) fs
      still_fly kind more few_more fs w =
          each-weaker (λ f (number, since). (
            number,
            λ from. Lifetimes.lift i j delay a past act h.calls more few_more (IsUnderWay f.wait)
                (IsUnderWay f.wait) number f.packet
                (λ acts' u. Lifetimes.flies_on i j delay a acts' act f.wait f.wait false kind (omega arith) u)
                (since from),
          )) fs w

      -- an act in which no packet arrives, and none is collected or delivered
      module _ (fine : AreFine v) (not_collected : is_collection act ≡ false) (not_delivered : is_delivery act ≡ false)
          (g : Goes i (turns_in i act) v new)
          (slow : (chances_at new.chances i).delay + (chances_at new.chances i).jitter ≤ delay) where
        all_else : (queue : (s t : StackView) → slice_get v.stacks i ≡ Some s → AreCalls s (turns_in i act) t
            → (p : HasPassed s (turns_in i act) t)
            → Each (Waiting (past ++ act ∷ []) (h.calls ++ p.calls)) (waiting t))
            → ((more : List PassedCall) → Each (Arrives (past ++ act ∷ []) act (h.calls ++ more)) (turns_in j act))
            → ((more : List PassedCall) → Each (Flies (past ++ act ∷ []) (h.calls ++ more)) v.flight
            → Each (Flies (past ++ act ∷ []) (h.calls ++ more)) new.flight)
            → Holds (past ++ act ∷ []) new
        all_else queue arrive flies = let m = has_more g queue in
            Lifetimes.holds i j delay a acts few_sends past rest act v new h is m.more m.turns_are m.few
            (arrive m.more) m.runs m.none slow m.waits
            (flies m.more (still_fly not_delivered m.more m.few v.flight h.flies))

    -- ---- each act

    none_arrive : (acts' : List Act) (act : Act) (calls : List PassedCall) (turns : List Turn)
        → Each (λ (turn : Turn). packet_in turn ≡ None) turns → Each (Arrives acts' act calls) turns
    none_arrive acts' act calls turns none =
        each-weaker (λ turn e. (0, λ packet f from. absurd (none-some packet (sym e ∙ f)))) turns none

    transmit_none : (packets : List (List ℕ)) → Each (λ (turn : Turn). packet_in turn ≡ None) (transmits_of packets)
    transmit_none [] = tt
    transmit_none (p ∷ packets) = (refl, transmit_none packets)

    strangers : (acts' : List Act) (act : Act) (calls : List PassedCall) (turns : List Turn)
        → Each (λ p. ¬ ComesFrom a p) (filter_map packet_in turns) → Each (Arrives acts' act calls) turns
    strangers acts' act calls [] h = tt
    strangers acts' act calls (turn ∷ turns) h = go (packet_in turn) refl (λ k. strangers acts' act calls turns k) h
      where
        go : (o : Option (List ℕ)) → packet_in turn ≡ o
            → (Each (λ p. ¬ ComesFrom a p) (filter_map packet_in turns) → Each (Arrives acts' act calls) turns)
            → Each (λ p. ¬ ComesFrom a p) (cons_option o (filter_map packet_in turns))
            → Each (Arrives acts' act calls) (turn ∷ turns)
        go None e rest k = ((0, λ packet f from. absurd (none-some packet (sym e ∙ f))), rest k)
        go (Some q) e rest k = (
          (0, λ packet f from. absurd (k.0 (subst (ComesFrom a) (same_Some packet q (sym f ∙ e)) from))),
          rest k.1,
        )

    comes_same : (s t : StackView) (packets : List (List ℕ)) → AreCalls s (comes packets) t
        → (state_of t).output ≡ (state_of s).output
    comes_same s t [] same = ap (λ (u : StackView). (state_of u).output) same
    comes_same s t (p ∷ packets) (is, mid, call, later) =
        comes_same mid t packets later ∙ none_added p (state_of s) (state_of mid) Done call

    transmits_end : (s t : StackView) (items : List Item) → (state_of s).output ≡ items
        → AreCalls s (transmits_of (packets_in_queue items)) t → (state_of t).output ≡ []
    transmits_end s t [] e same = ap (λ (u : StackView). (state_of u).output) same ∙ e
    transmits_end s t (item ∷ items) e (is, mid, call, later) =
        transmits_end mid t items (ap (λ (u : State). u.output) (step call).1) later
      where
        step : Transmits (state_of s).output (state_of s) (Given (Some item.bytes)) (state_of mid)
            → Transmits (item ∷ items) (state_of s) (Given (Some item.bytes)) (state_of mid)
        step h = subst (λ o. Transmits o (state_of s) (Given (Some item.bytes)) (state_of mid)) e h

    comes_quiet : (packets : List (List ℕ)) → ticks_in (comes packets) ≡ 0
    comes_quiet [] = refl
    comes_quiet (p ∷ packets) =
        omega (
          arith,
          comes_quiet packets,
          count_cons (λ (turn : Turn). is_tick turn.event) (record { event = Comes p; reply = Done }) (comes packets),
        )

    module _ (past rest : List Act) (v new : SegmentView) (h : Holds past v) (fine : AreFine v) where
      called_step : (place : ℕ) (turn : Turn) → acts ≡ (past ++ Calls place turn ∷ []) ++ rest
          → IsHostCalled place turn v new
          → Each (λ p. ¬ ComesFrom a p) (filter_map packet_in (called_in j (Calls place turn)))
          → Holds (past ++ Calls place turn ∷ []) new
      called_step place turn is did outside =
          all_else past rest (Calls place turn) v new h is fine refl refl (goes i (Calls place turn) v new tt fine did)
          (subst (λ cs. (chances_at cs i).delay + (chances_at cs i).jitter ≤ delay) (sym did.chances) h.slow)
          (λ s t here calls p. queue s t here calls p (place == i) refl)
          (λ more. strangers (past ++ Calls place turn ∷ []) (Calls place turn) (h.calls ++ more)
          (turns_in j (Calls place turn)) outside)
          (λ more fly. subst (Each (Flies (past ++ Calls place turn ∷ []) (h.calls ++ more))) (sym did.flight) fly)
        where
          queue : (s t : StackView) → slice_get v.stacks i ≡ Some s
              → AreCalls s (turns_in i (Calls place turn)) t
              → (p : HasPassed s (turns_in i (Calls place turn)) t) → (b : Bool) → (place == i) ≡ b
              → Each (Waiting (past ++ Calls place turn ∷ []) (h.calls ++ p.calls)) (waiting t)
          queue s t here calls p true e =
              called_once past rest (Calls place turn) v new h is fine refl s t here turn p.calls p.few p.are
              (p.turns_are ∙ ap (λ b. cond b (turn ∷ []) []) e)
          queue s t here calls p false e =
              as_before past rest (Calls place turn) v new h is refl s t here
              (ap (λ (u : StackView). (state_of u).output)
              (subst (λ b. AreCalls s (cond b (turn ∷ []) []) t) e calls)) p

      -- an act of the wire alone
      wire_step : (act : Act) → acts ≡ (past ++ act ∷ []) ++ rest → is_collection act ≡ false
          → is_delivery act ≡ false → turns_in i act ≡ [] → turns_in j act ≡ [] → Goes i (turns_in i act) v new
          → (chances_at new.chances i).delay + (chances_at new.chances i).jitter ≤ delay
          → ((P : Flying → Type 0) → Each P v.flight → Each P new.flight) → Holds (past ++ act ∷ []) new
      wire_step act is not_collected not_delivered none_first none_second g slow flies =
          all_else past rest act v new h is fine not_collected not_delivered g slow
          (λ s t here calls p. as_before past rest act v new h is not_collected s t here
          (ap (λ (u : StackView). (state_of u).output) (subst (λ ts. AreCalls s ts t) none_first calls)) p)
          (λ more. subst (Each (Arrives (past ++ act ∷ []) act (h.calls ++ more))) (sym none_second) tt)
          (λ more fly. flies (Flies (past ++ act ∷ []) (h.calls ++ more)) fly)

      -- what a host gives to the wire: only packets of the first have its address
      abbrev IsGiven : Flying → Type 0
      IsGiven f = (f.sender ≡ i → Waiting past h.calls f.packet) × (f.sender ≢ i → ¬ ComesFrom a f.packet)

      given_each : (stacks : List StackView) (n : ℕ)
          → ((k : ℕ)
          → Each (λ packet. IsGiven (record { sender = k; packet = packet; wait = 0 }))
          (waiting_in (slice_get stacks k)))
          → Each IsGiven (given_below stacks n)
      given_each stacks zero g = tt
      given_each stacks (suc n) g =
          each-append IsGiven (given_below stacks n) (sent_by n (waiting_in (slice_get stacks n)))
          (given_each stacks n g)
          (each-map_to IsGiven _ (λ packet k. k) (waiting_in (slice_get stacks n)) (g n))

      collected_step : (found : SegmentView) → acts ≡ (past ++ Collects found ∷ []) ++ rest → found ≡ v
          → IsCollected v new
          → ((k : ℕ) → i ≢ k → Each (λ p. ¬ ComesFrom a p) (waiting_in (slice_get v.stacks k)))
          → Holds (past ++ Collects found ∷ []) new
      collected_step found is found_is did others =
          Lifetimes.holds i j delay a acts few_sends past rest (Collects found) v new h is m.more m.turns_are m.few
          (none_arrive now (Collects found) all (turns_in j (Collects found))
          (transmit_none (waiting_in (slice_get found.stacks j))))
          m.runs m.none
          (subst (λ cs. (chances_at cs i).delay + (chances_at cs i).jitter ≤ delay) (sym did.chances) h.slow)
          m.waits
          (subst (Each (Flies now all)) (sym did.flight)
          (each-take (Flies now all) v.room (v.flight ++ (collected v).0)
          (each-append (Flies now all) v.flight (collected v).0
          (still_fly past rest (Collects found) v new h is refl m.more m.few v.flight h.flies)
          (each_delayed v.chances IsGiven (Flies now all) sends (given_below v.stacks (length v.stacks)) v.random
          (given_each v.stacks (length v.stacks) given)))))
        where
          now : List Act
          now = past ++ Collects found ∷ []

          m : HasMore past rest (Collects found) v new h is
          m = has_more past rest (Collects found) v new h is (goes i (Collects found) v new tt fine (found_is, did))
              (λ s t here calls p. subst (λ o. Each (Waiting now (h.calls ++ p.calls)) (packets_in_queue o))
              (sym (transmits_end s t (state_of s).output refl (subst (λ ps. AreCalls s (transmits_of ps) t)
              (ap (λ (w : SegmentView). waiting_in (slice_get w.stacks i)) found_is ∙ ap waiting_in here) calls))) tt)

          all : List PassedCall
          all = h.calls ++ m.more

          given : (k : ℕ) → Each (λ packet. IsGiven (record { sender = k; packet = packet; wait = 0 }))
              (waiting_in (slice_get v.stacks k))
          given k = go (eqb_tells i k)
            where
              go : (((i == k) ≡ true) × (i ≡ k)) ⊎ (((i == k) ≡ false) × (i ≢ k))
                  → Each (λ packet. IsGiven (record { sender = k; packet = packet; wait = 0 }))
                  (waiting_in (slice_get v.stacks k))
              go (inl (e, same)) =
                  each-weaker (λ packet w. ((λ x. w), (λ x. absurd (x (sym same)))))
                  (waiting_in (slice_get v.stacks k))
                  (subst (λ n. Each (Waiting past h.calls) (waiting_in (slice_get v.stacks n))) same h.waits)
              go (inr (e, other)) =
                  each-weaker (λ packet w. ((λ x. absurd (other (sym x))), (λ x. w)))
                  (waiting_in (slice_get v.stacks k)) (others k other)

          sends : (f : Flying) (wait : ℕ)
              → wait ≤ (chances_at v.chances f.sender).delay + (chances_at v.chances f.sender).jitter → IsGiven f
              → Flies now all (waits wait f)
          sends f wait most g = go (eqb_tells f.sender i)
            where
              go : (((f.sender == i) ≡ true) × (f.sender ≡ i)) ⊎ (((f.sender == i) ≡ false) × (f.sender ≢ i))
                  → Flies now all (waits wait f)
              go (inl (e, same)) =
                  let w = g.0 same in
                  let most' : wait ≤ (chances_at v.chances i).delay + (chances_at v.chances i).jitter =
                  subst (λ k. wait ≤ (chances_at v.chances k).delay + (chances_at v.chances k).jitter) same most in (
                    w.0,
                    λ from. Lifetimes.lift i j delay a past (Collects found) h.calls m.more m.few Waits
                        (IsUnderWay wait) w.0 f.packet
                        (λ since none. Lifetimes.collected_now i j delay a since found wait
                        (omega (arith, most', h.slow)) none) w.1,
                  )
              go (inr (e, other)) = (0, λ from. absurd (g.1 other from))

      delivered_step : (found : SegmentView) → acts ≡ (past ++ Delivers found ∷ []) ++ rest → found ≡ v
          → HasComeDue v new → Holds (past ++ Delivers found ∷ []) new
      delivered_step found is found_is did =
          Lifetimes.holds i j delay a acts few_sends past rest (Delivers found) v new h is m.more m.turns_are m.few
          (subst (λ (w : SegmentView). Each (Arrives now (Delivers found) all)
          (comes (received_in j (slice_get w.configs j) (leaving w).0))) (sym found_is)
          (each-map_to (Arrives now (Delivers found) all) _ (λ packet d. turn packet d)
          (received_in j (slice_get v.configs j) (leaving v).0) (came_each (slice_get v.configs j) (leaving v).0
          (each_shuffled Due v.chances (length (filter is_due v.flight) - 1) 0 (filter is_due v.flight) v.random
          (each_due (Flies past h.calls) (λ (f : Flying). Due f.packet) due v.flight h.flies)))))
          m.runs m.none
          (subst (λ cs. (chances_at cs i).delay + (chances_at cs i).jitter ≤ delay) (sym did.chances) h.slow)
          m.waits
          (subst (Each (Flies now all)) (sym did.flight)
          (each_early (Flies past h.calls) (Flies now all) early v.flight h.flies))
        where
          now : List Act
          now = past ++ Delivers found ∷ []

          m : HasMore past rest (Delivers found) v new h is
          m = has_more past rest (Delivers found) v new h is (goes i (Delivers found) v new tt fine (found_is, did))
              (λ s t here calls p. as_before past rest (Delivers found) v new h is refl s t here
              (comes_same s t (received_in i (slice_get found.configs i) (leaving found).0) calls) p)

          all : List PassedCall
          all = h.calls ++ m.more

          clock : ℕ
          clock = ticks_in (turns_of j now)

          Due : List ℕ → Type 0
          Due packet = (number : ℕ) × (ComesFrom a packet → IsSince (HasArrived clock clock) now all number packet)

          turn : (packet : List ℕ) → Due packet
              → Arrives now (Delivers found) all (record { event = Comes packet; reply = Done })
          turn packet (number, since) = (
            number,
            λ other e from.
                let same : packet ≡ other = same_Some packet other e in (
                  comes_quiet (received_in j (slice_get found.configs j) (leaving found).0),
                  subst (λ p. IsSince (HasArrived clock clock) now all number p) same
                      (since (subst (ComesFrom a) (sym same) from)),
                ),
          )

          came_each : (o : Option Config) (flight : List Flying) → Each (λ (f : Flying). Due f.packet) flight
              → Each Due (received_in j o flight)
          came_each None flight k = tt
          came_each (Some c) flight k = each_received Due j c flight k

          due : (f : Flying) → f.wait ≡ 0 → Flies past h.calls f → Due f.packet
          due f none (number, since) = (
            number,
            λ from. Lifetimes.lift i j delay a past (Delivers found) h.calls m.more m.few (IsUnderWay f.wait)
                (HasArrived clock clock) number
                f.packet
                (λ acts' u. Lifetimes.arrives_now i j delay a acts' found clock
                (subst (λ n. IsUnderWay n acts') none u)) (since from),
          )

          early : (f : Flying) → 0 < f.wait → Flies past h.calls f → Flies now all (flying_aged f)
          early f some (number, since) = (
            number,
            λ from. Lifetimes.lift i j delay a past (Delivers found) h.calls m.more m.few (IsUnderWay f.wait)
                (IsUnderWay (f.wait - 1)) number
                f.packet
                (λ acts' u. Lifetimes.flies_on i j delay a acts' (Delivers found) f.wait (f.wait - 1) true refl
                (omega (arith, some)) u)
                (since from),
          )

      joined_step : (c : Config) → acts ≡ (past ++ Joins c ∷ []) ++ rest → IsJoined c v new
          → Holds (past ++ Joins c ∷ []) new
      joined_step c is did =
          Lifetimes.holds i j delay a acts few_sends past rest (Joins c) v new h is [] refl (omega arith) tt
          (λ d s x y. subst (λ cs. Runs d cs s) (sym (append-nil h.calls)) (runs d s
          (get_last_or v.configs c d i (sym (ap (λ xs. slice_get xs i) did.configs) ∙ x))
          (get_last_or v.stacks did.stack s i (sym (ap (λ xs. slice_get xs i) did.stacks) ∙ y))))
          (λ e. append-nil h.calls
          ∙ h.none (none_before v.stacks did.stack i (sym (ap (λ xs. slice_get xs i) did.stacks) ∙ e)))
          (subst (λ (cs : Chances). cs.delay + cs.jitter ≤ delay)
          (sym (ap (λ cs. chances_at cs i) did.chances ∙ same_chances v.chances i)) h.slow)
          (subst (λ xs. Each (Waiting (past ++ Joins c ∷ []) (h.calls ++ [])) (waiting_in (slice_get xs i)))
          (sym did.stacks)
          (joined_waits v.stacks i
          (still_waits past rest (Joins c) v new h is refl [] (omega arith) (waiting_in (slice_get v.stacks i))
          h.waits)))
          (subst (Each (Flies (past ++ Joins c ∷ []) (h.calls ++ []))) (sym did.flight)
          (still_fly past rest (Joins c) v new h is refl [] (omega arith) v.flight h.flies))
        where
          none_before : (xs : List StackView) (x : StackView) (k : ℕ) → slice_get (xs ++ x ∷ []) k ≡ None
              → slice_get xs k ≡ None
          none_before [] x k e = refl
          none_before (y ∷ xs) x zero e = e
          none_before (y ∷ xs) x (suc k) e = none_before xs x k e

          same_chances : (xs : List Chances) (k : ℕ) → chances_at (xs ++ no_chances ∷ []) k ≡ chances_at xs k
          same_chances [] zero = refl
          same_chances [] (suc k) = refl
          same_chances (x ∷ xs) zero = refl
          same_chances (x ∷ xs) (suc k) = same_chances xs k

          joined_waits : (xs : List StackView) (k : ℕ)
              → Each (Waiting (past ++ Joins c ∷ []) (h.calls ++ [])) (waiting_in (slice_get xs k))
              → Each (Waiting (past ++ Joins c ∷ []) (h.calls ++ [])) (waiting_in (slice_get (xs ++ did.stack ∷ []) k))
          joined_waits [] zero w =
              subst (λ (s : State). Each (Waiting (past ++ Joins c ∷ []) (h.calls ++ [])) (packets_in_queue s.output))
              (sym did.started) tt
          joined_waits [] (suc k) w = tt
          joined_waits (x ∷ xs) zero w = w
          joined_waits (x ∷ xs) (suc k) w = joined_waits xs k w

          runs : (d : Config) (s : StackView)
              → (slice_get v.configs i ≡ Some d) ⊎ ((i ≡ length v.configs) × (c ≡ d))
              → (slice_get v.stacks i ≡ Some s) ⊎ ((i ≡ length v.stacks) × (did.stack ≡ s)) → Runs d h.calls s
          runs d s (inl e) (inl f) = h.runs d s e f
          runs d s (inl e) (inr f) = absurd (omega (arith, get_within v.configs i d e, f.0, fine.even))
          runs d s (inr e) (inl f) = absurd (omega (arith, get_within v.stacks i s f, e.0, fine.even))
          runs d s (inr e) (inr f) = record {
            start = s;
            starts = ap state_of (sym f.1) ∙ did.started ∙ ap boot e.1;
            are = subst (λ cs. AreCallsOf s cs s) (sym (h.none (get_past v.stacks i (omega (arith, f.0))))) refl;
          }

    set_slow : (xs : List Chances) (place k : ℕ) (y : Chances) → (place ≡ k → y.delay + y.jitter ≤ delay)
        → (chances_at xs k).delay + (chances_at xs k).jitter ≤ delay
        → (chances_at (slice_set xs place y) k).delay + (chances_at (slice_set xs place y) k).jitter ≤ delay
    set_slow [] place k y new old = old
    set_slow (x ∷ xs) zero zero y new old = new refl
    set_slow (x ∷ xs) zero (suc k) y new old = old
    set_slow (x ∷ xs) (suc place) zero y new old = old
    set_slow (x ∷ xs) (suc place) (suc k) y new old = set_slow xs place k y (λ e. new (ap suc e)) old

    step : (past rest : List Act) (act : Act) (v new : SegmentView) → acts ≡ (past ++ act ∷ []) ++ rest → IsBare act
        → AreFine v → IsAct v act new → KeepsDelay i delay act
        → Each (λ p. ¬ ComesFrom a p) (filter_map packet_in (called_in j act))
        → ((k : ℕ) → i ≢ k → Each (λ p. ¬ ComesFrom a p) (waiting_in (slice_get v.stacks k))) → Holds past v
        → Holds (past ++ act ∷ []) new
    step past rest (Ether act) v new is bare fine did keeps outside others h = absurd bare
    step past rest (Joins c) v new is bare fine did keeps outside others h = joined_step past rest v new h fine c is did
    step past rest (Calls place turn) v new is bare fine did keeps outside others h =
        called_step past rest v new h fine place turn is did outside
    step past rest (Collects found) v new is bare fine did keeps outside others h =
        collected_step past rest v new h fine found is did.0 did.1 others
    step past rest (Delivers found) v new is bare fine did keeps outside others h =
        delivered_step past rest v new h fine found is did.0 did.1
    step past rest (Impairs place chances) v new is bare fine did keeps outside others h =
        wire_step past rest v new h fine (Impairs place chances) is refl refl refl refl
        (goes i (Impairs place chances) v new tt fine did)
        (subst (λ (w : SegmentView). (chances_at w.chances i).delay + (chances_at w.chances i).jitter ≤ delay) (sym did)
        (set_slow v.chances place i chances keeps h.slow))
        (λ P fly. subst (λ (w : SegmentView). Each P w.flight) (sym did) fly)
    step past rest (Seeds seed) v new is bare fine did keeps outside others h =
        wire_step past rest v new h fine (Seeds seed) is refl refl refl refl (goes i (Seeds seed) v new tt fine did)
        (subst (λ (w : SegmentView). (chances_at w.chances i).delay + (chances_at w.chances i).jitter ≤ delay) (sym did)
        h.slow)
        (λ P fly. subst (λ (w : SegmentView). Each P w.flight) (sym did) fly)
    step past rest (Loses place) v new is bare fine did keeps outside others h =
        wire_step past rest v new h fine (Loses place) is refl refl refl refl (goes i (Loses place) v new tt fine did)
        (subst (λ (w : SegmentView). (chances_at w.chances i).delay + (chances_at w.chances i).jitter ≤ delay) (sym did)
        h.slow)
        (λ P fly. subst (λ (w : SegmentView). Each P w.flight) (sym did) (each_lost P place v.flight fly))
    step past rest (Repeats place) v new is bare fine did keeps outside others h =
        wire_step past rest v new h fine (Repeats place) is refl refl refl refl
        (goes i (Repeats place) v new tt fine did)
        (subst (λ (w : SegmentView). (chances_at w.chances i).delay + (chances_at w.chances i).jitter ≤ delay) (sym did)
        h.slow)
        (λ P fly. subst (λ (w : SegmentView). Each P w.flight) (sym did) (each_repeated P v.room place v.flight fly))
    step past rest (Swaps place other) v new is bare fine did keeps outside others h =
        wire_step past rest v new h fine (Swaps place other) is refl refl refl refl
        (goes i (Swaps place other) v new tt fine did)
        (subst (λ (w : SegmentView). (chances_at w.chances i).delay + (chances_at w.chances i).jitter ≤ delay) (sym did)
        h.slow)
        (λ P fly. subst (λ (w : SegmentView). Each P w.flight) (sym did)
        (each_swapped P (nat_lt place (length v.flight) && nat_lt other (length v.flight)) place other v.flight fly))

    module _ (first : Config) (is_addr : a ≡ first.addr) (is_config : IsConfig first) (last : SegmentView)
        (whole : AreFine last) (first_is : slice_get last.configs i ≡ Some first) where
      pub all_hold : (past rest : List Act) (v : SegmentView) → acts ≡ past ++ rest → AreBare rest → AreFine v
          → AreActs v rest last → Each (KeepsDelay i delay) rest
          → Each (λ p. ¬ ComesFrom a p) (filter_map packet_in (called_of j rest)) → Holds past v → Holds acts last
      all_hold past [] v is bare fine done keeps outside h =
          subst (λ xs. Holds xs last) (sym (is ∙ append-nil past)) (subst (Holds past) (sym done) h)
      all_hold past (act ∷ rest) v is bare fine (mid, did, done) keeps outside h =
          all_hold (past ++ act ∷ []) rest mid at bare.1 (act_fine act v mid bare.0 fine did) done keeps.1 apart.1
          (step past rest act v mid at bare.0 fine did keeps.0 apart.0
          (λ k other. elsewhere i j a (λ p. Unit {0}) first is_addr is_config last whole first_is (act ∷ rest) v bare
          fine
          (mid, did, done) k other) h)
        where
          at : acts ≡ (past ++ act ∷ []) ++ rest
          at = is ∙ sym (append_assoc past (act ∷ []) rest)

          parts : (xs ys : List (List ℕ)) → Each (λ p. ¬ ComesFrom a p) (xs ++ ys)
              → Each (λ p. ¬ ComesFrom a p) xs × Each (λ p. ¬ ComesFrom a p) ys
          parts [] ys k = (tt, k)
          parts (x ∷ xs) ys k = let more = parts xs ys k.1 in ((k.0, more.0), more.1)

          apart : Each (λ p. ¬ ComesFrom a p) (filter_map packet_in (called_in j act))
              × Each (λ p. ¬ ComesFrom a p) (filter_map packet_in (called_of j rest))
          apart =
              parts (filter_map packet_in (called_in j act)) (filter_map packet_in (called_of j rest))
              (subst (Each (λ p. ¬ ComesFrom a p)) (filter_map-append packet_in (called_in j act) (called_of j rest))
              outside)
