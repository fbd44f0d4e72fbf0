-- While the packets of a send can arrive or meet others, the first host sends at most 65,536 times. So fragments that
-- can meet come from sends that are near each other.
use Rattle.std.proofs.Common.{◌≡◌, ◌⊎◌, inl, inr, ℕ, ◌+◌, ◌-◌, ◌^◌, ◌<◌, ◌≤◌, List, [], ◌∷◌, ◌++◌, length, take, get_or, zero, suc, Bool, cond, None, Some, refl, sym, ap, ◌∙◌, subst, arith}
use Rattle.std.specs.Prelude.{count_by, slice_get}
use Rattle.std.specs.List.{AllByRecursion as Each}
use Rattle.std.proofs.Math.ListN.{get_or-append}
use Rattle.std.proofs.Math.Seq.{take-append-add}
use Rattle.std.proofs.lemmas.List.{append_assoc, get_or-append-add, length-append, map-append, take-append-le}
use Rattle.std.proofs.lemmas.Option.{none-some, same_Some}
use Rattle.flat_model.specs.Machine.State.{boot}
use Rattle.flat_model.specs.Runs.Run.{Turn}
use Rattle.flat_model.specs.declared.config.Config.{Config}
use Rattle.flat_model.proofs.Laws.{count_cons}
use Rattle.flat_wire.specs.Age.{is_tick, ticks_in}
use Rattle.flat_wire.specs.Ever.{IsMadeBySend}
use Rattle.flat_wire.specs.Wire.{ComesFrom, packet_in}
use Rattle.net_stack.specs.Stack.{StackView, state_of}
use Rattle.net_stack.specs.Runs.{AreCallsOf, PassedCall, steps_of, turns_of_calls}
use Rattle.segment.specs.Chances.{chances_at}
use Rattle.segment.specs.Flying.{Flying, waits}
use Rattle.segment.specs.Segment.{SegmentView, no_hosts, waiting_in}
use Rattle.segment.specs.Law.{Act, Collects, Delivers, turns_in, turns_of}
use Rattle.segment.specs.Delay.{IsLifetime, is_collection, is_delivery, sends_of}
use Rattle.segment.proofs.Numbered.{numbered, turns_then, sends_then, ticks_both, ticks_then, count_then, uses, steps_both, uses_both}

-- ---- a packet of the first host, and the acts since its send

module _ (i j delay a : ℕ) where
  -- it was made by the send with this number, and these acts were done since
  pub record IsSince (Stage : List Act → Type 0) (past : List Act) (calls : List PassedCall) (number : ℕ)
      (packet : List ℕ) : Type 0 where
    pub earlier : List Act
    pub since : List Act
    pub past_is : past ≡ earlier ++ since
    pub stage : Stage since
    pub made : IsMadeBySend (steps_of calls) number packet
    pub below : number < uses calls
    pub near : uses calls ≤ number + sends_of i since

  -- it waits in the output queue
  abbrev pub Waits : List Act → Type 0
  Waits since = count_by is_collection since ≡ 0

  -- it's under way, and due after this many deliveries
  pub record IsUnderWay (wait : ℕ) (since : List Act) : Type 0 where
    pub waits : List Act
    pub found : SegmentView
    pub flies : List Act
    pub since_is : since ≡ waits ++ Collects found ∷ flies
    pub uncollected : count_by is_collection waits ≡ 0
    pub delayed : count_by is_delivery flies + wait ≤ delay

  -- it arrived, after this many ticks of the second host; now there were so many
  pub record HasArrived (clock now : ℕ) (since : List Act) : Type 0 where
    pub waits : List Act
    pub found : SegmentView
    pub flies : List Act
    pub due : SegmentView
    pub meets : List Act
    pub since_is : since ≡ waits ++ Collects found ∷ (flies ++ Delivers due ∷ meets)
    pub uncollected : count_by is_collection waits ≡ 0
    pub delayed : count_by is_delivery flies ≤ delay
    pub ticks : clock + ticks_in (turns_of j meets) ≡ now

  -- ---- one more act

  pub collected_now : (since : List Act) (found : SegmentView) (wait : ℕ) → wait ≤ delay → Waits since
      → IsUnderWay wait (since ++ Collects found ∷ [])
  collected_now since found wait most w = record {
    waits = since;
    found = found;
    flies = [];
    since_is = refl;
    uncollected = w;
    delayed = omega (arith, most);
  }

  pub flies_on : (since : List Act) (act : Act) (wait later : ℕ) (b : Bool) → is_delivery act ≡ b
      → cond b 1 0 + later ≤ wait → IsUnderWay wait since → IsUnderWay later (since ++ act ∷ [])
  flies_on since act wait later b is less w = record {
    waits = w.waits;
    found = w.found;
    flies = w.flies ++ act ∷ [];
    since_is =
        ap (λ xs. xs ++ act ∷ []) w.since_is ∙ append_assoc w.waits (Collects w.found ∷ w.flies) (act ∷ []);
    uncollected = w.uncollected;
    delayed = omega (arith, w.delayed, less, count_then is_delivery w.flies act b is);
  }

  pub arrives_now : (since : List Act) (due : SegmentView) (now : ℕ) → IsUnderWay 0 since
      → HasArrived now now (since ++ Delivers due ∷ [])
  arrives_now since due now w = record {
    waits = w.waits;
    found = w.found;
    flies = w.flies;
    due = due;
    meets = [];
    since_is =
        ap (λ xs. xs ++ Delivers due ∷ []) w.since_is
        ∙ append_assoc w.waits (Collects w.found ∷ w.flies) (Delivers due ∷ []);
    uncollected = w.uncollected;
    delayed = omega (arith, w.delayed);
    ticks = omega arith;
  }

  waits_there : (since : List Act) (act : Act) (clock now : ℕ) → HasArrived clock now since
      → HasArrived clock (now + ticks_in (turns_in j act)) (since ++ act ∷ [])
  waits_there since act clock now w = record {
    waits = w.waits;
    found = w.found;
    flies = w.flies;
    due = w.due;
    meets = w.meets ++ act ∷ [];
    since_is =
        ap (λ xs. xs ++ act ∷ []) w.since_is
        ∙ append_assoc w.waits (Collects w.found ∷ (w.flies ++ Delivers w.due ∷ w.meets)) (act ∷ [])
        ∙ ap (λ xs. w.waits ++ Collects w.found ∷ xs) (append_assoc w.flies (Delivers w.due ∷ w.meets) (act ∷ []));
    uncollected = w.uncollected;
    delayed = w.delayed;
    ticks = omega (arith, w.ticks, ticks_then j w.meets act);
  }

  made_still : (calls more : List PassedCall) (number : ℕ) (packet : List ℕ)
      → IsMadeBySend (steps_of calls) number packet → IsMadeBySend (steps_of (calls ++ more)) number packet
  made_still calls more number packet m = record {
    before = m.before;
    send = m.send;
    after = m.after ++ steps_of more;
    trail_is =
        steps_both calls more ∙ ap (λ xs. xs ++ steps_of more) m.trail_is
        ∙ append_assoc m.before (m.send ∷ m.after) (steps_of more);
    number_is = m.number_is;
    uses = m.uses;
    made = m.made;
    queued = m.queued;
    among = m.among;
  }

  module _ (past : List Act) (act : Act) (calls more : List PassedCall)
      (few : uses more ≤ count_by numbered (turns_in i act)) where
    abbrev later : List Act
    later = past ++ act ∷ []

    pub lift : (S T : List Act → Type 0) (number : ℕ) (packet : List ℕ)
        → ((since : List Act) → S since → T (since ++ act ∷ [])) → IsSince S past calls number packet
        → IsSince T later (calls ++ more) number packet
    lift S T number packet on w = record {
      earlier = w.earlier;
      since = w.since ++ act ∷ [];
      past_is = ap (λ xs. xs ++ act ∷ []) w.past_is ∙ append_assoc w.earlier w.since (act ∷ []);
      stage = on w.since w.stage;
      made = made_still calls more number packet w.made;
      below = omega (arith, w.below, uses_both calls more);
      near = omega (arith, w.near, few, uses_both calls more, sends_then i w.since act);
    }

  -- ---- what holds after any acts

  -- a packet that waits at the first host
  abbrev pub Waiting : List Act → List PassedCall → List ℕ → Type 0
  Waiting past calls packet = (number : ℕ) × IsSince Waits past calls number packet

  -- a packet that is under way
  abbrev pub Flies : List Act → List PassedCall → Flying → Type 0
  Flies past calls f =
      (number : ℕ) × (ComesFrom a f.packet → IsSince (IsUnderWay f.wait) past calls number f.packet)

  -- these calls lead there from a start with this configuration
  pub record Runs (c : Config) (calls : List PassedCall) (s : StackView) : Type 0 where
    pub start : StackView
    pub starts : state_of start ≡ boot c
    pub are : AreCallsOf start calls s

  -- the turn at a place brings a packet with the first one's address
  pub record Brings (turns : List Turn) (k : ℕ) (packet : List ℕ) : Type 0 where
    pub turn : Turn
    pub here : slice_get turns k ≡ Some turn
    pub comes : packet_in turn ≡ Some packet
    pub from : ComesFrom a packet

  abbrev pub AreClose : ℕ → ℕ → Type 0
  AreClose n m = (n < m + 2 ^ 16) × (m < n + 2 ^ 16)

  pub record Holds (past : List Act) (v : SegmentView) : Type 0 where
    pub calls : List PassedCall
    pub turns_are : turns_of_calls calls ≡ turns_of i past
    pub runs : (c : Config) (s : StackView) → slice_get v.configs i ≡ Some c → slice_get v.stacks i ≡ Some s
        → Runs c calls s
    pub none : slice_get v.stacks i ≡ None → calls ≡ []
    pub slow : (chances_at v.chances i).delay + (chances_at v.chances i).jitter ≤ delay
    pub waits : Each (Waiting past calls) (waiting_in (slice_get v.stacks i))
    pub flies : Each (Flies past calls) v.flight
    pub born : List ℕ
    pub born_each : length born ≡ length (turns_of j past)
    pub came : (k : ℕ) (packet : List ℕ) → Brings (turns_of j past) k packet
        → IsSince (HasArrived (ticks_in (take (k + 1) (turns_of j past))) (ticks_in (turns_of j past))) past calls
        (get_or born k 0) packet
    pub near : (k l : ℕ) (one other : List ℕ) → k < l → Brings (turns_of j past) k one
        → Brings (turns_of j past) l other
        → ticks_in (take l (turns_of j past)) < ticks_in (take (k + 1) (turns_of j past)) + 60
        → AreClose (get_or born k 0) (get_or born l 0)

  -- ---- arrivals at the second host

  -- a turn in an act, and the number of the packet that arrives
  abbrev pub Arrives : List Act → Act → List PassedCall → Turn → Type 0
  Arrives later act calls turn =
      (number : ℕ) × ((packet : List ℕ) → packet_in turn ≡ Some packet → ComesFrom a packet
      → (ticks_in (turns_in j act) ≡ 0)
      × IsSince (HasArrived (ticks_in (turns_of j later)) (ticks_in (turns_of j later))) later calls number packet)

  numbers_of : (P : ℕ → Turn → Type 0) (turns : List Turn) → Each (λ turn. (number : ℕ) × P number turn) turns
      → (numbers : List ℕ) × (length numbers ≡ length turns)
      × ((m : ℕ) (turn : Turn) → slice_get turns m ≡ Some turn → P (get_or numbers m 0) turn)
  numbers_of P [] h = ([], refl, λ m turn e. absurd (none-some _ e))
  numbers_of P (one ∷ turns) h =
      let rest = numbers_of P turns h.1 in (h.0.0 ∷ rest.0, ap suc rest.1, at rest.0 rest.2)
    where
      at : (numbers : List ℕ)
          → ((m : ℕ) (turn : Turn) → slice_get turns m ≡ Some turn → P (get_or numbers m 0) turn)
          → (m : ℕ) (turn : Turn) → slice_get (one ∷ turns) m ≡ Some turn → P (get_or (h.0.0 ∷ numbers) m 0) turn
      at numbers after zero turn e = subst (P h.0.0) (same_Some one turn e) h.0.1
      at numbers after (suc m) turn e = after m turn e

  -- a place in two lists of turns is one in the first or in the second
  in_either : (xs ys : List Turn) (k : ℕ) (turn : Turn) → slice_get (xs ++ ys) k ≡ Some turn
      → ((k < length xs) × (slice_get xs k ≡ Some turn))
      ⊎ ((m : ℕ) × (k ≡ length xs + m) × (slice_get ys m ≡ Some turn))
  in_either [] ys k turn e = inr (k, omega arith, e)
  in_either (x ∷ xs) ys zero turn e = inl (omega arith, e)
  in_either (x ∷ xs) ys (suc k) turn e = go (in_either xs ys k turn e)
    where
      go : ((k < length xs) × (slice_get xs k ≡ Some turn))
          ⊎ ((m : ℕ) × (k ≡ length xs + m) × (slice_get ys m ≡ Some turn))
          → ((suc k < length (x ∷ xs)) × (slice_get (x ∷ xs) (suc k) ≡ Some turn))
          ⊎ ((m : ℕ) × (suc k ≡ length (x ∷ xs) + m) × (slice_get ys m ≡ Some turn))
      go (inl h) = inl (omega (arith, h.0), h.1)
      go (inr (m, at, is)) = inr (m, omega (arith, at), is)

  few_ticks : (xs : List Turn) (m : ℕ) → ticks_in (take m xs) ≤ ticks_in xs
  few_ticks xs zero = omega arith
  few_ticks [] (suc m) = omega arith
  few_ticks (x ∷ xs) (suc m) =
      omega (
        arith,
        few_ticks xs m,
        count_cons (λ (turn : Turn). is_tick turn.event) x (take m xs),
        count_cons (λ (turn : Turn). is_tick turn.event) x xs,
      )

  module _ (acts : List Act)
      (few_sends : (before lifetime after : List Act) → acts ≡ before ++ (lifetime ++ after)
      → IsLifetime delay j lifetime
      → sends_of i lifetime ≤ 2 ^ 16) where
    -- while it can meet others, there are few sends
    few_since : (past rest : List Act) (calls : List PassedCall) (number : ℕ) (packet : List ℕ) (clock now : ℕ)
        → acts ≡ past ++ rest → now < clock + 60 → IsSince (HasArrived clock now) past calls number packet
        → uses calls ≤ number + 2 ^ 16
    few_since past rest calls number packet clock now e soon w =
        omega (
          arith,
          w.near,
          few_sends w.earlier w.since rest
              (e ∙ ap (λ xs. xs ++ rest) w.past_is ∙ append_assoc w.earlier w.since rest) (record {
                waits = w.stage.waits;
                found = w.stage.found;
                flies = w.stage.flies;
                due = w.stage.due;
                meets = w.stage.meets;
                acts_are = w.stage.since_is;
                uncollected = w.stage.uncollected;
                delayed = w.stage.delayed;
                soon = omega (arith, w.stage.ticks, soon);
              }),
        )

    module _ (past rest : List Act) (act : Act) (v new : SegmentView) (h : Holds past v)
        (is : acts ≡ (past ++ act ∷ []) ++ rest) (more : List PassedCall)
        (turns_are : turns_of_calls more ≡ turns_in i act)
        (few_more : uses more ≤ count_by numbered (turns_in i act))
        (arrive : Each (Arrives (past ++ act ∷ []) act (h.calls ++ more)) (turns_in j act)) where
      abbrev now : List Act
      now = past ++ act ∷ []

      abbrev all : List PassedCall
      all = h.calls ++ more

      abbrev old_turns : List Turn
      old_turns = turns_of j past

      added : (numbers : List ℕ) × (length numbers ≡ length (turns_in j act))
          × ((m : ℕ) (turn : Turn) → slice_get (turns_in j act) m ≡ Some turn → (packet : List ℕ)
          → packet_in turn ≡ Some packet → ComesFrom a packet
          → (ticks_in (turns_in j act) ≡ 0)
          × IsSince (HasArrived (ticks_in (turns_of j now)) (ticks_in (turns_of j now))) now all
          (get_or numbers m 0) packet)
      added = numbers_of _ (turns_in j act) arrive

      abbrev numbers : List ℕ
      numbers = h.born ++ added.0

      -- an arrival before the act, or in it
      record Before (k : ℕ) (packet : List ℕ) : Type 0 where
        brings : Brings old_turns k packet
        below : k < length old_turns
        number : get_or numbers k 0 ≡ get_or h.born k 0
        clock : (m : ℕ) → m ≤ k + 1 → take m (turns_of j now) ≡ take m old_turns

      record Then (k : ℕ) (packet : List ℕ) : Type 0 where
        past_all : length old_turns ≤ k
        quiet : ticks_in (turns_in j act) ≡ 0
        since : IsSince (HasArrived (ticks_in (turns_of j now)) (ticks_in (turns_of j now))) now all
            (get_or numbers k 0) packet

      which : (k : ℕ) (packet : List ℕ) → Brings (turns_of j now) k packet → Before k packet ⊎ Then k packet
      which k packet b =
          go (in_either old_turns (turns_in j act) k b.turn
          (subst (λ ts. slice_get ts k ≡ Some b.turn) (turns_then j past act) b.here))
        where
          go : ((k < length old_turns) × (slice_get old_turns k ≡ Some b.turn))
              ⊎ ((m : ℕ) × (k ≡ length old_turns + m) × (slice_get (turns_in j act) m ≡ Some b.turn))
              → Before k packet ⊎ Then k packet
          go (inl (less, here)) = inl (record {
            brings = record { turn = b.turn; here = here; comes = b.comes; from = b.from };
            below = less;
            number = get_or-append h.born added.0 0 k (omega (arith, less, h.born_each));
            clock =
                λ m most. ap (take m) (turns_then j past act)
                ∙ take-append-le m old_turns (turns_in j act) (omega (arith, most, less));
          })
          go (inr (m, at, here)) =
              let told = added.2 m b.turn here packet b.comes b.from in
              let number : get_or added.0 m 0 ≡ get_or numbers k 0 =
              sym (get_or-append-add h.born added.0 m 0)
              ∙ ap (λ n. get_or numbers n 0) (place m at) in
              inr (record {
                past_all = omega (arith, at);
                quiet = told.0;
                since =
                    subst (λ n. IsSince (HasArrived (ticks_in (turns_of j now)) (ticks_in (turns_of j now))) now all n
                    packet) number told.1;
              })
            where
              place : (m : ℕ) → k ≡ length old_turns + m → length h.born + m ≡ k
              place m at = omega (arith, at, h.born_each)

      -- all ticks were before an arrival in the act
      ticks_late : (k : ℕ) → length old_turns ≤ k → ticks_in (turns_in j act) ≡ 0
          → ticks_in (take k (turns_of j now)) ≡ ticks_in (turns_of j now)
      ticks_late k most quiet =
          let m : ℕ = k - length old_turns in
          let shape : take k (turns_of j now) ≡ old_turns ++ take m (turns_in j act) =
          ap (take k) (turns_then j past act)
          ∙ ap (λ n. take n (old_turns ++ turns_in j act)) (split most)
          ∙ take-append-add old_turns (turns_in j act) m in
          omega (
            arith,
            ap ticks_in shape,
            ticks_both old_turns (take m (turns_in j act)),
            few_ticks (turns_in j act) m,
            quiet,
            ticks_then j past act,
          )
        where
          split : length old_turns ≤ k → k ≡ length old_turns + (k - length old_turns)
          split most = omega (arith, most)

      came_now : (k : ℕ) (packet : List ℕ) → Brings (turns_of j now) k packet
          → IsSince (HasArrived (ticks_in (take (k + 1) (turns_of j now))) (ticks_in (turns_of j now))) now all
          (get_or numbers k 0) packet
      came_now k packet b = go (which k packet b)
        where
          go : Before k packet ⊎ Then k packet
              → IsSince (HasArrived (ticks_in (take (k + 1) (turns_of j now))) (ticks_in (turns_of j now))) now all
              (get_or numbers k 0) packet
          go (inl w) =
              subst (λ n. IsSince (HasArrived (ticks_in (take (k + 1) (turns_of j now))) (ticks_in (turns_of j now)))
              now all n packet) (sym w.number)
              (subst (λ n. IsSince (HasArrived (ticks_in (take (k + 1) (turns_of j now))) n) now all
              (get_or h.born k 0) packet) (sym (ticks_then j past act))
              (subst (λ ts. IsSince (HasArrived (ticks_in ts) (ticks_in old_turns + ticks_in (turns_in j act))) now all
              (get_or h.born k 0) packet) (sym (w.clock (k + 1) (omega arith)))
              (lift past act h.calls more few_more (HasArrived (ticks_in (take (k + 1) old_turns)) (ticks_in old_turns))
              (HasArrived (ticks_in (take (k + 1) old_turns)) (ticks_in old_turns + ticks_in (turns_in j act)))
              (get_or h.born k 0) packet
              (λ since w'. waits_there since act (ticks_in (take (k + 1) old_turns)) (ticks_in old_turns) w')
              (h.came k packet w.brings))))
          go (inr w) =
              subst (λ n. IsSince (HasArrived n (ticks_in (turns_of j now))) now all (get_or numbers k 0) packet)
              (sym (ticks_late (k + 1) (omega (arith, w.past_all)) w.quiet)) w.since

      near_now : (k l : ℕ) (one other : List ℕ) → k < l → Brings (turns_of j now) k one
          → Brings (turns_of j now) l other
          → ticks_in (take l (turns_of j now)) < ticks_in (take (k + 1) (turns_of j now)) + 60
          → AreClose (get_or numbers k 0) (get_or numbers l 0)
      near_now k l one other less b c soon = go (which l other c) (which k one b)
        where
          first : IsSince (HasArrived (ticks_in (take (k + 1) (turns_of j now))) (ticks_in (turns_of j now))) now all
              (get_or numbers k 0) one
          first = came_now k one b

          go : Before l other ⊎ Then l other → Before k one ⊎ Then k one
              → AreClose (get_or numbers k 0) (get_or numbers l 0)
          go (inl w) (inl u) =
              subst (λ n. AreClose n (get_or numbers l 0)) (sym u.number)
              (subst (λ n. AreClose (get_or h.born k 0) n) (sym w.number)
              (h.near k l one other less u.brings w.brings
              (omega (
                arith,
                soon,
                ap ticks_in (w.clock l (omega arith)),
                ap ticks_in (w.clock (k + 1) (omega (arith, less))),
              ))))
          go (inl w) (inr u) = absurd (omega (arith, less, w.below, u.past_all))
          go (inr w) u =
              let early : uses all ≤ get_or numbers k 0 + 2 ^ 16 =
              few_since now rest all (get_or numbers k 0) one (ticks_in (take (k + 1) (turns_of j now)))
              (ticks_in (turns_of j now)) is (omega (arith, soon, ticks_late l w.past_all w.quiet)) first in
              let late : uses all ≤ get_or numbers l 0 + 2 ^ 16 =
              few_since now rest all (get_or numbers l 0) other (ticks_in (turns_of j now)) (ticks_in (turns_of j now))
              is (omega arith) w.since in
              (omega (arith, first.below, late), omega (arith, w.since.below, early))

      -- all of it, if the other parts hold
      pub holds : ((c : Config) (s : StackView) → slice_get new.configs i ≡ Some c → slice_get new.stacks i ≡ Some s
          → Runs c all s)
          → (slice_get new.stacks i ≡ None → all ≡ [])
          → (chances_at new.chances i).delay + (chances_at new.chances i).jitter ≤ delay
          → Each (Waiting now all) (waiting_in (slice_get new.stacks i)) → Each (Flies now all) new.flight
          → Holds now new
      holds runs none slow waits flies = record {
        calls = all;
        turns_are =
            map-append _ h.calls more ∙ ap (λ ts. ts ++ turns_of_calls more) h.turns_are
            ∙ ap (λ ts. turns_of i past ++ ts) turns_are ∙ sym (turns_then i past act);
        runs = runs;
        none = none;
        slow = slow;
        waits = waits;
        flies = flies;
        born = numbers;
        born_each =
            length-append h.born added.0 ∙ ap (λ n. n + length added.0) h.born_each
            ∙ ap (λ n. length old_turns + n) added.1 ∙ sym (length-append old_turns (turns_in j act))
            ∙ ap length (sym (turns_then j past act));
        came = came_now;
        near = near_now;
      }

  -- before all acts
  pub none_holds : (room : ℕ) → Holds [] (no_hosts room)
  none_holds room = record {
    calls = [];
    turns_are = refl;
    runs = λ c s x y. absurd (none-some s y);
    none = λ e. refl;
    slow = omega arith;
    waits = tt;
    flies = tt;
    born = [];
    born_each = refl;
    came = λ k packet b. absurd (none-some b.turn b.here);
    near = λ k l one other less b c soon. absurd (none-some b.turn b.here);
  }
