-- Two machines on one wire without end, by the numbers of the sends; and what a user checks.
use Rattle.std.proofs.Common.{◌≡◌, ℕ, ◌+◌, ◌<◌, ◌≤◌, Bool, true, false, List, [], ◌∷◌, ◌++◌, length, map, refl, sym, ◌∙◌, ap, subst, ◌⊎◌, inl, inr, arith, Option, Some, None, cond}
use Rattle.std.specs.Prelude.{nat_lt, ◌||◌}
use Rattle.std.specs.List.{AllByRecursion as Each}
use Rattle.std.proofs.lemmas.Bool.{lt-ltb}
use Rattle.std.proofs.lemmas.List.{append_assoc, length-append}
use Rattle.std.proofs.lemmas.Option.{same_Some, none-some}
use Rattle.params.specs.declared.TheConstants.{FRAGMENT_TICKS}
use Rattle.flat_model.specs.Fragments.Cuts.{Part}
use Rattle.flat_model.specs.Packets.Header.{head_of}
use Rattle.flat_model.specs.Machine.Event.{Event, Open, Bind, Connect, Send, Receive, Close, Set_option, Set_limit, Comes, Transmit, Tick, Ask_counters, Ask_usage}
use Rattle.flat_model.specs.Machine.State.{State, boot}
use Rattle.flat_model.specs.declared.config.Config.{Config}
use Rattle.flat_model.specs.Machine.Arrival.{is_fragment}
use Rattle.flat_model.specs.Machine.Ledger.{Ledger}
use Rattle.flat_model.specs.Machine.Sending.{Sending, packet_for}
use Rattle.flat_model.specs.Runs.Run.{Turn, Leads}
use Rattle.flat_wire.specs.Age.{ticks_in, is_tick}
use Rattle.flat_wire.specs.Trail.{PassedStep, trail_turns}
use Rattle.flat_wire.specs.Ever.{IsMadeBySend, BringsFragment, AreWiredForEver, WireLawForEver, PaceLaw}
use Rattle.flat_wire.specs.Wire.{ComesFrom, packet_in}
use Rattle.flat_wire.proofs.Seen.{Seen, Member, sees, IsNearTo, Labelled, AreNear as AreNearSeen}
use Rattle.flat_wire.proofs.Age.{ticks_more}
use Rattle.flat_wire.proofs.Reading.{read_head}
use Rattle.flat_wire.proofs.Recorded as Recorded
use Rattle.flat_wire.proofs.Recorded.{recorded_boot}
use Rattle.flat_wire.proofs.Numbers as Numbers
use Rattle.flat_wire.proofs.Second as Second
use Rattle.flat_wire.proofs.Labels.{comes_from}
use Rattle.flat_wire.proofs.Ever.{member_older}
use Rattle.flat_wire.proofs.LawEver as LawEver

-- the header of a fragment says so
pub frag_written : (p : Part) → Second.IsFrag p → (p.more || nat_lt 0 p.offset) ≡ true
frag_written p (inl more) = ap (λ b. b || nat_lt 0 p.offset) more
frag_written p (inr some) = ap (λ b. p.more || b) (lt-ltb 0 p.offset some) ∙ either p.more
  where
    either : (b : Bool) → (b || true) ≡ true
    either true = refl
    either false = refl

module _ (L M : Ledger) (first second : Config) (sent : List PassedStep) (came : List Turn) (s t : State) (born : ℕ → ℕ)
    (w : AreWiredForEver L M first second sent came s t born) where
  start : Recorded.IsRecorded L first w.first_boots [] (boot first)
  start = recorded_boot L first w.first_boots

  no_sends : length start.log ≡ 0
  unfolding start recorded_boot
  no_sends = refl

  numbered : Numbers.HasNumbers L first w.first_boots (trail_turns sent) [] (boot first) start sent s
  numbered =
      Numbers.numbers L first w.first_boots (trail_turns sent) [] (boot first) start refl sent s refl w.first_runs

  recorded : Recorded.IsRecorded L first w.first_boots (trail_turns sent) s
  recorded = numbered.now

  at : ℕ → Sending
  at = LawEver.at L M first second (trail_turns sent) s w.first_boots recorded w.not_addr w.not_bcast

  IsPart : Sending → Part → Type 0
  IsPart = LawEver.IsPart L M first second (trail_turns sent) s w.first_boots recorded w.not_addr w.not_bcast

  IsLabelledBy : Event → Option ℕ → Type 0
  IsLabelledBy = LawEver.IsLabelledBy L M first second (trail_turns sent) s w.first_boots recorded w.not_addr w.not_bcast

  made : (n : ℕ) (packet : List ℕ) → IsMadeBySend sent n packet
      → Recorded.IsOf L first w.first_boots recorded.log (trail_turns sent) s (at n) packet
  unfolding recorded at
  made n packet m =
      subst (λ i. Recorded.IsOf L first w.first_boots recorded.log (trail_turns sent) s (at i) packet)
      (omega (arith, no_sends)) (numbered.made n packet m)

  -- ---- the turns of the second with their numbers

  record HasLabel (number : ℕ) (turn : Turn) : Type 0 where
    label : Option ℕ
    right : IsLabelledBy turn.event label
    brings : (n : ℕ) → label ≡ Some n → (n ≡ number) × BringsFragment first.addr turn

  none_brought : (number : ℕ) (turn : Turn) (n : ℕ) → None ≡ Some n → (n ≡ number) × BringsFragment first.addr turn
  none_brought number turn n e = absurd (none-some n e)

  label_of : (number : ℕ) (turn : Turn) (packet : List ℕ) → turn.event ≡ Comes packet
      → (ComesFrom first.addr packet → IsMadeBySend sent number packet) → HasLabel number turn
  unfolding IsLabelledBy at recorded
  label_of number turn packet is from_first = go (comes_from first.addr packet)
    where
      labelled : (label : Option ℕ) → IsLabelledBy (Comes packet) label → IsLabelledBy turn.event label
      labelled label right = subst (λ event. IsLabelledBy event label) (sym is) right

      fragment : ComesFrom first.addr packet
          → (o : Recorded.IsOf L first w.first_boots recorded.log (trail_turns sent) s (at number) packet) → (b : Bool)
          → is_fragment (head_of packet) ≡ b → HasLabel number turn
      fragment from o true e = record {
        label = Some number;
        right = labelled (Some number) (
          o.given.part,
          subst (λ x. LawEver.IsPart L M first second (trail_turns sent) s w.first_boots recorded w.not_addr w.not_bcast
              x o.given.part) o.of
              (record {
                logged = o.given.logged;
                sendable = o.given.sendable;
                is_part = o.given.is_part;
                answered = o.given.answered;
              }),
          o.given.is ∙ ap (λ x. packet_for x o.given.part) o.of,
        );
        brings = λ n e_n. (
          sym (same_Some number n e_n),
          record {
            packet = packet;
            comes = ap (λ event. packet_in (record turn { event = event })) is;
            from = from;
            part = e;
          },
        );
      }
      fragment from o false e = record {
        label = None;
        right = labelled None (λ f. record {
          sending = o.given.sending;
          part = o.given.part;
          ok = record {
            logged = o.given.logged;
            sendable = o.given.sendable;
            is_part = o.given.is_part;
            answered = o.given.answered;
          };
          whole = λ frag. no (sym e
              ∙ ap is_fragment (ap head_of o.given.is
              ∙ read_head first.mtu (LawEver.low L M first second (trail_turns sent) s w.first_boots recorded w.not_addr
              w.not_bcast)
              o.given.sending o.given.part o.given.sendable o.given.is_part)
              ∙ frag_written o.given.part frag);
          is = o.given.is;
        });
        brings = none_brought number turn;
      }
        where
          no : false ≡ true → ⊥
          no e = cc

      go : ComesFrom first.addr packet ⊎ (ComesFrom first.addr packet → ⊥) → HasLabel number turn
      go (inr other) = record {
        label = None;
        right = labelled None (λ from. absurd (other from));
        brings = none_brought number turn;
      }
      go (inl from) = fragment from (made number packet (from_first from)) (is_fragment (head_of packet)) refl

  label_at : (before after : List Turn) (turn : Turn) → came ≡ before ++ turn ∷ after
      → HasLabel (born (length before)) turn
  unfolding IsLabelledBy
  label_at before after turn is = go turn.event refl
    where
      quiet : (event : Event) → turn.event ≡ event → IsLabelledBy event None → HasLabel (born (length before)) turn
      quiet event e right = record {
        label = None;
        right = subst (λ event. IsLabelledBy event None) (sym e) right;
        brings = none_brought (born (length before)) turn;
      }

      go : (event : Event) → turn.event ≡ event → HasLabel (born (length before)) turn
      go (Comes packet) e =
          label_of (born (length before)) turn packet e
          (w.wire before after turn packet is (ap (λ event. packet_in (record turn { event = event })) e))
      go Open e = quiet Open e tt
      go (Bind fd a) e = quiet (Bind fd a) e tt
      go (Connect fd a) e = quiet (Connect fd a) e tt
      go (Send fd to bytes) e = quiet (Send fd to bytes) e tt
      go (Receive fd most) e = quiet (Receive fd most) e tt
      go (Close fd) e = quiet (Close fd) e tt
      go (Set_option fd option on) e = quiet (Set_option fd option on) e tt
      go (Set_limit fd limit) e = quiet (Set_limit fd limit) e tt
      go Transmit e = quiet Transmit e tt
      go Tick e = quiet Tick e tt
      go Ask_counters e = quiet Ask_counters e tt
      go Ask_usage e = quiet Ask_usage e tt

  -- ---- what the second has seen

  record IsSeenIn (before : List Turn) (x : Seen) : Type 0 where
    earlier : List Turn
    one : Turn
    between : List Turn
    before_is : before ≡ earlier ++ one ∷ between
    brings : BringsFragment first.addr one
    number : x.number ≡ born (length earlier)
    age : x.age ≡ ticks_in between

  abbrev AreSeen : List Turn → List Seen → Type 0
  AreSeen before seen = (x : Seen) → Member seen x → IsSeenIn before x

  later_seen : (before : List Turn) (turn : Turn) (x y : Seen) → IsSeenIn before x → y.number ≡ x.number
      → y.age ≡ x.age + cond (is_tick turn.event) 1 0 → IsSeenIn (before ++ turn ∷ []) y
  later_seen before turn x y i number age = record {
    earlier = i.earlier;
    one = i.one;
    between = i.between ++ turn ∷ [];
    before_is =
        ap (λ ts. ts ++ turn ∷ []) i.before_is ∙ append_assoc i.earlier (i.one ∷ i.between) (turn ∷ []);
    brings = i.brings;
    number = number ∙ i.number;
    age = omega (arith, age, i.age, ticks_more i.between turn);
  }

  still_seen : (before : List Turn) (turn : Turn) (seen : List Seen) (h : HasLabel (born (length before)) turn)
      → AreSeen before seen → AreSeen (before ++ turn ∷ []) (sees turn.event h.label seen)
  still_seen before turn seen h was = go turn.event refl h.label h.brings
    where
      same : (event : Event) → turn.event ≡ event → is_tick event ≡ false → AreSeen (before ++ turn ∷ []) seen
      same event e quiet x m =
          later_seen before turn x x (was x m) refl
          (omega (arith, ap {B = ℕ} (λ b. cond b 1 0) (ap is_tick e ∙ quiet)))

      go : (event : Event) → turn.event ≡ event → (label : Option ℕ)
          → ((n : ℕ) → label ≡ Some n → (n ≡ born (length before)) × BringsFragment first.addr turn)
          → AreSeen (before ++ turn ∷ []) (sees event label seen)
      go (Comes packet) e None brings x m = same (Comes packet) e refl x m
      go (Comes packet) e (Some n) brings x (inl is) = record {
        earlier = before;
        one = turn;
        between = [];
        before_is = refl;
        brings = (brings n refl).1;
        number = ap (λ (y : Seen). y.number) (sym is) ∙ (brings n refl).0;
        age = ap (λ (y : Seen). y.age) (sym is);
      }
      go (Comes packet) e (Some n) brings x (inr m) = same (Comes packet) e refl x m
      go Tick e label brings x m =
          let y = member_older seen x m in
          later_seen before turn y.0 x (was y.0 y.1) (ap (λ (z : Seen). z.number) (sym y.2))
          (omega (arith, ap (λ (z : Seen). z.age) (sym y.2), ap {B = ℕ} (λ b. cond b 1 0) (ap is_tick e)))
      go Open e label brings x m = same Open e refl x m
      go (Bind fd a) e label brings x m = same (Bind fd a) e refl x m
      go (Connect fd a) e label brings x m = same (Connect fd a) e refl x m
      go (Send fd to bytes) e label brings x m = same (Send fd to bytes) e refl x m
      go (Receive fd most) e label brings x m = same (Receive fd most) e refl x m
      go (Close fd) e label brings x m = same (Close fd) e refl x m
      go (Set_option fd option on) e label brings x m = same (Set_option fd option on) e refl x m
      go (Set_limit fd limit) e label brings x m = same (Set_limit fd limit) e refl x m
      go Transmit e label brings x m = same Transmit e refl x m
      go Ask_counters e label brings x m = same Ask_counters e refl x m
      go Ask_usage e label brings x m = same Ask_usage e refl x m

  near_now : (before after : List Turn) (turn : Turn) (seen : List Seen) (h : HasLabel (born (length before)) turn)
      → came ≡ before ++ turn ∷ after → AreSeen before seen → IsNearTo turn.event h.label seen
  near_now before after turn seen h is was = go turn.event h.label h.brings
    where
      near : (n : ℕ) → n ≡ born (length before) → BringsFragment first.addr turn → (x : Seen) → IsSeenIn before x
          → x.age < FRAGMENT_TICKS → (x.number < n + 65536) × (n < x.number + 65536)
      near n number brings x i young =
          let split : came ≡ i.earlier ++ i.one ∷ (i.between ++ turn ∷ after) =
          is ∙ ap (λ ts. ts ++ turn ∷ after) i.before_is
          ∙ append_assoc i.earlier (i.one ∷ i.between) (turn ∷ after) in
          let place : length before ≡ length i.earlier + 1 + length i.between =
          omega (arith, ap length i.before_is, length-append i.earlier (i.one ∷ i.between)) in
          let close =
          w.near i.earlier i.between after i.one turn (record {
            came_are = split;
            first = i.brings;
            second = brings;
            soon = omega (arith, young, i.age);
          }) in (
            omega (arith, close.0, i.number, number, ap born place),
            omega (arith, close.1, i.number, number, ap born place),
          )

      go : (event : Event) (label : Option ℕ)
          → ((n : ℕ) → label ≡ Some n → (n ≡ born (length before)) × BringsFragment first.addr turn)
          → IsNearTo event label seen
      go (Comes packet) None brings = tt
      go (Comes packet) (Some n) brings =
          λ x m young. near n (brings n refl).0 (brings n refl).1 x (was x m) young
      go Open label brings = tt
      go (Bind fd a) label brings = tt
      go (Connect fd a) label brings = tt
      go (Send fd to bytes) label brings = tt
      go (Receive fd most) label brings = tt
      go (Close fd) label brings = tt
      go (Set_option fd option on) label brings = tt
      go (Set_limit fd limit) label brings = tt
      go Transmit label brings = tt
      go Tick label brings = tt
      go Ask_counters label brings = tt
      go Ask_usage label brings = tt

  record HasLabels (seen : List Seen) (turns : List Turn) : Type 0 where
    all : List Labelled
    turns_are : map (λ (l : Labelled). l.turn) all ≡ turns
    right : Each (λ (l : Labelled). IsLabelledBy l.turn.event l.label) all
    near : AreNearSeen seen all

  labels : (before turns : List Turn) (seen : List Seen) → came ≡ before ++ turns → AreSeen before seen
      → HasLabels seen turns
  labels before [] seen is was = record { all = []; turns_are = refl; right = tt; near = tt }
  labels before (turn ∷ turns) seen is was =
      let h = label_at before turns turn is in
      let rest = labels (before ++ turn ∷ []) turns (sees turn.event h.label seen)
      (is ∙ sym (append_assoc before (turn ∷ []) turns)) (still_seen before turn seen h was) in
      record {
        all = record { turn = turn; label = h.label } ∷ rest.all;
        turns_are = ap (λ ts. turn ∷ ts) rest.turns_are;
        right = (h.right, rest.right);
        near = (near_now before turns turn seen h is was, rest.near);
      }

pub wire_law_for_ever_lem : (L M : Ledger) → WireLawForEver L M
unfolding IsLabelledBy
wire_law_for_ever_lem L M first second sent came s t born w socket d in_sockets in_queue from =
    let ls = labels L M first second sent came s t born w [] came [] refl (λ x m. absurd m) in
    LawEver.law_for_ever L M first second (trail_turns sent) s w.first_boots
    (recorded L M first second sent came s t born w) w.not_addr w.not_bcast ls.all t ls.right ls.near
    (subst (λ ts. Leads M (boot second) ts t) (sym ls.turns_are) w.second_runs) socket d in_sockets in_queue from

-- a first machine that keeps its pace needs no other premise
pub pace_law_lem : PaceLaw
pace_law_lem address came born made life pace p before between after one other meet =
    let a = p.alive before (between ++ other ∷ after) one meet.came_are meet.first in
    let there : length (before ++ one ∷ between) ≡ length before + 1 + length between =
    omega (arith, length-append before (one ∷ between)) in
    let b = p.alive (before ++ one ∷ between) after other
    (meet.came_are ∙ sym (append_assoc before (one ∷ between) (other ∷ after))) meet.second in
    let b_sent : born (length before + 1 + length between) < made (length before + 1 + length between) =
    subst (λ k. born k < made k) there b.0 in
    let b_alive : made (length before + 1 + length between) ≤ born (length before + 1 + length between) + life =
    subst (λ k. made k ≤ born k + life) there b.1 in
    let slow = p.slow before between after one other meet in (
      omega (arith, a.0, a.1, b_sent, b_alive, slow.0, slow.1, p.enough),
      omega (arith, a.0, a.1, b_sent, b_alive, slow.0, slow.1, p.enough),
    )
