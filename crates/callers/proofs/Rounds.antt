-- The rounds of `src/laws_on_a_wire.rt`: the numbers of the sends, and the pace.
use Rattle.std.proofs.Common.{◌≡◌, ◌≢◌, ◌⊎◌, inl, inr, ℕ, zero, suc, ◌+◌, ◌%◌, ◌≤◌, List, [], ◌∷◌, ◌++◌, length, take, refl, sym, ap, ◌∙◌, subst, arith, Option, Some, None, cond, Bool, true, false}
use Rattle.std.specs.Prelude.{◌==◌, not, count_by, Contains, IfOk, Result, Ok, Err, ⊤}
use Rattle.std.specs.List.{AllByRecursion as Each}
use Rattle.std.proofs.Math.Seq.{take-append_seam}
use Rattle.std.proofs.lemmas.Bool.{eq-eqb}
use Rattle.std.proofs.lemmas.Bool.Decides.{eqb_tells}
use Rattle.std.proofs.lemmas.List.{append_assoc, length-append, map-append}
use Rattle.std.proofs.lemmas.Option.{none-some, same_Some}
use Rattle.flat_model.specs.Amounts.Layout.{Need}
use Rattle.flat_model.specs.Amounts.Weight.{Item, Weight, nothing}
use Rattle.flat_model.specs.Machine.Event.{Event, Reply, Open, Bind, Connect, Send, Receive, Close, Set_option, Set_limit, Comes, Transmit, Tick, Ask_counters, Ask_usage, Done, Given, Received, Sent}
use Rattle.flat_model.specs.Machine.Arrival.{AllArrive}
use Rattle.flat_model.specs.Machine.Calls.{GetsPort, read_addr, source_for}
use Rattle.flat_model.specs.Machine.Ledger.{HasBuffers, exact_ledger}
use Rattle.flat_model.specs.Machine.Send as Send
use Rattle.flat_model.specs.Machine.Send.{enqueued, spent, target, to_link, to_self}
use Rattle.flat_model.specs.Machine.Sending.{Sending, packets, parts_of}
use Rattle.flat_model.specs.Machine.Replies.{received_reply}
use Rattle.flat_model.specs.Machine.State.{IsConfig, Socket, State, boot}
use Rattle.flat_model.specs.Machine.Step.{Step, Transmits}
use Rattle.flat_model.specs.Runs.Run.{Turn}
use Rattle.flat_model.proofs.Laws.{by_case, by_choice, count-append, count_cons}
use Rattle.flat_wire.specs.Age.{is_tick, ticks_in}
use Rattle.flat_model.specs.declared.address.Addr.{Addr}
use Rattle.flat_model.specs.declared.config.Config.{Config}
use Rattle.flat_model.specs.declared.errno.Errno.{Errno}
use Rattle.flat_wire.specs.Ever.{ArePaced, CanMeet, IsMadeBySend, PaceLaw, uses_id}
use Rattle.flat_wire.specs.Queue.{KeepsOrder, QueueLaw, packets_in_queue}
use Rattle.flat_wire.specs.Trail.{PassedStep}
use Rattle.flat_wire.specs.Wire.{ComesFrom, WasSent, came_in as packet_of_event, given, packet_in}
use Rattle.net_stack.specs.Runs.{AreCalls, AreCallsOf, PassedCall, steps_of, turns_of_calls}
use Rattle.net_stack.specs.Stack.{StackView, state_of}
use Rattle.net_stack.specs.Wire.{AreOnOneWireForEver}
use Rattle.callers.specs.declared.laws_on_a_wire.TheConstants.{FIRST, SECOND, SOCKET, PORT}
use Rattle.callers.specs.Received.{HasGiven, packet_comes, receives, send_event}
use Rattle.callers.specs.Rounds.{AreRounds, IsFine, IsIdle, IsOneOfBoth, IsRound, IsSendOf, Round, came_in_rounds, sent_in_rounds, clock_ticks}
use Rattle.callers.proofs.Calls.{given_packet, given_step, one_call, then_calls}

-- how many sends used an identification in the first n rounds
abbrev pub sends_before : List Round → ℕ → ℕ
sends_before [] n = 0
sends_before (r ∷ later) zero = 0
sends_before (r ∷ later) (suc n) = count_by uses_id (steps_of r.sent) + sends_before later n

steps_both : (xs ys : List PassedCall) → steps_of (xs ++ ys) ≡ steps_of xs ++ steps_of ys
steps_both xs ys = map-append _ xs ys

made_later : (before trail : List PassedStep) (n : ℕ) (packet : List ℕ) → IsMadeBySend trail n packet
    → IsMadeBySend (before ++ trail) (count_by uses_id before + n) packet
made_later before trail n packet m = record {
  before = before ++ m.before;
  send = m.send;
  after = m.after;
  trail_is = ap (λ t. before ++ t) m.trail_is ∙ sym (append_assoc before m.before (m.send ∷ m.after));
  number_is = count-append uses_id before m.before ∙ ap (λ k. count_by uses_id before + k) m.number_is;
  uses = m.uses;
  made = m.made;
  queued = m.queued;
  among = m.among;
}

made_sooner : (trail after : List PassedStep) (n : ℕ) (packet : List ℕ) → IsMadeBySend trail n packet
    → IsMadeBySend (trail ++ after) n packet
made_sooner trail after n packet m = record {
  before = m.before;
  send = m.send;
  after = m.after ++ after;
  trail_is = ap (λ t. t ++ after) m.trail_is ∙ append_assoc m.before (m.send ∷ m.after) after;
  number_is = m.number_is;
  uses = m.uses;
  made = m.made;
  queued = m.queued;
  among = m.among;
}

abbrev BringsNone : Turn → Type 0
BringsNone turn = packet_in turn ≡ None

none_in : (turns before after : List Turn) (turn : Turn) → Each BringsNone turns → turns ≡ before ++ turn ∷ after
    → BringsNone turn
none_in [] [] after turn h e = cc
none_in [] (x ∷ before) after turn h e = cc
none_in (t ∷ turns) [] after turn h e = let is : t ≡ turn = cc in subst BringsNone is h.0
none_in (t ∷ turns) (x ∷ before) after turn h e = none_in turns before after turn h.1 cc

not_both : (turn : Turn) (packet : List ℕ) → BringsNone turn → packet_in turn ≡ Some packet → ⊥
not_both turn packet none some = none-some packet (sym none ∙ some)

packet_of : (p packet : List ℕ) → packet_in (packet_comes p) ≡ Some packet → p ≡ packet
packet_of p packet e = same_Some p packet e

ticks_more : (turn : Turn) (turns : List Turn)
    → ticks_in (turn ∷ turns) ≡ cond (is_tick turn.event) 1 0 + ticks_in turns
ticks_more turn turns = count_cons (λ (t : Turn). is_tick t.event) turn turns

abbrev read_in : Round → Turn
read_in r = receives r.most r.read

one_round : (r : Round) (turns : List Turn)
    → ticks_in (read_in r ∷ packet_comes r.early ∷ packet_comes r.late ∷ clock_ticks ∷ turns) ≡ suc (ticks_in turns)
one_round r turns = omega (
  arith,
  ticks_more (read_in r) (packet_comes r.early ∷ packet_comes r.late ∷ clock_ticks ∷ turns),
  ticks_more (packet_comes r.early) (packet_comes r.late ∷ clock_ticks ∷ turns),
  ticks_more (packet_comes r.late) (clock_ticks ∷ turns),
  ticks_more clock_ticks turns,
)

module _ (end : List Turn) (quiet : Each BringsNone end) where
  abbrev IsMade : List Round → List Turn → List ℕ → Type 0
  IsMade rounds before packet =
      IsMadeBySend (steps_of (sent_in_rounds rounds)) (sends_before rounds (ticks_in before)) packet

  here : (r : Round) (later : List Round) (before : List Turn) (p packet : List ℕ) → ticks_in before ≡ 0
      → packet_in (packet_comes p) ≡ Some packet → (ComesFrom FIRST.addr p → IsMadeBySend (steps_of r.sent) 0 p)
      → ComesFrom FIRST.addr packet → IsMade (r ∷ later) before packet
  here r later before p packet none comes made from =
      let same : p ≡ packet = packet_of p packet comes in
      subst (λ n. IsMadeBySend (steps_of (sent_in_rounds (r ∷ later))) (sends_before (r ∷ later) n) packet) (sym none)
      (subst (λ t. IsMadeBySend t 0 packet) (sym (steps_both r.sent (sent_in_rounds later)))
      (made_sooner (steps_of r.sent) (steps_of (sent_in_rounds later)) 0 packet
      (subst (IsMadeBySend (steps_of r.sent) 0) same (made (subst (ComesFrom FIRST.addr) (sym same) from)))))

  pub all_made : (rounds : List Round) (before after : List Turn) (turn : Turn) (packet : List ℕ) → Each IsFine rounds
      → came_in_rounds rounds end ≡ before ++ turn ∷ after → packet_in turn ≡ Some packet → ComesFrom FIRST.addr packet
      → IsMade rounds before packet
  all_made [] before after turn packet fine e comes from =
      absurd (not_both turn packet (none_in end before after turn quiet e) comes)
  all_made (r ∷ later) [] after turn packet fine e comes from =
      let is : read_in r ≡ turn = cc in
      absurd (not_both turn packet (subst BringsNone is refl) comes)
  all_made (r ∷ later) (x ∷ []) after turn packet fine e comes from =
      let is : packet_comes r.early ≡ turn = cc in
      let first : read_in r ≡ x = cc in
      here r later (x ∷ []) r.early packet (ap (λ t. ticks_in (t ∷ [])) (sym first)) (ap packet_in is ∙ comes)
      fine.0.early from
  all_made (r ∷ later) (x ∷ y ∷ []) after turn packet fine e comes from =
      let is : packet_comes r.late ≡ turn = cc in
      let first : read_in r ≡ x = cc in
      let second : packet_comes r.early ≡ y = cc in
      here r later (x ∷ y ∷ []) r.late packet
      (ap (λ t. ticks_in (t ∷ y ∷ [])) (sym first) ∙ ap (λ t. ticks_in (read_in r ∷ t ∷ [])) (sym second))
      (ap packet_in is ∙ comes) fine.0.late from
  all_made (r ∷ later) (x ∷ y ∷ z ∷ []) after turn packet fine e comes from =
      let is : clock_ticks ≡ turn = cc in
      absurd (not_both turn packet (subst BringsNone is refl) comes)
  all_made (r ∷ later) (x ∷ y ∷ z ∷ w ∷ before) after turn packet fine e comes from =
      let first : read_in r ≡ x = cc in
      let second : packet_comes r.early ≡ y = cc in
      let third : packet_comes r.late ≡ z = cc in
      let fourth : clock_ticks ≡ w = cc in
      let rest : came_in_rounds later end ≡ before ++ turn ∷ after = cc in
      let number : ticks_in (x ∷ y ∷ z ∷ w ∷ before) ≡ suc (ticks_in before) =
      ap (λ t. ticks_in (t ∷ y ∷ z ∷ w ∷ before)) (sym first)
      ∙ ap (λ t. ticks_in (read_in r ∷ t ∷ z ∷ w ∷ before)) (sym second)
      ∙ ap (λ t. ticks_in (read_in r ∷ packet_comes r.early ∷ t ∷ w ∷ before)) (sym third)
      ∙ ap (λ t. ticks_in (read_in r ∷ packet_comes r.early ∷ packet_comes r.late ∷ t ∷ before)) (sym fourth)
      ∙ one_round r before in
      subst (λ n. IsMadeBySend (steps_of (sent_in_rounds (r ∷ later))) (sends_before (r ∷ later) n) packet) (sym number)
      (subst (λ t. IsMadeBySend t (sends_before (r ∷ later) (suc (ticks_in before))) packet)
      (sym (steps_both r.sent (sent_in_rounds later)))
      (made_later (steps_of r.sent) (steps_of (sent_in_rounds later)) (sends_before later (ticks_in before)) packet
      (all_made later before after turn packet fine.1 rest comes from)))

-- ---- the pace

starts : (rounds : List Round) → sends_before rounds 0 ≡ 0
starts [] = refl
starts (r ∷ later) = refl

no_more : (d : ℕ) → 0 + suc d ≡ suc (0 + d)
no_more d = omega arith

one_more : (n d : ℕ) → suc n + d ≡ suc (n + d)
one_more n d = omega arith

-- at most one send a round
pub paced : (rounds : List Round) (n d : ℕ) → Each (IsFine) rounds
    → (sends_before rounds n ≤ sends_before rounds (n + d)) × (sends_before rounds (n + d) ≤ sends_before rounds n + d)
paced [] n d fine = (omega arith, omega arith)
paced (r ∷ later) zero zero fine = (omega arith, omega arith)
paced (r ∷ later) zero (suc d) fine =
    let rest = paced later 0 d fine.1 in
    (omega arith, omega (arith, rest.1, starts later, fine.0.few, ap (sends_before (r ∷ later)) (no_more d)))
paced (r ∷ later) (suc n) d fine =
    let rest = paced later n d fine.1 in (
      omega (arith, rest.0, ap (sends_before (r ∷ later)) (one_more n d)),
      omega (arith, rest.1, ap (sends_before (r ∷ later)) (one_more n d)),
    )

-- ---- a run that begins with other calls

take_all : (before : List Turn) (turn : Turn) (after : List Turn)
    → take (length before) (before ++ turn ∷ after) ≡ before
take_all before turn after = take-append_seam before (turn ∷ after)

-- all turns of the second: two, those of the rounds, and these
abbrev came : List Round → (end : List Turn) → (one two : Turn) → List Turn
came rounds end one two = one ∷ two ∷ came_in_rounds rounds end

-- the number of a packet's send is that of the sends before its round
abbrev born : List Round → (end : List Turn) → (one two : Turn) → ℕ → ℕ
born rounds end one two k = sends_before rounds (ticks_in (take k (came rounds end one two)))

module _ (rounds : List Round) (end : List Turn) (one two : Turn) (fine : Each IsFine rounds)
    (quiet : Each BringsNone end) (no_one : BringsNone one) (no_two : BringsNone two)
    (still_one : is_tick one.event ≡ false) (still_two : is_tick two.event ≡ false) where
  abbrev Came : List Turn
  Came = came rounds end one two

  abbrev Born : ℕ → ℕ
  Born = born rounds end one two

  no_ticks : (turn : Turn) (turns : List Turn) → is_tick turn.event ≡ false → ticks_in (turn ∷ turns) ≡ ticks_in turns
  no_ticks turn turns e = omega (arith, ticks_more turn turns, ap {B = ℕ} (λ b. cond b 1 0) e)

  pub wire : (before after : List Turn) (turn : Turn) (packet : List ℕ) → Came ≡ before ++ turn ∷ after
      → packet_in turn ≡ Some packet → ComesFrom FIRST.addr packet
      → IsMadeBySend (steps_of (sent_in_rounds rounds)) (Born (length before)) packet
  wire [] after turn packet e comes from =
      let is : one ≡ turn = cc in absurd (not_both turn packet (subst BringsNone is no_one) comes)
  wire (x ∷ []) after turn packet e comes from =
      let is : two ≡ turn = cc in absurd (not_both turn packet (subst BringsNone is no_two) comes)
  wire (x ∷ y ∷ before) after turn packet e comes from =
      let first : one ≡ x = cc in
      let second : two ≡ y = cc in
      let rest : came_in_rounds rounds end ≡ before ++ turn ∷ after = cc in
      let taken : take (length (x ∷ y ∷ before)) Came ≡ x ∷ y ∷ before =
      ap (take (length (x ∷ y ∷ before))) e ∙ take_all (x ∷ y ∷ before) turn after in
      let same : ticks_in (x ∷ y ∷ before) ≡ ticks_in before =
      no_ticks x (y ∷ before) (subst (λ (t : Turn). is_tick t.event ≡ false) first still_one)
      ∙ no_ticks y before (subst (λ (t : Turn). is_tick t.event ≡ false) second still_two) in
      subst (λ n. IsMadeBySend (steps_of (sent_in_rounds rounds)) (sends_before rounds n) packet)
      (sym (ap ticks_in taken ∙ same))
      (all_made end quiet rounds before after turn packet fine rest comes from)

  still : (turn : Turn) (packet : List ℕ) → packet_in turn ≡ Some packet → is_tick turn.event ≡ false
  still turn packet e = go turn.event e
    where
      go : (event : Event) → packet_of_event event ≡ Some packet → is_tick event ≡ false
      go (Comes p) e = refl
      go Tick e = absurd (none-some packet e)
      go Open e = refl
      go (Bind fd a) e = refl
      go (Connect fd a) e = refl
      go (Send fd to bytes) e = refl
      go (Receive fd most) e = refl
      go (Close fd) e = refl
      go (Set_option fd option on) e = refl
      go (Set_limit fd limit) e = refl
      go Transmit e = refl
      go Ask_counters e = refl
      go Ask_usage e = refl

  pub are_paced : ArePaced FIRST.addr Came Born (λ k. Born k + 1) 1 60
  are_paced = record {
    enough = omega arith;
    alive = λ before after turn e brings. (omega arith, omega arith);
    slow = λ before between after turn other meet. slow before between after turn other meet;
  }
    where
      slow : (before between after : List Turn) (turn other : Turn)
          → CanMeet FIRST.addr Came before between after turn other
          → (Born (length before) + 1 ≤ Born (length before + 1 + length between) + 1)
          × (Born (length before + 1 + length between) + 1 ≤ Born (length before) + 1 + 60)
      slow before between after turn other meet =
          let first : take (length before) Came ≡ before =
          ap (take (length before)) meet.came_are ∙ take_all before turn (between ++ other ∷ after) in
          let again : Came ≡ (before ++ turn ∷ between) ++ other ∷ after =
          meet.came_are ∙ sym (append_assoc before (turn ∷ between) (other ∷ after)) in
          let place : length before + 1 + length between ≡ length (before ++ turn ∷ between) =
          omega (arith, length-append before (turn ∷ between)) in
          let second : take (length before + 1 + length between) Came ≡ before ++ turn ∷ between =
          ap (λ n. take n Came) place ∙ ap (take (length (before ++ turn ∷ between))) again
          ∙ take_all (before ++ turn ∷ between) other after in
          let number : ticks_in (before ++ turn ∷ between) ≡ ticks_in before + ticks_in between =
          count-append (λ (t : Turn). is_tick t.event) before (turn ∷ between)
          ∙ ap (λ n. ticks_in before + n) (no_ticks turn between (still turn meet.first.packet meet.first.comes)) in
          let are = paced rounds (ticks_in before) (ticks_in between) fine in (
            omega (
              arith,
              are.0,
              ap (λ ts. sends_before rounds (ticks_in ts)) first,
              ap (λ ts. sends_before rounds (ticks_in ts)) second,
              ap (sends_before rounds) number,
            ),
            omega (
              arith,
              are.1,
              meet.soon,
              ap (λ ts. sends_before rounds (ticks_in ts)) first,
              ap (λ ts. sends_before rounds (ticks_in ts)) second,
              ap (sends_before rounds) number,
            ),
          )

-- ---- a send to the second host

abbrev second_port : Addr
second_port = record { ip = SECOND.addr; port = PORT }

module _ (id : ℕ) where
  -- the first host: nothing waits for its link, and this is its next identification
  abbrev K : State → Type 0
  K s = (s.output ≡ []) × (s.next_id ≡ id) × (s.config ≡ FIRST)

  tested : (old new : State) (held : Weight) (n : Need) (answer : Bool) → K old
      → HasBuffers exact_ledger old held n answer new → K new
  tested old new held n true k (inl a) = subst K (sym a.1) k
  tested old new held n true k (inr a) = subst K (sym a.1) k
  tested old new held n false k a = subst K (sym a.1) k

  named : (old new : State) (local asked : Option ℕ) (port : ℕ) → K old → GetsPort old local asked port new → K new
  named old new local (Some q) port k h = subst K (sym h.1) k
  named old new local None port k h = subst K (sym h.1) k

  -- an identification is used, or nothing is put into the output queue
  abbrev HasUsed : State → Type 0
  HasUsed new = (new.config ≡ FIRST) × ((new.output ≡ []) ⊎ (new.next_id ≡ (id + 1) % 65536))

  kept : (new : State) → K new → HasUsed new
  kept new k = (k.2, inl k.0)

  leaves : (fd : ℕ) (me : Socket) (to : Addr) (bytes : List ℕ) (old new : State) (reply : Reply) → to.ip ≡ SECOND.addr
      → K old → Send.Goes exact_ledger fd me to bytes old reply new → HasUsed new
  leaves fd me to bytes old new reply there k (port, mid, clusters, gets, taken, goes) =
      let x : Sending =
      record { id = old.next_id; source = source_for old.config me to.ip; to = to; port = port; bytes = bytes } in
      let out : List Item = packets mid.config clusters x in
      let gone : State = enqueued (to_link mid.config to.ip out) (spent fd port (parts_of mid.config x) mid) in
      let at : K mid = named old mid me.local me.port port k gets in
      let none : to_self mid.config to.ip out ≡ [] =
      ap (λ c. to_self c to.ip out) at.2 ∙ ap (λ ip. to_self FIRST ip out) there in
      let is : new ≡ gone = subst (λ items. AllArrive exact_ledger items gone new) none goes.0 in (
        ap (λ (s : State). s.config) is ∙ at.2,
        inr (ap (λ (s : State). s.next_id) is ∙ ap (λ n. (n + 1) % 65536) at.1),
      )

  has_sent_by : (bytes : List ℕ) (old new : State) (reply : Reply) → K old → Step old (send_event bytes) reply new
      → HasUsed new
  has_sent_by bytes old new reply k step = by_case step
      (λ e r. kept new (subst K (sym r.1) k))
      (λ me at h. by_case h
      (λ e (answer, mid, a, rest).
      let then' : K mid = tested old mid nothing _ answer k a in
      by_choice rest
      (λ e goes. leaves SOCKET me (target old me (Some second_port)) bytes mid new reply
      (ap (λ c. (read_addr c second_port).ip) k.2) then' goes)
      (λ e r. kept new (subst K (sym r.1) then')))
      (λ errno e r. kept new (subst K (sym r.1) k)))

another : (n m : ℕ) → n ≡ (m + 1) % 65536 → not (n == m) ≡ true
another n m e = go (eqb_tells n m)
  where
    go : (((n == m) ≡ true) × (n ≡ m)) ⊎ (((n == m) ≡ false) × (n ≢ m)) → not (n == m) ≡ true
    go (inl h) = absurd (omega (arith, e, h.1))
    go (inr h) = ap not h.0

-- ---- the calls of one round

module _ (old new : State) (reply : Reply) (p : List ℕ) where
  -- a packet that the link takes waited
  took : Transmits old.output old reply new → given Transmit reply ≡ Some p
      → Contains (packets_in_queue old.output) p
  took h is = go old.output refl h
    where
      go : (output : List Item) → old.output ≡ output → Transmits output old reply new
          → Contains (packets_in_queue old.output) p
      go [] e t = absurd (none-some p (sym (ap (given Transmit) t.0) ∙ is))
      go (item ∷ later) e t =
          subst (λ o. Contains (packets_in_queue o) p) (sym e)
          (0, omega arith, same_Some item.bytes p (sym (ap (given Transmit) t.0) ∙ is))

  -- and what waits after that, waited
  waited : Transmits old.output old reply new → Contains (packets_in_queue new.output) p
      → Contains (packets_in_queue old.output) p
  waited h has = go old.output refl h
    where
      go : (output : List Item) → old.output ≡ output → Transmits output old reply new
          → Contains (packets_in_queue old.output) p
      go [] e t = subst (λ (s : State). Contains (packets_in_queue s.output) p) t.1 has
      go (item ∷ later) e t =
          let c = subst (λ (s : State). Contains (packets_in_queue s.output) p) t.1 has in
          subst (λ o. Contains (packets_in_queue o) p) (sym e) (suc c.0, omega (arith, c.1), c.2)

id_kept : (old new : State) (reply : Reply) → Transmits old.output old reply new → new.next_id ≡ old.next_id
id_kept old new reply h = go old.output h
  where
    go : (output : List Item) → Transmits output old reply new → new.next_id ≡ old.next_id
    go [] t = ap (λ (s : State). s.next_id) t.1
    go (item ∷ later) t = ap (λ (s : State). s.next_id) t.1

config_kept : (old new : State) (reply : Reply) → Transmits old.output old reply new → new.config ≡ old.config
config_kept old new reply h = go old.output h
  where
    go : (output : List Item) → Transmits output old reply new → new.config ≡ old.config
    go [] t = ap (λ (s : State). s.config) t.1
    go (item ∷ later) t = ap (λ (s : State). s.config) t.1

none_left : (old new : State) → Transmits old.output old (Given None) new → new.output ≡ []
none_left old new h = go old.output refl h
  where
    go : (output : List Item) → old.output ≡ output → Transmits output old (Given None) new → new.output ≡ []
    go [] e t = ap (λ (s : State). s.output) t.1 ∙ e
    go (item ∷ later) e t = absurd (none-some item.bytes (ap (given Transmit) t.0))

uses_none : (p : PassedStep) → p.new.next_id ≡ p.old.next_id → cond {A = ℕ} (uses_id p) 1 0 ≡ 0
uses_none p e = ap {B = ℕ} (λ b. cond (not b) 1 0) (eq-eqb p.new.next_id p.old.next_id e)

at_most : (b : Bool) → cond {A = ℕ} b 1 0 ≤ 1
at_most true = omega arith
at_most false = omega arith

none_has : (xs : List (List ℕ)) (p : List ℕ) → length xs ≡ 0 → Contains xs p → ⊥
none_has xs p e c = omega (arith, c.1, e)

module _ (law : QueueLaw exact_ledger) (bytes : List ℕ) (s one two three new_s : StackView) (early late : List ℕ)
    (reply : Reply) (idle : IsIdle s)
    (sends : AreCalls s (record { event = send_event bytes; reply = reply } ∷ []) one)
    (gave_late : HasGiven one two late) (gave_early : HasGiven two three early)
    (gave_all : Step (state_of three) Transmit (Given None) (state_of new_s)) where
  abbrev sending : Turn
  sending = record { event = send_event bytes; reply = reply }

  abbrev last : Turn
  last = record { event = Transmit; reply = Given None }

  abbrev sent : List PassedCall
  sent =
      record { old = s; turn = sending; new = one } ∷ record { old = one; turn = gave_late.turn; new = two }
      ∷ record { old = two; turn = gave_early.turn; new = three }
      ∷ record { old = three; turn = last; new = new_s } ∷ []

  abbrev Sent' : Type 0
  Sent' = ((state_of one).config ≡ FIRST)
      × (((state_of one).output ≡ []) ⊎ ((state_of one).next_id ≡ ((state_of s).next_id + 1) % 65536))

  has_sent : Sent'
  has_sent =
      has_sent_by (state_of s).next_id bytes (state_of s) (state_of one) reply (idle.0, refl, idle.1)
      (one_call s one sending sends).1

  order : KeepsOrder (packets_in_queue (state_of s).output) [] (packets_in_queue (state_of one).output)
  order =
      law (state_of s) (state_of one) (sending ∷ []) (omega (arith, ap length idle.0))
      ((one_call s one sending sends).0, state_of one, (one_call s one sending sends).1, refl)

  made : (p : List ℕ) → Contains (packets_in_queue (state_of one).output) p → IsMadeBySend (steps_of sent) 0 p
  made p has = go has_sent.1
    where
      go : ((state_of one).output ≡ []) ⊎ ((state_of one).next_id ≡ ((state_of s).next_id + 1) % 65536)
          → IsMadeBySend (steps_of sent) 0 p
      go (inl none) =
          absurd (none_has (packets_in_queue (state_of one).output) p (ap (λ o. length (packets_in_queue o)) none) has)
      go (inr used) = record {
        before = [];
        send = record { old = state_of s; turn = sending; new = state_of one };
        after = steps_of (
            record { old = one; turn = gave_late.turn; new = two }
            ∷ record { old = two; turn = gave_early.turn; new = three }
            ∷ record { old = three; turn = last; new = new_s } ∷ []
            );
        trail_is = refl;
        number_is = refl;
        uses = another (state_of one).next_id (state_of s).next_id used;
        made = order.later;
        queued = sym order.same;
        among =
            subst (λ ps. Contains ps p) (sym order.same ∙ ap (λ o. packets_in_queue o ++ order.later) idle.0) has;
      }

  few : count_by uses_id (steps_of sent) ≤ 1
  few =
      let a : PassedStep = record { old = state_of s; turn = sending; new = state_of one } in
      let b : PassedStep = record { old = state_of one; turn = gave_late.turn; new = state_of two } in
      let c : PassedStep = record { old = state_of two; turn = gave_early.turn; new = state_of three } in
      let d : PassedStep = record { old = state_of three; turn = last; new = state_of new_s } in
      omega (
        arith,
        count_cons uses_id a (b ∷ c ∷ d ∷ []),
        count_cons uses_id b (c ∷ d ∷ []),
        count_cons uses_id c (d ∷ []),
        count_cons uses_id d [],
        at_most (uses_id a),
        uses_none b (id_kept (state_of one) (state_of two) gave_late.turn.reply (given_step one two late gave_late)),
        uses_none c
            (id_kept (state_of two) (state_of three) gave_early.turn.reply (given_step two three early gave_early)),
        uses_none d (id_kept (state_of three) (state_of new_s) (Given None) gave_all),
      )

  is_fine : (most : ℕ) (read : Reply)
      → IsFine (record { bytes = bytes; sent = sent; most = most; read = read; early = early; late = late })
  is_fine most read = record {
    sends = (
      refl,
      (
        subst (IsSendOf bytes) (sym gave_late.is_tx) tt,
        (subst (IsSendOf bytes) (sym gave_early.is_tx) tt, (tt, tt)),
      ),
    );
    few = few;
    early = λ from.
        made early (waited (state_of one) (state_of two) gave_late.turn.reply early (given_step one two late gave_late)
        (took (state_of two) (state_of three) gave_early.turn.reply early (given_step two three early gave_early)
        (given_packet two three early gave_early from.long)));
    late = λ from.
        made late (took (state_of one) (state_of two) gave_late.turn.reply late (given_step one two late gave_late)
        (given_packet one two late gave_late from.long));
  }

  pub is_round : (t begun mid later new_t : StackView) (most : ℕ) (read : Reply)
      → AreCalls t (receives most read ∷ []) begun
      → AreCalls begun (packet_comes early ∷ []) mid → AreCalls mid (packet_comes late ∷ []) later
      → Step (state_of later) Tick Done (state_of new_t) → IsRound bytes s t new_s new_t
  is_round t begun mid later new_t most read reads comes_early comes_late ticked = record {
    round = record { bytes = bytes; sent = sent; most = most; read = read; early = early; late = late };
    bytes_are = refl;
    first_calls = (
      refl,
      (one_call s one sending sends).0,
      (one_call s one sending sends).1,
      (
        refl,
        (one_call one two gave_late.turn gave_late.calls).0,
        (one_call one two gave_late.turn gave_late.calls).1,
        (
          refl,
          (one_call two three gave_early.turn gave_early.calls).0,
          (one_call two three gave_early.turn gave_early.calls).1,
          (refl, tt, gave_all, refl),
        ),
      ),
    );
    second_calls =
        then_calls t begun new_t (receives most read ∷ [])
        (packet_comes early ∷ packet_comes late ∷ clock_ticks ∷ []) reads
        (then_calls begun mid new_t (packet_comes early ∷ []) (packet_comes late ∷ clock_ticks ∷ []) comes_early
        (then_calls mid later new_t (packet_comes late ∷ []) (clock_ticks ∷ []) comes_late (tt, new_t, ticked, refl)));
    fine = is_fine most read;
    idle = (
      none_left (state_of three) (state_of new_s) gave_all,
      config_kept (state_of three) (state_of new_s) (Given None) gave_all
          ∙ config_kept (state_of two) (state_of three) gave_early.turn.reply (given_step two three early gave_early)
          ∙ config_kept (state_of one) (state_of two) gave_late.turn.reply (given_step one two late gave_late)
          ∙ has_sent.0,
    );
  }

-- ---- all rounds

then_calls_of : (a b c : StackView) (xs ys : List PassedCall) → AreCallsOf a xs b → AreCallsOf b ys c
    → AreCallsOf a (xs ++ ys) c
then_calls_of a b c [] ys same later = subst (λ (s : StackView). AreCallsOf s ys c) same later
then_calls_of a b c (x ∷ xs) ys (at, is, turn, rest) later =
    (at, is, turn, then_calls_of x.new b c xs ys rest later)

pub no_rounds : (one other : List ℕ) (s t : StackView) → AreRounds one other s t s t
no_rounds one other s t = record { rounds = []; first_calls = refl; second_calls = refl; fine = tt; bytes = tt }

pub round_first : (one other bytes : List ℕ) (s t mid_s mid_t new_s new_t : StackView)
    → (bytes ≡ one) ⊎ (bytes ≡ other) → IsRound bytes s t mid_s mid_t → AreRounds one other mid_s mid_t new_s new_t
    → AreRounds one other s t new_s new_t
round_first one other bytes s t mid_s mid_t new_s new_t either r later = record {
  rounds = r.round ∷ later.rounds;
  first_calls =
      then_calls_of s mid_s new_s r.round.sent (sent_in_rounds later.rounds) r.first_calls later.first_calls;
  second_calls =
      then_calls t mid_t new_t (came_in_rounds (r.round ∷ []) []) (came_in_rounds later.rounds []) r.second_calls
      later.second_calls;
  fine = (r.fine, later.fine);
  bytes = (
    subst (λ b. (b ≡ one) ⊎ (b ≡ other)) (sym r.bytes_are) either,
    later.bytes,
  );
}

came_then : (rounds : List Round) (end : List Turn) → came_in_rounds rounds [] ++ end ≡ came_in_rounds rounds end
came_then [] end = refl
came_then (r ∷ later) end =
    ap (λ ts. read_in r ∷ packet_comes r.early ∷ packet_comes r.late ∷ clock_ticks ∷ ts) (came_then later end)

abbrev SendsEither : List ℕ → List ℕ → Event → Type 0
SendsEither one other (Send fd to bytes) = (bytes ≡ one) ⊎ (bytes ≡ other)
SendsEither one other _ = ⊤

sends_either : (one other bytes : List ℕ) (event : Event) → (bytes ≡ one) ⊎ (bytes ≡ other) → IsSendOf bytes event
    → SendsEither one other event
sends_either one other bytes (Send fd to b) either is = subst (λ x. (x ≡ one) ⊎ (x ≡ other)) (sym is) either
sends_either one other bytes Open either is = tt
sends_either one other bytes (Bind fd a) either is = tt
sends_either one other bytes (Connect fd a) either is = tt
sends_either one other bytes (Receive fd most) either is = tt
sends_either one other bytes (Close fd) either is = tt
sends_either one other bytes (Set_option fd option on) either is = tt
sends_either one other bytes (Set_limit fd limit) either is = tt
sends_either one other bytes (Comes packet) either is = tt
sends_either one other bytes Transmit either is = tt
sends_either one other bytes Tick either is = tt
sends_either one other bytes Ask_counters either is = tt
sends_either one other bytes Ask_usage either is = tt

module _ (one other : List ℕ) where
  abbrev Sends : Turn → Type 0
  Sends turn = SendsEither one other turn.event

  in_round : (calls later : List PassedCall) (bytes : List ℕ) → (bytes ≡ one) ⊎ (bytes ≡ other)
      → Each (λ (call : PassedCall). IsSendOf bytes call.turn.event) calls → Each Sends (turns_of_calls later)
      → Each Sends (turns_of_calls (calls ++ later))
  in_round [] later bytes either h rest = rest
  in_round (call ∷ calls) later bytes either h rest =
      (sends_either one other bytes call.turn.event either h.0, in_round calls later bytes either h.1 rest)

  in_rounds : (rounds : List Round) → Each IsFine rounds
      → Each (λ (r : Round). (r.bytes ≡ one) ⊎ (r.bytes ≡ other)) rounds
      → Each Sends (turns_of_calls (sent_in_rounds rounds))
  in_rounds [] fine bytes = tt
  in_rounds (r ∷ later) fine bytes =
      in_round r.sent (sent_in_rounds later) r.bytes bytes.0 fine.0.sends (in_rounds later fine.1 bytes.1)

  in_middle : (before after : List Turn) (turn : Turn) → Each Sends (before ++ turn ∷ after) → Sends turn
  in_middle [] after turn h = h.0
  in_middle (x ∷ before) after turn h = in_middle before after turn h.1

-- ---- the law of a wire without end

-- as its function states it
abbrev pub ReceivedForEver : Type 0
ReceivedForEver =
    (first second : Config) (sent : List PassedCall) (before after : List Turn) (s t : StackView)
    (born : ℕ → ℕ) (fd most : ℕ) (sender : Addr) (bytes : List ℕ)
    → AreOnOneWireForEver first second sent
    (before ++ record { event = Receive fd most; reply = Received sender bytes } ∷ after) s t born
    → sender.ip ≡ first.addr
    → WasSent exact_ledger exact_ledger first second (turns_of_calls sent) before (state_of s) fd most sender bytes

-- a socket is opened: nothing waits for the link, and no identification is used
opens : (a new : StackView) (opened : Reply) → state_of a ≡ boot FIRST → Step (state_of a) Open opened (state_of new)
    → IsIdle new × ((state_of new).next_id ≡ (state_of a).next_id)
opens a new opened starts step = by_choice step
    (λ e (fd, least, answer, is). subst Is (sym is) here)
    (λ e r. subst Is (sym r.1) here)
  where
    Is : State → Type 0
    Is s = ((s.output ≡ []) × (s.config ≡ FIRST)) × (s.next_id ≡ (state_of a).next_id)

    here : Is (state_of a)
    here = ((ap (λ (s : State). s.output) starts, ap (λ (s : State). s.config) starts), refl)

module _ (first_boots : IsConfig FIRST) (second_boots : IsConfig SECOND) (a a1 b b1 b2 s c t : StackView)
    (one other : List ℕ) (opened opened' bound : Reply) (starts_a : state_of a ≡ boot FIRST)
    (starts_b : state_of b ≡ boot SECOND) (opens_a : Step (state_of a) Open opened (state_of a1))
    (opens_b : Step (state_of b) Open opened' (state_of b1))
    (binds : Step (state_of b1) (Bind SOCKET (record { ip = 0; port = PORT })) bound (state_of b2))
    (r : AreRounds one other a1 b2 s c) (most : ℕ) (reply : Reply)
    (reads : Step (state_of c) (Receive SOCKET most) reply (state_of t)) where
  abbrev opening : PassedCall
  opening = record { old = a; turn = record { event = Open; reply = opened }; new = a1 }

  abbrev open_turn : Turn
  open_turn = record { event = Open; reply = opened' }

  abbrev bind_turn : Turn
  bind_turn = record { event = Bind SOCKET (record { ip = 0; port = PORT }); reply = bound }

  abbrev end : List Turn
  end = receives most reply ∷ []

  abbrev All' : List Turn
  All' = came r.rounds end open_turn bind_turn

  none_used : count_by uses_id (steps_of (opening ∷ [])) ≡ 0
  none_used =
      let p : PassedStep = record { old = state_of a; turn = opening.turn; new = state_of a1 } in
      omega (arith, count_cons uses_id p [], uses_none p (opens a a1 opened starts_a opens_a).1)

  on_wire : PaceLaw → AreOnOneWireForEver FIRST SECOND (opening ∷ sent_in_rounds r.rounds) All' s t
      (born r.rounds end open_turn bind_turn)
  on_wire pace = record {
    first_boots = first_boots;
    second_boots = second_boots;
    first_start = a;
    second_start = b;
    first_starts = starts_a;
    second_starts = starts_b;
    first_calls = (refl, tt, opens_a, r.first_calls);
    second_calls = (
      tt,
      b1,
      opens_b,
      (
        record { ip = omega arith; port = omega arith },
        b2,
        binds,
        subst (λ ts. AreCalls b2 ts t) (came_then r.rounds end)
            (then_calls b2 c t (came_in_rounds r.rounds []) end r.second_calls (tt, t, reads, refl)),
      ),
    );
    not_addr = omega arith;
    not_bcast = omega arith;
    wire = λ before after turn packet e comes from.
        subst (λ n. IsMadeBySend (steps_of (opening ∷ sent_in_rounds r.rounds)) n packet) (omega (arith, none_used))
        (made_later (steps_of (opening ∷ [])) (steps_of (sent_in_rounds r.rounds))
        (born r.rounds end open_turn bind_turn (length before)) packet
        (wire r.rounds end open_turn bind_turn r.fine (refl, tt) refl refl refl refl before after turn packet e comes
        from));
    near =
        pace FIRST.addr All' (born r.rounds end open_turn bind_turn)
        (λ k. born r.rounds end open_turn bind_turn k + 1) 1 60
        (are_paced r.rounds end open_turn bind_turn r.fine (refl, tt) refl refl refl refl);
  }

  pub is_one_of_both : ReceivedForEver → PaceLaw → (sender : Addr) (bytes : List ℕ) → reply ≡ Received sender bytes
      → sender.ip ≡ FIRST.addr → IsOneOfBoth one other most bytes
  is_one_of_both law pace sender bytes is from = go (is_sent.answered.turns_are)
    where
      before : List Turn
      before = open_turn ∷ bind_turn ∷ came_in_rounds r.rounds []

      here : AreOnOneWireForEver FIRST SECOND (opening ∷ sent_in_rounds r.rounds)
          (before ++ receives most (Received sender bytes) ∷ []) s t (born r.rounds end open_turn bind_turn)
      here =
          subst (λ ts. AreOnOneWireForEver FIRST SECOND (opening ∷ sent_in_rounds r.rounds) ts s t
          (born r.rounds end open_turn bind_turn))
          (ap (λ ts. open_turn ∷ bind_turn ∷ ts)
          (sym (came_then r.rounds end) ∙ ap (λ answer. came_in_rounds r.rounds [] ++ receives most answer ∷ []) is))
          (on_wire pace)

      is_sent : WasSent exact_ledger exact_ledger FIRST SECOND (turns_of_calls (opening ∷ sent_in_rounds r.rounds))
          before (state_of s) SOCKET most sender bytes
      is_sent =
          law FIRST SECOND (opening ∷ sent_in_rounds r.rounds) before [] s t (born r.rounds end open_turn bind_turn)
          SOCKET most sender bytes here from

      all : Each (Sends one other) (turns_of_calls (opening ∷ sent_in_rounds r.rounds))
      all = (tt, in_rounds one other r.rounds r.fine r.bytes)

      go : turns_of_calls (opening ∷ sent_in_rounds r.rounds)
          ≡ is_sent.answered.before
          ++ record {
            event = Send is_sent.answered.fd is_sent.answered.address is_sent.whole;
            reply = Sent (length is_sent.whole);
          }
          ∷ is_sent.answered.after
          → IsOneOfBoth one other most bytes
      go e = either (in_middle one other is_sent.answered.before is_sent.answered.after _
          (subst (Each (Sends one other)) e all))
        where
          either : (is_sent.whole ≡ one) ⊎ (is_sent.whole ≡ other) → IsOneOfBoth one other most bytes
          either (inl same) = inl (is_sent.bytes_are ∙ ap (take most) same)
          either (inr same) = inr (is_sent.bytes_are ∙ ap (take most) same)

-- a reply of `recvfrom` with a datagram
pub if_ok : (one other : List ℕ) (most : ℕ) (answer : Result (Addr × ℕ) Errno) (buffer : List ℕ)
    → ((sender : Addr) (bytes : List ℕ) → received_reply answer buffer ≡ Received sender bytes
    → sender.ip ≡ FIRST.addr → IsOneOfBoth one other most bytes)
    → IfOk answer (λ got. got.0.ip ≡ FIRST.addr → IsOneOfBoth one other most (take got.1 buffer))
if_ok one other most (Ok (sender, n)) buffer h = λ from. h sender (take n buffer) refl from
if_ok one other most (Err errno) buffer h = tt
