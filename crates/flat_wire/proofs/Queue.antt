-- The output queue gives out what was put in, in order.
use Rattle.std.proofs.Common.{◌≡◌, ℕ, zero, suc, ◌+◌, ◌-◌, ◌≤◌, List, [], ◌∷◌, ◌++◌, length, take, refl, sym, ◌∙◌, ap, subst, arith, Option, Some, None}
use Rattle.std.specs.Prelude.{filter_map}
use Rattle.std.specs.List.{cons_option}
use Rattle.std.proofs.lemmas.List.{append_assoc, append-nil, map-append}
use Rattle.std.proofs.Math.Seq.{take-append-add}
use Rattle.params.specs.declared.TheConstants.{OUTPUT_QUEUE_PACKETS}
use Rattle.flat_model.specs.Amounts.Weight.{Item, nothing}
use Rattle.flat_model.specs.Amounts.Layout.{wire, entries_on, weight_of}
use Rattle.flat_model.specs.Machine.Event.{Event, Reply, Open, Bind, Connect, Send, Receive, Close, Set_option, Set_limit, Comes, Transmit, Tick, Ask_counters, Ask_usage}
use Rattle.flat_model.specs.declared.errno.Errno.{Errno}
use Rattle.flat_model.specs.Machine.State.{State, Socket, Datagram}
use Rattle.flat_model.specs.Machine.Calls as Calls
use Rattle.flat_model.specs.Machine.Calls.{OnSocket, GetsPort, Refuses}
use Rattle.flat_model.specs.Machine.Ledger.{Ledger}
use Rattle.flat_model.specs.Machine.Arrival as Arrival
use Rattle.flat_model.specs.Machine.Step.{StepBy, Transmits}
use Rattle.flat_model.specs.Runs.Run.{Turn, Leads}
use Rattle.flat_model.proofs.Laws.{by_choice, by_case}
use Rattle.flat_wire.specs.Wire.{packet_out}
use Rattle.flat_wire.specs.Queue.{packets_in_queue, KeepsOrder, QueueLaw}
use Rattle.flat_wire.proofs.Closed.{IsClosed, kept_has_buffers, kept_arrives, kept_all}

-- a queue that has packets more than before
record Grows (before after : List Item) : Type 0 where
  more : List (List ℕ)
  is : packets_in_queue after ≡ packets_in_queue before ++ more
  short : length after ≤ OUTPUT_QUEUE_PACKETS

grows_more : (before after link : List Item) → Grows before after
    → Grows before (take OUTPUT_QUEUE_PACKETS (after ++ link))
grows_more before after link g =
    let n : ℕ = OUTPUT_QUEUE_PACKETS - length after in
    let size : length after + n ≡ OUTPUT_QUEUE_PACKETS = omega (arith, g.short) in
    let shape : take OUTPUT_QUEUE_PACKETS (after ++ link) ≡ after ++ take n link =
    ap (λ m. take m (after ++ link)) (sym size) ∙ take-append-add after link n in
    record {
      more = g.more ++ packets_in_queue (take n link);
      is =
          ap packets_in_queue shape ∙ map-append (λ (item : Item). item.bytes) after (take n link)
          ∙ ap (λ xs. xs ++ packets_in_queue (take n link)) g.is
          ∙ append_assoc (packets_in_queue before) g.more (packets_in_queue (take n link));
      short = short OUTPUT_QUEUE_PACKETS (after ++ link);
    }
  where
    short : (m : ℕ) (xs : List Item) → length (take m xs) ≤ m
    short zero xs = omega arith
    short (suc m) [] = omega arith
    short (suc m) (x ∷ xs) = omega (arith, short m xs)

module _ (L : Ledger) (before : List Item) where
  abbrev K : State → Type 0
  K s = Grows before s.output

  closed : IsClosed L (λ s. Grows before s.output)
  closed = record {
    ended = λ why s k. k;
    dropped = λ s k. k;
    queued = λ fd d s k. k;
    begins = λ key s k. k;
    sets = λ key bytes s k. k;
    finishes = λ key s k. k;
    fragment = λ s k. k;
    packet = λ s k. k;
  }

  refuses : (old new : State) (reply : Reply) (errno : Errno) → K old → Refuses errno old reply new → K new
  refuses old new reply errno k h = subst K (sym h.1) k

  gets : (old new : State) (local asked : Option ℕ) (port : ℕ) → K old → GetsPort old local asked port new → K new
  gets old new local (Some q) port k h = subst K (sym h.1) k
  gets old new local None port k h = subst K (sym h.1) k

  on_fd : (fd : ℕ) (old new : State) (reply : Reply) (Call : Socket → Type 0) → K old → OnSocket fd old reply new Call
      → ((me : Socket) → Call me → K new) → K new
  on_fd fd old new reply Call k h goes = by_case h (λ e r. refuses old new reply _ k r) (λ me at r. goes me r)

  receives : (fd most : ℕ) (queue : List Datagram) (old new : State) (reply : Reply) → K old
      → Calls.Receives fd most queue old reply new → K new
  receives fd most [] old new reply k h = refuses old new reply _ k h
  receives fd most (d ∷ later) old new reply k h = subst K (sym h.1) k

  -- every event but the link's
  grows : (event : Event) (old new : State) (reply : Reply) → K old → ((event ≡ Transmit) → ⊥)
      → StepBy L old event reply new → K new
  grows Open old new reply k other h =
      by_choice h (λ e (fd, least, answer, is). subst K (sym is) k) (λ e r. refuses old new reply _ k r)
  grows (Bind fd a) old new reply k other h = on_fd fd old new reply _ k h (λ me c. by_case c
      (λ e (port, chosen, g, answer, n). subst K (sym n) (gets old chosen _ _ port k g))
      (λ errno e r. refuses old new reply errno k r))
  grows (Connect fd a) old new reply k other h = on_fd fd old new reply _ k h (λ me c. by_case c
      (λ e (port, chosen, g, answer, n). subst K (sym n) (gets _ chosen _ _ port k g))
      (λ errno e r. refuses _ new reply errno k r))
  grows (Send fd to bytes) old new reply k other h = on_fd fd old new reply _ k h (λ me c. by_case c
      (λ e (answer, mid, a, rest).
      let at : K mid = kept_has_buffers L (λ s. Grows before s.output) closed old mid nothing _ answer k a in
      by_choice rest
      (λ e (port, named, clusters, g, taken, left).
      kept_all L (λ s. Grows before s.output) closed _ _ new
      (grows_more before named.output _ (gets mid named _ _ port at g)) left.0)
      (λ e r. refuses mid new reply _ at r))
      (λ errno e r. refuses old new reply errno k r))
  grows (Receive fd most) old new reply k other h =
      on_fd fd old new reply _ k h (λ me r. receives fd most me.queue old new reply k r)
  grows (Close fd) old new reply k other h = on_fd fd old new reply _ k h (λ me r. subst K (sym r.1) k)
  grows (Set_option fd option on) old new reply k other h =
      on_fd fd old new reply _ k h (λ me r. subst K (sym r.1) k)
  grows (Set_limit fd limit) old new reply k other h =
      on_fd fd old new reply _ k h (λ me r. subst K (sym r.1) k)
  grows (Comes packet) old new reply k other (answer_is, (answer, mid, a, h)) =
      let at : K mid = kept_has_buffers L (λ s. Grows before s.output) closed old mid nothing _ answer k a in
      by_choice h
      (λ e (clusters, taken, arrives).
      kept_arrives L (λ s. Grows before s.output) closed (Arrival.By_wire (length packet)) nothing
      (record { bytes = packet; weight = weight_of (entries_on clusters (wire (length packet))) }) mid new at arrives)
      (λ e r. subst K (sym r) at)
  grows Transmit old new reply k other h = absurd (other refl)
  grows Tick old new reply k other h = subst K (sym h.1) k
  grows Ask_counters old new reply k other h = subst K (sym h.1) k
  grows Ask_usage old new reply k other h = subst K (sym h.3) k

module _ (L : Ledger) where
  abbrev Keeps : State → List (List ℕ) → State → Type 0
  Keeps old given new = KeepsOrder (packets_in_queue old.output) given (packets_in_queue new.output)
      × (length new.output ≤ OUTPUT_QUEUE_PACKETS)

  -- one turn, which gave these packets
  grown : (old new : State) → Grows old.output new.output → Keeps old [] new
  grown old new g = (record { later = g.more; same = sym g.is }, g.short)

  start : (old : State) → length old.output ≤ OUTPUT_QUEUE_PACKETS → Grows old.output old.output
  start old short = record { more = []; is = sym (append-nil (packets_in_queue old.output)); short = short }

  transmits : (old new : State) (reply : Reply) (output : List Item) → old.output ≡ output
      → length old.output ≤ OUTPUT_QUEUE_PACKETS → Transmits output old reply new
      → Keeps old (cons_option (packet_out (record { event = Transmit; reply = reply })) []) new
  transmits old new reply [] e short h =
      subst (λ r. Keeps old (cons_option (packet_out (record { event = Transmit; reply = r })) []) new) (sym h.0)
      (subst (Keeps old []) (sym h.1) (grown old old (start old short)))
  transmits old new reply (item ∷ later) e short h =
      subst (λ r. Keeps old (cons_option (packet_out (record { event = Transmit; reply = r })) []) new) (sym h.0)
      (subst (Keeps old (item.bytes ∷ [])) (sym h.1) (
        record { later = []; same = append-nil (packets_in_queue old.output) ∙ ap packets_in_queue e },
        omega (arith, short, ap length e),
      ))

  one : (turn : Turn) (old new : State) → length old.output ≤ OUTPUT_QUEUE_PACKETS
      → StepBy L old turn.event turn.reply new → Keeps old (cons_option (packet_out turn) []) new
  one turn old new short h = go turn.event turn.reply h
    where
      silent : (event : Event) (reply : Reply) → ((event ≡ Transmit) → ⊥) → StepBy L old event reply new
          → Keeps old [] new
      silent event reply other h =
          grown old new (grows L old.output event old new reply (start old short) other h)

      go : (event : Event) (reply : Reply) → StepBy L old event reply new
          → Keeps old (cons_option (packet_out (record { event = event; reply = reply })) []) new
      go Transmit reply h = transmits old new reply old.output refl short h
      go Open reply h = silent Open reply (λ e. cc) h
      go (Bind fd a) reply h = silent (Bind fd a) reply (λ e. cc) h
      go (Connect fd a) reply h = silent (Connect fd a) reply (λ e. cc) h
      go (Send fd to bytes) reply h = silent (Send fd to bytes) reply (λ e. cc) h
      go (Receive fd most) reply h = silent (Receive fd most) reply (λ e. cc) h
      go (Close fd) reply h = silent (Close fd) reply (λ e. cc) h
      go (Set_option fd option on) reply h = silent (Set_option fd option on) reply (λ e. cc) h
      go (Set_limit fd limit) reply h = silent (Set_limit fd limit) reply (λ e. cc) h
      go (Comes packet) reply h = silent (Comes packet) reply (λ e. cc) h
      go Tick reply h = silent Tick reply (λ e. cc) h
      go Ask_counters reply h = silent Ask_counters reply (λ e. cc) h
      go Ask_usage reply h = silent Ask_usage reply (λ e. cc) h

  joined : (turn : Turn) (turns : List Turn)
      → cons_option (packet_out turn) [] ++ filter_map packet_out turns ≡ filter_map packet_out (turn ∷ turns)
  joined turn turns = go (packet_out turn)
    where
      go : (o : Option (List ℕ)) → cons_option o [] ++ filter_map packet_out turns
          ≡ cons_option o (filter_map packet_out turns)
      go None = refl
      go (Some packet) = refl

  all_of_them : (old new : State) (turns : List Turn) → length old.output ≤ OUTPUT_QUEUE_PACKETS
      → Leads L old turns new
      → KeepsOrder (packets_in_queue old.output) (filter_map packet_out turns) (packets_in_queue new.output)
  all_of_them old new [] short e =
      subst (λ s. KeepsOrder (packets_in_queue old.output) [] (packets_in_queue s.output)) (sym e)
      (grown old old (start old short)).0
  all_of_them old new (turn ∷ turns) short (is, mid, step, later) =
      let first = one turn old mid short step in
      let rest = all_of_them mid new turns first.1 later in
      record {
        later = first.0.later ++ rest.later;
        same =
            sym (append_assoc (packets_in_queue old.output) first.0.later rest.later)
            ∙ ap (λ xs. xs ++ rest.later) first.0.same
            ∙ append_assoc (cons_option (packet_out turn) []) (packets_in_queue mid.output) rest.later
            ∙ ap (λ xs. cons_option (packet_out turn) [] ++ xs) rest.same
            ∙ sym (append_assoc (cons_option (packet_out turn) []) (filter_map packet_out turns)
            (packets_in_queue new.output))
            ∙ ap (λ xs. xs ++ packets_in_queue new.output) (joined turn turns);
      }

pub queue_law_lem : (L : Ledger) → QueueLaw L
queue_law_lem L old new turns short h = all_of_them L old new turns short h
