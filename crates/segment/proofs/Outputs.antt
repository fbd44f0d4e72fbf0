-- What a call does to the packets that wait for the link, and to the identification: only a send adds packets, and it
-- uses one.
use Rattle.std.proofs.Common.{◌≡◌, ◌≢◌, ◌⊎◌, inl, inr, ℕ, ◌+◌, ◌-◌, ◌%◌, ◌≤◌, Bool, true, false, cond, List, [], ◌∷◌, ◌++◌, length, take, refl, sym, ap, ◌∙◌, subst, arith, Option, Some, None}
use Rattle.std.specs.Prelude.{◌==◌, not}
use Rattle.std.proofs.Math.Seq.{take-append-add}
use Rattle.std.proofs.lemmas.Bool.Decides.{eqb_tells}
use Rattle.std.proofs.lemmas.List.{map-append}
use Rattle.params.specs.declared.TheConstants.{OUTPUT_QUEUE_PACKETS}
use Rattle.flat_model.specs.Amounts.Weight.{Weight, Item, ◌⊕◌, nothing}
use Rattle.flat_model.specs.Amounts.Layout.{Need, wire, entries_on, weight_of}
use Rattle.flat_model.specs.Fragments.Overlay.{Map, Fragment}
use Rattle.flat_model.specs.Fragments.Whole.{bytes_below}
use Rattle.flat_model.specs.Packets.Header.{head_of}
use Rattle.flat_model.specs.Machine.State.{State, Socket, Datagram, Key, Unfinished, change_socket, begun, begin_unfinished, end_unfinished}
use Rattle.flat_model.specs.Machine.Event.{Event, Reply, Open, Bind, Connect, Send, Receive, Close, Set_option, Set_limit, Comes, Transmit, Tick, Ask_counters, Ask_usage}
use Rattle.flat_model.specs.Machine.Ledger.{HasBuffers, need_mbufs, exact_ledger}
use Rattle.flat_model.specs.Machine.Calls as Calls
use Rattle.flat_model.specs.Machine.Calls.{Refuses, OnSocket, GetsPort, source_for}
use Rattle.flat_model.specs.Machine.Arrival as Arrival
use Rattle.flat_model.specs.Machine.Arrival.{Origin, By_wire, Looped}
use Rattle.flat_model.specs.Machine.Sending.{Sending, packets, parts_of}
use Rattle.flat_model.specs.Machine.Send as Send
use Rattle.flat_model.specs.Machine.Send.{to_link, to_self, enqueued, overflows, spent, target}
use Rattle.flat_model.specs.Machine.Step.{ComesIn, Transmits, Step}
use Rattle.flat_model.specs.declared.address.Addr.{Addr}
use Rattle.flat_model.specs.declared.errno.Errno.TheVariants.{NoBufs}
use Rattle.flat_model.specs.declared.errno.Lack.TheVariants.{Queue}
use Rattle.flat_model.specs.Machine.Event.{Sent, Refused}
use Rattle.flat_model.proofs.Laws.{by_choice, by_case}
use Rattle.flat_wire.specs.Ever.{uses_id}
use Rattle.flat_wire.specs.Places.{went}
use Rattle.flat_wire.specs.Queue.{packets_in_queue}
use Rattle.segment.specs.Delay.{is_numbered}

-- ---- what an arrival doesn't change
--
-- The lemmas are those of proofs/Closed in flat_wire, for one predicate. They can't be cited here: flat_wire has no
-- Laws.

module _ (out : List Item) (id : ℕ) where
  abbrev As : State → Type 0
  As s = (s.output ≡ out) × (s.next_id ≡ id)

  as_tested : (old new : State) (held : Weight) (n : Need) (answer : Bool) → As old
      → HasBuffers exact_ledger old held n answer new → As new
  as_tested old new held n true k (inl a) = subst As (sym a.1) k
  as_tested old new held n true k (inr a) = subst As (sym a.1) k
  as_tested old new held n false k a = subst As (sym a.1) k

  as_test : (old new : State) (held : Weight) (n : ℕ) (Then : State → Type 0) → As old
      → ((mid : State) → As mid → Then mid → As new) → Arrival.Tests exact_ledger old held n new Then → As new
  as_test old new held n Then k goes t =
      let at : As t.mid = as_tested old t.mid held (need_mbufs n) t.answer k t.has_buffers in
      by_choice t.goes_on (λ e h. goes t.mid at h) (λ e h. subst As (sym h) at)

  as_appends : (held : Weight) (sender : Addr) (item : Item) (to : Socket) (old new : State) → As old
      → Arrival.Appends exact_ledger held sender item to old new → As new
  as_appends held sender item to old new k h = by_choice h
      (λ e t. as_test old new (held ⊕ item.weight) 1 _ k (λ mid at e. subst As (sym e) at) t)
      (λ e t. subst As (sym t) k)

  as_delivers : (held : Weight) (sender : Addr) (item : Item) (tos : List Socket) (old new : State) → As old
      → Arrival.Delivers exact_ledger held sender item tos old new → As new
  as_delivers held sender item [] old new k h = absurd h
  as_delivers held sender item (last ∷ []) old new k h = as_appends held sender item last old new k h
  as_delivers held sender item (to ∷ next ∷ more) old new k (after, tests, later) =
      as_delivers held sender item (next ∷ more) after new
      (as_test old after (held ⊕ item.weight) item.weight.mbufs _ k
      (λ mid at a. as_appends (held ⊕ item.weight) sender item to mid after at a) tests) later

  as_goes : (held : Weight) (sender : Addr) (item : Item) (destination : ℕ) (tos : List Socket) (old new : State)
      → As old → Arrival.GoesTo exact_ledger held sender item destination tos old new → As new
  as_goes held sender item destination [] old new k h = subst As (sym h) k
  as_goes held sender item destination (to ∷ more) old new k h = as_delivers held sender item (to ∷ more) old new k h

  as_whole : (held : Weight) (source destination protocol : ℕ) (item : Item) (old new : State) → As old
      → Arrival.WholeArrives exact_ledger held source destination protocol item old new → As new
  as_whole held source destination protocol item old new k h = by_choice h
      (λ e c. by_case c (λ e g. as_goes held _ _ destination _ old new k g) (λ why e g. subst As (sym g) k))
      (λ e g. subst As (sym g) k)

  as_settles : (held : Weight) (key : Key) (bytes : Map) (old new : State) → As old
      → Arrival.Settles exact_ledger held key bytes old new → As new
  as_settles held key bytes old new k (inl (n, w, joined, j, a)) =
      as_whole held key.source key.destination key.protocol (record { bytes = bytes_below bytes n; weight = joined })
      (Arrival.counts_reassembled (end_unfinished key old)) new k a
  as_settles held key bytes old new k (inr (unwhole, e)) = subst As (sym e) k

  as_inserts : (held : Weight) (key : Key) (f : Fragment) (u : Unfinished) (old new : State) → As old
      → Arrival.Inserts exact_ledger held key f u old new → As new
  as_inserts held key f u old new k h = by_choice h (λ e g. subst As (sym g) k)
      (λ e g. as_settles held key _ old new k g)

  as_joins : (held : Weight) (key : Key) (f : Fragment) (old new : State) → As old
      → Arrival.Joins exact_ledger held key f old new → As new
  as_joins held key f old new k h = by_case h
      (λ e t. as_test old new (held ⊕ f.weight) 1 _ k
      (λ mid at r. as_inserts held key f (begun key) (begin_unfinished key mid) new at r) t)
      (λ u e l. as_inserts held key f u old new k l)

  as_pulls : (origin : Origin) (held w : Weight) (total : ℕ) (old new : State) (Then : Weight → State → Type 0) → As old
      → ((w : Weight) (mid : State) → As mid → Then w mid → As new)
      → Arrival.PullsUp exact_ledger origin held w total old new Then → As new
  as_pulls Looped held w total old new Then k goes h = goes w old k h
  as_pulls (By_wire received) held w total old new Then k goes h =
      by_choice h (λ e t. as_test old new (held ⊕ w) 1 _ k (λ mid at r. goes _ mid at r) t) (λ e r. goes w old k r)

  as_passes : (origin : Origin) (held : Weight) (item : Item) (old new : State) → As old
      → Arrival.Passes exact_ledger origin held item old new → As new
  as_passes origin held item old new k h = by_choice h
      (λ e c. by_choice c
      (λ e f. by_choice f
      (λ e g. subst As (sym g) k)
      (λ e p. as_pulls origin held _ _ (Arrival.counts_fragment old) new _ k
      (λ w mid at j. as_joins held _ _ mid new at j) p))
      (λ e w. as_whole held (head_of item.bytes).source (head_of item.bytes).destination (head_of item.bytes).protocol
      (Arrival.carried item) old new k w))
      (λ e g. subst As (sym g) k)

  as_arrives : (origin : Origin) (held : Weight) (item : Item) (old new : State) → As old
      → Arrival.Arrives exact_ledger origin held item old new → As new
  as_arrives origin held item old new k h = by_case h
      (λ e p. as_passes origin held item (Arrival.counts_packet old) new k p)
      (λ why e g. subst As (sym g) k)

  as_all : (items : List Item) (old new : State) → As old → Arrival.AllArrive exact_ledger items old new → As new
  as_all [] old new k e = subst As (sym e) k
  as_all (item ∷ items) old new k (mid, a, later) = as_all items mid new (as_arrives Looped _ item old mid k a) later

  as_comes : (packet : List ℕ) (old new : State) → As old → ComesIn exact_ledger packet old new → As new
  as_comes packet old new k (answer, mid, a, h) =
      let at : As mid = as_tested old mid nothing _ answer k a in
      by_choice h
      (λ e (clusters, taken, arrives). as_arrives (By_wire (length packet)) nothing
      (record { bytes = packet; weight = weight_of (entries_on clusters (wire (length packet))) }) mid new at arrives)
      (λ e r. subst As (sym r) at)

  as_refused : (old new : State) (reply : Reply) (errno : _) → As old → Refuses errno old reply new → As new
  as_refused old new reply errno k h = subst As (sym h.1) k

  as_named : (old new : State) (local asked : Option ℕ) (port : ℕ) → As old → GetsPort old local asked port new → As new
  as_named old new local (Some q) port k h = subst As (sym h.1) k
  as_named old new local None port k h = subst As (sym h.1) k

  as_on : (fd : ℕ) (old new : State) (reply : Reply) (Call : Socket → Type 0) → As old
      → ((me : Socket) → Call me → As new) → OnSocket fd old reply new Call → As new
  as_on fd old new reply Call k goes h = by_case h (λ e r. as_refused old new reply _ k r) (λ me e call. goes me call)

  as_receives : (fd most : ℕ) (queue : List Datagram) (old new : State) (reply : Reply) → As old
      → Calls.Receives fd most queue old reply new → As new
  as_receives fd most [] old new reply k h = as_refused old new reply _ k h
  as_receives fd most (d ∷ later) old new reply k h = subst As (sym h.1) k

-- ---- one call

-- it's a send that used an identification; its packets are added, if the queue isn't too long already
pub record HasSent (old : State) (event : Event) (reply : Reply) (new : State) : Type 0 where
  pub uses : uses_id (record { old = old; turn = record { event = event; reply = reply }; new = new }) ≡ true
  pub numbered : is_numbered event reply ≡ true
  pub made : List (List ℕ)
  pub queued : length old.output ≤ OUTPUT_QUEUE_PACKETS
      → packets_in_queue new.output ≡ packets_in_queue old.output ++ made

-- nothing is added
abbrev pub IsAsBefore : State → State → Type 0
IsAsBefore old new = (new.output ≡ old.output) × (new.next_id ≡ old.next_id)

-- the link takes a packet
pub record HasTaken (old new : State) : Type 0 where
  pub item : Item
  pub output : old.output ≡ item ∷ new.output
  pub id : new.next_id ≡ old.next_id

abbrev pub IsDone : State → Event → Reply → State → Type 0
IsDone old event reply new = HasSent old event reply new ⊎ (IsAsBefore old new ⊎ HasTaken old new)

module _ (old new : State) (reply : Reply) where
  abbrev K : State → Type 0
  K s = IsAsBefore old s

  kept : {event : Event} → K new → IsDone old event reply new
  kept k = inr (inl k)

  refused : (mid : State) (errno : _) → K mid → Refuses errno mid reply new → K new
  refused mid errno k r = as_refused old.output old.next_id mid new reply errno k r

  binds : (fd : ℕ) (a : Addr) (me : Socket) → Calls.Binds fd a me old reply new → K new
  binds fd a me h = by_case h
      (λ e (port, chosen, g, answer, n). subst K (sym n)
      (as_named old.output old.next_id old chosen _ _ port (refl, refl) g))
      (λ errno e r. refused old errno (refl, refl) r)

  connects : (fd : ℕ) (a : Addr) (me : Socket) → Calls.Connects fd a me old reply new → K new
  connects fd a me h = by_case h
      (λ e (port, chosen, g, answer, n). subst K (sym n)
      (as_named old.output old.next_id (change_socket fd Calls.disconnected old) chosen _ _ port (refl, refl) g))
      (λ errno e r. refused (change_socket fd Calls.disconnected old) errno (refl, refl) r)

  on : (fd : ℕ) (Call : Socket → Type 0) → ((me : Socket) → Call me → K new) → OnSocket fd old reply new Call → K new
  on fd Call goes h = as_on old.output old.next_id fd old new reply Call (refl, refl) goes h

  another : (n m : ℕ) → n ≡ (m + 1) % 65536 → not (n == m) ≡ true
  another n m e = go (eqb_tells n m)
    where
      go : (((n == m) ≡ true) × (n ≡ m)) ⊎ (((n == m) ≡ false) × (n ≢ m)) → not (n == m) ≡ true
      go (inl h) = absurd (omega (arith, e, h.1))
      go (inr h) = ap not h.0

  left : (fd : ℕ) (me : Socket) (to : Addr) (asked : Option Addr) (bytes : List ℕ) (mid : State) → K mid
      → Send.Goes exact_ledger fd me to bytes mid reply new → HasSent old (Send fd asked bytes) reply new
  left fd me to asked bytes mid at (port, named, clusters, gets, taken, leaves) =
      let x : Sending =
      record { id = mid.next_id; source = source_for mid.config me to.ip; to = to; port = port; bytes = bytes } in
      let out : List Item = packets named.config clusters x in
      let link : List Item = to_link named.config to.ip out in
      let gone : State = spent fd port (parts_of named.config x) named in
      let then' : K named = as_named old.output old.next_id mid named me.local me.port port at gets in
      let id : ℕ = (old.next_id + 1) % 65536 in
      let queue : List Item = take OUTPUT_QUEUE_PACKETS (old.output ++ link) in
      let queued : (take OUTPUT_QUEUE_PACKETS (named.output ++ link) ≡ queue)
      × ((named.next_id + 1) % 65536 ≡ id) =
      (ap (λ (o : List Item). take OUTPUT_QUEUE_PACKETS (o ++ link)) then'.0, ap (λ n. (n + 1) % 65536) then'.1) in
      let end : (new.output ≡ queue) × (new.next_id ≡ id) =
      as_all queue id (to_self named.config to.ip out) (enqueued link gone) new queued leaves.0 in
      record {
        uses = another new.next_id old.next_id end.1;
        numbered = subst (λ r. went r ≡ true) (sym leaves.1) (answered (overflows gone link));
        made = packets_in_queue (take (OUTPUT_QUEUE_PACKETS - length old.output) link);
        queued = λ short. ap packets_in_queue end.0 ∙ shape link short;
      }
    where
      answered : (b : Bool) → went (cond b (Refused (NoBufs Queue)) (Sent (length bytes))) ≡ true
      answered true = refl
      answered false = refl

      shape : (link : List Item) → length old.output ≤ OUTPUT_QUEUE_PACKETS
          → packets_in_queue (take OUTPUT_QUEUE_PACKETS (old.output ++ link))
          ≡ packets_in_queue old.output
          ++ packets_in_queue (take (OUTPUT_QUEUE_PACKETS - length old.output) link)
      shape link short =
          let n : ℕ = OUTPUT_QUEUE_PACKETS - length old.output in
          let size : length old.output + n ≡ OUTPUT_QUEUE_PACKETS = omega (arith, short) in
          ap packets_in_queue (ap (λ m. take m (old.output ++ link)) (sym size) ∙ take-append-add old.output link n)
          ∙ map-append (λ (item : Item). item.bytes) old.output (take n link)

  sends : (fd : ℕ) (to : Option Addr) (bytes : List ℕ) → Step old (Send fd to bytes) reply new
      → IsDone old (Send fd to bytes) reply new
  sends fd to bytes step = by_case step
      (λ e r. kept (refused old _ (refl, refl) r))
      (λ me at h. by_case h
      (λ e (answer, mid, a, rest).
      let then' : K mid = as_tested old.output old.next_id old mid nothing _ answer (refl, refl) a in
      by_choice rest
      (λ e goes. inl (left fd me (target old me to) to bytes mid then' goes))
      (λ e r. kept (refused mid _ then' r)))
      (λ errno e r. kept (refused old errno (refl, refl) r)))

  transmits : (output : List Item) → old.output ≡ output → Transmits output old reply new
      → IsDone old Transmit reply new
  transmits [] e h = kept (subst K (sym h.1) (refl, refl))
  transmits (item ∷ later) e h = inr (inr (record {
    item = item;
    output = e ∙ ap (λ (s : State). item ∷ s.output) (sym h.1);
    id = ap (λ (s : State). s.next_id) h.1;
  }))

  pub is_done : (event : Event) → Step old event reply new → IsDone old event reply new
  is_done Open h = kept (by_choice h
      (λ e (fd, least, answer, is). subst K (sym is) (refl, refl)) (λ e r. refused old _ (refl, refl) r))
  is_done (Bind fd a) h = kept (on fd _ (λ me r. binds fd a me r) h)
  is_done (Connect fd a) h = kept (on fd _ (λ me r. connects fd a me r) h)
  is_done (Send fd to bytes) h = sends fd to bytes h
  is_done (Receive fd most) h =
      kept (on fd _ (λ me r. as_receives old.output old.next_id fd most me.queue old new reply (refl, refl) r) h)
  is_done (Close fd) h = kept (on fd _ (λ me r. subst K (sym r.1) (refl, refl)) h)
  is_done (Set_option fd option on') h = kept (on fd _ (λ me r. subst K (sym r.1) (refl, refl)) h)
  is_done (Set_limit fd limit) h = kept (on fd _ (λ me r. subst K (sym r.1) (refl, refl)) h)
  is_done (Comes bytes) h = kept (as_comes old.output old.next_id bytes old new (refl, refl) h.1)
  is_done Transmit h = transmits old.output refl h
  is_done Tick h = kept (subst K (sym h.1) (refl, refl))
  is_done Ask_counters h = kept (subst K (sym h.1) (refl, refl))
  is_done Ask_usage h = kept (subst K (sym h.3) (refl, refl))

-- a packet that arrives adds none
pub none_added : (packet : List ℕ) (old new : State) (reply : Reply) → Step old (Comes packet) reply new
    → new.output ≡ old.output
none_added packet old new reply h = (as_comes old.output old.next_id packet old new (refl, refl) h.1).0
