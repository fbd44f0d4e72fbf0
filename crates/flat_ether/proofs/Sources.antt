-- The packets that a machine gives to the link have one of its addresses as their source.
use Rattle.std.proofs.Common.{◌≡◌, ℕ, ◌+◌, ◌*◌, ◌/◌, ◌%◌, Bool, true, false, List, [], ◌∷◌, ◌++◌, length, map, take, drop, refl, sym, ap, ◌∙◌, subst, eq-eqb, arith, Option, Some, None, cond, inl, inr}
use Rattle.std.specs.Prelude.{◌==◌, ◌||◌, filter_map, slice_index, unwrap_or}
use Rattle.std.specs.List.{AllByRecursion as Each, cons_option}
use Rattle.params.specs.declared.TheConstants.{OUTPUT_QUEUE_PACKETS}
use Rattle.flat_model.specs.Amounts.Weight.{Weight, Item, ◌⊕◌, nothing}
use Rattle.flat_model.specs.Amounts.Layout.{LayoutEntry, Need, sent, wire, entries_on, weight_of}
use Rattle.flat_model.specs.Fragments.Cuts.{Part}
use Rattle.flat_model.specs.Fragments.Overlay.{Map, Fragment}
use Rattle.flat_model.specs.Fragments.Whole.{bytes_below}
use Rattle.flat_model.specs.Packets.Header.{Head, packet, u32_at, head_of}
use Rattle.flat_model.specs.Machine.State.{IsConfig, State, Socket, Datagram, Key, Unfinished, boot, loopback, change_socket, begun, begin_unfinished, end_unfinished}
use Rattle.flat_model.specs.Machine.Event.{Event, Reply, IsEvent, Open, Bind, Connect, Send, Receive, Close, Set_option, Set_limit, Comes, Transmit, Tick, Ask_counters, Ask_usage}
use Rattle.flat_model.specs.Machine.Ledger.{HasBuffers, need_mbufs, exact_ledger}
use Rattle.flat_model.specs.Machine.Calls as Calls
use Rattle.flat_model.specs.Machine.Calls.{Refuses, OnSocket, GetsPort, is_ours, source_for}
use Rattle.flat_model.specs.Machine.Arrival as Arrival
use Rattle.flat_model.specs.Machine.Arrival.{Origin, By_wire, Looped}
use Rattle.flat_model.specs.Machine.Sending.{Sending, datagram, packet_for, head_for, packets, items, later_weight, parts_of, is_looped}
use Rattle.flat_model.specs.Machine.Send as Send
use Rattle.flat_model.specs.Machine.Send.{to_link, to_self, enqueued, spent, target}
use Rattle.flat_model.specs.Machine.Step.{ComesIn, Transmits, Step}
use Rattle.flat_model.specs.Runs.Run.{Turn, Leads}
use Rattle.flat_model.specs.Runs.Consistent.{IsConsistent, IsSocket}
use Rattle.flat_model.specs.declared.address.Addr.{Addr}
use Rattle.flat_model.specs.declared.config.Config.{Config}
use Rattle.flat_model.proofs.Laws.{by_choice, by_case, each-append, each-find, each-take, each-weaker, boot_is_consistent, step_is_consistent}
use Rattle.flat_wire.specs.Wire.{given, packet_out}
use Rattle.flat_ether.specs.Laws.{IsOwn}

-- ---- what an arrival doesn't change
--
-- The lemmas are those of proofs/Closed in flat_wire, for one predicate. They can't be cited here: flat_wire has no
-- Laws.

module _ (c : Config) (out : List Item) where
  abbrev As : State → Type 0
  As s = (s.config ≡ c) × (s.output ≡ out)

  as_tested : (old new : State) (held : Weight) (n : Need) (answer : Bool) → As old
      → HasBuffers exact_ledger old held n answer new → As new
  as_tested old new held n true k (inl a) = subst As (sym a.1) k
  as_tested old new held n true k (inr a) = subst As (sym a.1) k
  as_tested old new held n false k a = subst As (sym a.1) k

  as_test : (old new : State) (held : Weight) (n : ℕ) (Then : State → Type 0) → As old
      → ((mid : State) → As mid → Then mid → As new) → Arrival.Tests exact_ledger old held n new Then → As new
  as_test old new held n Then k goes t =
      let at : As t.mid = as_tested old t.mid held (need_mbufs n) t.answer k t.has_buffers in
      by_choice t.goes_on (λ e h. goes t.mid at h) (λ e h. subst As (sym h) at)

  as_appends : (held : Weight) (sender : Addr) (item : Item) (to : Socket) (old new : State) → As old
      → Arrival.Appends exact_ledger held sender item to old new → As new
  as_appends held sender item to old new k h = by_choice h
      (λ e t. as_test old new (held ⊕ item.weight) 1 _ k (λ mid at e. subst As (sym e) at) t)
      (λ e t. subst As (sym t) k)

  as_delivers : (held : Weight) (sender : Addr) (item : Item) (tos : List Socket) (old new : State) → As old
      → Arrival.Delivers exact_ledger held sender item tos old new → As new
  as_delivers held sender item [] old new k h = absurd h
  as_delivers held sender item (last ∷ []) old new k h = as_appends held sender item last old new k h
  as_delivers held sender item (to ∷ next ∷ more) old new k (after, tests, later) =
      as_delivers held sender item (next ∷ more) after new
      (as_test old after (held ⊕ item.weight) item.weight.mbufs _ k
      (λ mid at a. as_appends (held ⊕ item.weight) sender item to mid after at a) tests) later

  as_goes : (held : Weight) (sender : Addr) (item : Item) (destination : ℕ) (tos : List Socket) (old new : State)
      → As old → Arrival.GoesTo exact_ledger held sender item destination tos old new → As new
  as_goes held sender item destination [] old new k h = subst As (sym h) k
  as_goes held sender item destination (to ∷ more) old new k h = as_delivers held sender item (to ∷ more) old new k h

  as_whole : (held : Weight) (source destination protocol : ℕ) (item : Item) (old new : State) → As old
      → Arrival.WholeArrives exact_ledger held source destination protocol item old new → As new
  as_whole held source destination protocol item old new k h = by_choice h
      (λ e c. by_case c (λ e g. as_goes held _ _ destination _ old new k g) (λ why e g. subst As (sym g) k))
      (λ e g. subst As (sym g) k)

  as_settles : (held : Weight) (key : Key) (bytes : Map) (old new : State) → As old
      → Arrival.Settles exact_ledger held key bytes old new → As new
  as_settles held key bytes old new k (inl (n, w, joined, j, a)) =
      as_whole held key.source key.destination key.protocol (record { bytes = bytes_below bytes n; weight = joined })
      (Arrival.counts_reassembled (end_unfinished key old)) new k a
  as_settles held key bytes old new k (inr (unwhole, e)) = subst As (sym e) k

  as_inserts : (held : Weight) (key : Key) (f : Fragment) (u : Unfinished) (old new : State) → As old
      → Arrival.Inserts exact_ledger held key f u old new → As new
  as_inserts held key f u old new k h = by_choice h (λ e g. subst As (sym g) k)
      (λ e g. as_settles held key _ old new k g)

  as_joins : (held : Weight) (key : Key) (f : Fragment) (old new : State) → As old
      → Arrival.Joins exact_ledger held key f old new → As new
  as_joins held key f old new k h = by_case h
      (λ e t. as_test old new (held ⊕ f.weight) 1 _ k
      (λ mid at r. as_inserts held key f (begun key) (begin_unfinished key mid) new at r) t)
      (λ u e l. as_inserts held key f u old new k l)

  as_pulls : (origin : Origin) (held w : Weight) (total : ℕ) (old new : State) (Then : Weight → State → Type 0) → As old
      → ((w : Weight) (mid : State) → As mid → Then w mid → As new)
      → Arrival.PullsUp exact_ledger origin held w total old new Then → As new
  as_pulls Looped held w total old new Then k goes h = goes w old k h
  as_pulls (By_wire received) held w total old new Then k goes h =
      by_choice h (λ e t. as_test old new (held ⊕ w) 1 _ k (λ mid at r. goes _ mid at r) t) (λ e r. goes w old k r)

  as_passes : (origin : Origin) (held : Weight) (item : Item) (old new : State) → As old
      → Arrival.Passes exact_ledger origin held item old new → As new
  as_passes origin held item old new k h = by_choice h
      (λ e c. by_choice c
      (λ e f. by_choice f
      (λ e g. subst As (sym g) k)
      (λ e p. as_pulls origin held _ _ (Arrival.counts_fragment old) new _ k
      (λ w mid at j. as_joins held _ _ mid new at j) p))
      (λ e w. as_whole held (head_of item.bytes).source (head_of item.bytes).destination (head_of item.bytes).protocol
      (Arrival.carried item) old new k w))
      (λ e g. subst As (sym g) k)

  as_arrives : (origin : Origin) (held : Weight) (item : Item) (old new : State) → As old
      → Arrival.Arrives exact_ledger origin held item old new → As new
  as_arrives origin held item old new k h = by_case h
      (λ e p. as_passes origin held item (Arrival.counts_packet old) new k p)
      (λ why e g. subst As (sym g) k)

  as_all : (items : List Item) (old new : State) → As old → Arrival.AllArrive exact_ledger items old new → As new
  as_all [] old new k e = subst As (sym e) k
  as_all (item ∷ items) old new k (mid, a, later) = as_all items mid new (as_arrives Looped _ item old mid k a) later

  as_comes : (packet : List ℕ) (old new : State) → As old → ComesIn exact_ledger packet old new → As new
  as_comes packet old new k (answer, mid, a, h) =
      let at : As mid = as_tested old mid nothing _ answer k a in
      by_choice h
      (λ e (clusters, taken, arrives). as_arrives (By_wire (length packet)) nothing
      (record { bytes = packet; weight = weight_of (entries_on clusters (wire (length packet))) }) mid new at arrives)
      (λ e r. subst As (sym r) at)

  -- ---- and a call that isn't a send

  as_refused : (old new : State) (reply : Reply) (errno : _) → As old → Refuses errno old reply new → As new
  as_refused old new reply errno k h = subst As (sym h.1) k

  as_named : (old new : State) (local asked : Option ℕ) (port : ℕ) → As old → GetsPort old local asked port new → As new
  as_named old new local (Some q) port k h = subst As (sym h.1) k
  as_named old new local None port k h = subst As (sym h.1) k

  as_on : (fd : ℕ) (old new : State) (reply : Reply) (Call : Socket → Type 0) → As old
      → ((me : Socket) → Call me → As new) → OnSocket fd old reply new Call → As new
  as_on fd old new reply Call k goes h = by_case h (λ e r. as_refused old new reply _ k r) (λ me e call. goes me call)

  as_opens : (old new : State) (reply : Reply) → As old → Calls.Opens 64 old reply new → As new
  as_opens old new reply k h =
      by_choice h (λ e (fd, least, answer, is). subst As (sym is) k) (λ e r. as_refused old new reply _ k r)

  as_binds : (fd : ℕ) (a : Addr) (me : Socket) (old new : State) (reply : Reply) → As old
      → Calls.Binds fd a me old reply new → As new
  as_binds fd a me old new reply k h = by_case h
      (λ e (port, chosen, g, answer, n). subst As (sym n) (as_named old chosen _ _ port k g))
      (λ errno e r. as_refused old new reply errno k r)

  as_connects : (fd : ℕ) (a : Addr) (me : Socket) (old new : State) (reply : Reply) → As old
      → Calls.Connects fd a me old reply new → As new
  as_connects fd a me old new reply k h = by_case h
      (λ e (port, chosen, g, answer, n). subst As (sym n)
      (as_named (change_socket fd Calls.disconnected old) chosen _ _ port k g))
      (λ errno e r. as_refused (change_socket fd Calls.disconnected old) new reply errno k r)

  as_receives : (fd most : ℕ) (queue : List Datagram) (old new : State) (reply : Reply) → As old
      → Calls.Receives fd most queue old reply new → As new
  as_receives fd most [] old new reply k h = as_refused old new reply _ k h
  as_receives fd most (d ∷ later) old new reply k h = subst As (sym h.1) k

-- ---- the source address of a packet

pub four : (n : ℕ)
    → 65536 * (256 * (n / 65536 / 256) + n / 65536 % 256) + (256 * (n % 65536 / 256) + n % 65536 % 256) ≡ n
four n = omega arith

pub source_read : (h : Head) (t : List ℕ) → u32_at 12 (packet h t) ≡ h.source
unfolding packet
source_read h t = four h.source

or_left : (a b : Bool) → a ≡ true → (a || b) ≡ true
or_left true b e = refl
or_left false b e = absurd (never e)
  where
    never : false ≡ true → ⊥
    never e = cc

or_right : (a b : Bool) → b ≡ true → (a || b) ≡ true
or_right true b e = refl
or_right false b e = e

-- the address that a socket sends from
own_source : (c : Config) (me : Socket) (to : ℕ) → IsSocket c me → is_ours c (source_for c me to) ≡ true
own_source c me to is = go me.local refl
  where
    default : (b : Bool) → is_ours c (cond b loopback c.addr) ≡ true
    default true =
        or_right ((loopback == c.addr) || (loopback == c.bcast)) (loopback == loopback) (eq-eqb loopback loopback refl)
    default false =
        or_left ((c.addr == c.addr) || (c.addr == c.bcast)) (c.addr == loopback)
        (or_left (c.addr == c.addr) (c.addr == c.bcast) (eq-eqb c.addr c.addr refl))

    go : (l : Option ℕ) → me.local ≡ l → is_ours c (unwrap_or l (cond (to == loopback) loopback c.addr)) ≡ true
    go (Some ip) h = is.local ip h
    go None h = default (to == loopback)

-- a packet of the host: an address of the host is its source, and its header has five words
abbrev pub IsOwnPlain : Config → List ℕ → Type 0
IsOwnPlain c packet = IsOwn c packet × (slice_index packet 0 ≡ 69)

first_read : (h : Head) (t : List ℕ) → slice_index (packet h t) 0 ≡ 69
unfolding packet
first_read h t = refl

own_items : (c : Config) (entries : List LayoutEntry) (f : Part → List ℕ) (parts : List Part)
    → ((p : Part) → IsOwnPlain c (f p))
    → Each {X = Item} (λ item. IsOwnPlain c item.bytes) (items entries f parts)
own_items c entries f [] own = tt
own_items c entries f (p ∷ later) own = (own p, go later)
  where
    go : (ps : List Part) → Each {X = Item} (λ item. IsOwnPlain c item.bytes)
        (map (λ q. record { bytes = f q; weight = later_weight entries q }) ps)
    go [] = tt
    go (q ∷ qs) = (own q, go qs)

-- The host's state: its packets that wait are packets of the host.
pub record IsSourced (c : Config) (s : State) : Type 0 where
  pub consistent : IsConsistent s
  pub config : s.config ≡ c
  pub output : Each (λ (item : Item). IsOwnPlain c item.bytes) s.output

module _ (c : Config) (old new : State) (reply : Reply) (k : IsSourced c old) where
  abbrev Own : List Item → Type 0
  Own = Each (λ (item : Item). IsOwnPlain c item.bytes)

  same : As c old.output new → (new.config ≡ c) × Own new.output
  same still = (still.0, subst Own (sym still.1) k.output)

  looped_or_out : (b : Bool) (xs : List Item) → Own xs → Own (cond b [] xs)
  looped_or_out true xs h = tt
  looped_or_out false xs h = h

  left : (fd : ℕ) (me : Socket) (to : Addr) (bytes : List ℕ) (mid : State) → As c old.output mid → IsSocket c me
      → Send.Goes exact_ledger fd me to bytes mid reply new → (new.config ≡ c) × Own new.output
  left fd me to bytes mid at is (port, named, clusters, gets, taken, leaves) =
      let x : Sending =
      record { id = mid.next_id; source = source_for mid.config me to.ip; to = to; port = port; bytes = bytes } in
      let out : List Item = packets named.config clusters x in
      let link : List Item = to_link named.config to.ip out in
      let gone : State = spent fd port (parts_of named.config x) named in
      let then' : As c old.output named = as_named c old.output mid named me.local me.port port at gets in
      let queued : As c (take OUTPUT_QUEUE_PACKETS (old.output ++ link)) (enqueued link gone) =
      (then'.0, ap (λ (o : List Item). take OUTPUT_QUEUE_PACKETS (o ++ link)) then'.1) in
      let end : As c (take OUTPUT_QUEUE_PACKETS (old.output ++ link)) new =
      as_all c (take OUTPUT_QUEUE_PACKETS (old.output ++ link)) (to_self named.config to.ip out) (enqueued link gone)
      new queued leaves.0 in
      let own : is_ours c (source_for mid.config me to.ip) ≡ true =
      subst (λ (cc : Config). is_ours c (source_for cc me to.ip) ≡ true) (sym at.0) (own_source c me to.ip is) in
      let all : Own out = own_items c (entries_on clusters (sent (length bytes))) (packet_for x)
      (parts_of named.config x)
      (λ p. (
        subst (λ n. is_ours c n ≡ true) (sym (source_read (head_for x p) (take p.size (drop p.offset (datagram x)))))
            own,
        first_read (head_for x p) (take p.size (drop p.offset (datagram x))),
      )) in
      let more : Own link = looped_or_out (is_looped named.config to.ip) out all in (
        end.0,
        subst Own (sym end.1) (each-take (λ (item : Item). IsOwnPlain c item.bytes) OUTPUT_QUEUE_PACKETS
            (old.output ++ link) (each-append (λ (item : Item). IsOwnPlain c item.bytes) old.output link k.output more)),
      )

  sends : (fd : ℕ) (to : Option Addr) (bytes : List ℕ) → Step old (Send fd to bytes) reply new
      → (new.config ≡ c) × Own new.output
  sends fd to bytes step = by_case step
      (λ e r. same (as_refused c old.output old new reply _ (k.config, refl) r))
      (λ me at h. by_case h
      (λ e (answer, mid, a, rest).
      let then' : As c old.output mid = as_tested c old.output old mid nothing _ answer (k.config, refl) a in
      let is : IsSocket old.config me =
      (each-find (IsSocket old.config) (λ socket. socket.fd == fd) old.sockets me k.consistent.sockets at).0 in
      by_choice rest
      (λ e goes. left fd me (target old me to) bytes mid then' (subst (λ (cc : Config). IsSocket cc me) k.config is)
      goes)
      (λ e r. same (as_refused c old.output mid new reply _ then' r)))
      (λ errno e r. same (as_refused c old.output old new reply errno (k.config, refl) r)))

  transmits : (output : List Item) → old.output ≡ output → Transmits output old reply new
      → (new.config ≡ c) × Own new.output
  transmits [] e h = same (subst (As c old.output) (sym h.1) (k.config, refl))
  transmits (item ∷ later) e h = (
    ap (λ (s : State). s.config) h.1
        ∙ k.config,
    subst (λ (s : State). Own s.output) (sym h.1) (subst Own e k.output).1,
  )

  abbrev kept : As c old.output old
  kept = (k.config, refl)

  step_sourced : (event : Event) → Step old event reply new → (new.config ≡ c) × Own new.output
  step_sourced Open h = same (as_opens c old.output old new reply kept h)
  step_sourced (Bind fd a) h =
      same (as_on c old.output fd old new reply _ kept (λ me r. as_binds c old.output fd a me old new reply kept r) h)
  step_sourced (Connect fd a) h =
      same (as_on c old.output fd old new reply _ kept (λ me r. as_connects c old.output fd a me old new reply kept r)
      h)
  step_sourced (Send fd to bytes) h = sends fd to bytes h
  step_sourced (Receive fd most) h =
      same (as_on c old.output fd old new reply _ kept
      (λ me r. as_receives c old.output fd most me.queue old new reply kept r) h)
  step_sourced (Close fd) h =
      same (as_on c old.output fd old new reply _ kept (λ me r. subst (As c old.output) (sym r.1) kept) h)
  step_sourced (Set_option fd option on) h =
      same (as_on c old.output fd old new reply _ kept (λ me r. subst (As c old.output) (sym r.1) kept) h)
  step_sourced (Set_limit fd limit) h =
      same (as_on c old.output fd old new reply _ kept (λ me r. subst (As c old.output) (sym r.1) kept) h)
  step_sourced (Comes bytes) h = same (as_comes c old.output bytes old new kept h.1)
  step_sourced Transmit h = transmits old.output refl h
  step_sourced Tick h = same (subst (As c old.output) (sym h.1) kept)
  step_sourced Ask_counters h = same (subst (As c old.output) (sym h.1) kept)
  step_sourced Ask_usage h = same (subst (As c old.output) (sym h.3) kept)

pub boot_sourced : (c : Config) → IsConfig c → IsSourced c (boot c)
boot_sourced c is = record { consistent = boot_is_consistent c is; config = refl; output = tt }

pub goes_on_sourced : (c : Config) (old new : State) (event : Event) (reply : Reply) → IsSourced c old → IsEvent event
    → Step old event reply new → IsSourced c new
goes_on_sourced c old new event reply k is step =
    let on : (new.config ≡ c) × Each (λ (item : Item). IsOwnPlain c item.bytes) new.output =
    step_sourced c old new reply k event step in
    record {
      consistent = step_is_consistent old new event reply k.consistent is step;
      config = on.0;
      output = on.1;
    }

-- ---- what the machine gave to the link

-- of the packet, if there is one
abbrev HoldsIf : (List ℕ → Type 0) → Option (List ℕ) → Type 0
HoldsIf P None = Unit {0}
HoldsIf P (Some packet) = P packet

module _ (P : List ℕ → Type 0) (old new : State) (reply : Reply) where
  abbrev Waiting : List Item → Type 0
  Waiting = Each (λ (item : Item). P item.bytes)

  gives_waiting : Waiting old.output → (output : List Item) → old.output ≡ output → Transmits output old reply new
      → HoldsIf P (given Transmit reply)
  gives_waiting k [] e h = subst (λ (r : Reply). HoldsIf P (given Transmit r)) (sym h.0) tt
  gives_waiting k (item ∷ later) e h =
      subst (λ (r : Reply). HoldsIf P (given Transmit r)) (sym h.0) (subst Waiting e k).0

  gave : Waiting old.output → (event : Event) → Step old event reply new → HoldsIf P (given event reply)
  gave k Open h = tt
  gave k (Bind fd a) h = tt
  gave k (Connect fd a) h = tt
  gave k (Send fd to bytes) h = tt
  gave k (Receive fd most) h = tt
  gave k (Close fd) h = tt
  gave k (Set_option fd option on) h = tt
  gave k (Set_limit fd limit) h = tt
  gave k (Comes bytes) h = tt
  gave k Transmit h = gives_waiting k old.output refl h
  gave k Tick h = tt
  gave k Ask_counters h = tt
  gave k Ask_usage h = tt

holds_then : (P : List ℕ → Type 0) (o : Option (List ℕ)) (packets : List (List ℕ)) → HoldsIf P o → Each P packets
    → Each P (cons_option o packets)
holds_then P None packets h later = later
holds_then P (Some packet) packets h later = (h, later)

-- a property of each packet that waits for the link is one of each packet that the machine gave
pub given_each : (c : Config) (P : List ℕ → Type 0)
    → ((s : State) → IsSourced c s → Each (λ (item : Item). P item.bytes) s.output) → (old new : State)
    → (turns : List Turn) → IsSourced c old → Leads exact_ledger old turns new → Each P (filter_map packet_out turns)
given_each c P holds old new [] k h = tt
given_each c P holds old new (turn ∷ turns) k (is, mid, step, later) =
    holds_then P (packet_out turn) (filter_map packet_out turns)
    (gave P old mid turn.reply (holds old k) turn.event step)
    (given_each c P holds mid new turns (goes_on_sourced c old mid turn.event turn.reply k is step) later)

-- each packet that it gave is a packet of the host
pub given_plain : (c : Config) (old new : State) (turns : List Turn) → IsSourced c old
    → Leads exact_ledger old turns new → Each (IsOwnPlain c) (filter_map packet_out turns)
given_plain c = given_each c (IsOwnPlain c) (λ s k. k.output)

-- so it has one of its addresses as its source
pub given_own : (c : Config) (old new : State) (turns : List Turn) → IsSourced c old → Leads exact_ledger old turns new
    → Each (IsOwn c) (filter_map packet_out turns)
given_own c old new turns k h =
    each-weaker (λ packet is. is.0) (filter_map packet_out turns) (given_plain c old new turns k h)
