-- The runs of the first machine: every packet that it transmits is of a send, and the last packet of a send is
-- transmitted only if the send succeeded.
use Rattle.std.proofs.Common.{◌≡◌, ℕ, ◌+◌, ◌-◌, ◌%◌, ◌^◌, ◌<◌, ◌≤◌, Bool, true, false, List, [], ◌∷◌, ◌++◌, length, map, take, refl, sym, ◌∙◌, ap, subst, ◌⊎◌, inl, inr, arith, min, Option, Some, None, cond}
use Rattle.std.specs.Prelude.{nat_lt, ◌==◌, find, filter_map, unwrap_or, ⊤, Contains, IfSome}
use Rattle.std.specs.List.{AllByRecursion as Each, cons_option}
use Rattle.std.proofs.lemmas.Bool.{or_parts, eqb-false, ltb-false, le-ltb, cond-false}
use Rattle.std.proofs.lemmas.Option.{none-some, same_Some}
use Rattle.std.proofs.lemmas.List.{append_assoc, length-append, map-append, take-map, length-map, append-nil}
use Rattle.std.proofs.lemmas.List.Elements.{filter_map-append, Contains-append_left, Contains-append_right, All-head, All-contains_itself}
use Rattle.params.specs.declared.TheConstants.{OUTPUT_QUEUE_PACKETS}
use Rattle.flat_model.specs.Amounts.Weight.{Weight, Item, nothing}
use Rattle.flat_model.specs.Fragments.Cuts.{Part, cuts}
use Rattle.flat_model.specs.Amounts.Layout.{Need, sent, entries_on}
use Rattle.flat_model.specs.Machine.Event.{Event, Reply, IsAddr, IsEvent, Open, Bind, Connect, Send, Receive, Close, Set_option, Set_limit, Comes, Transmit, Tick, Ask_counters, Ask_usage, Sent, Given}
use Rattle.flat_model.specs.declared.errno.Errno.{Errno}
use Rattle.flat_model.specs.declared.errno.Errno.TheVariants.{NoBufs}
use Rattle.flat_model.specs.declared.errno.Lack.TheVariants.{Queue}
use Rattle.flat_model.specs.Machine.Event as Event
use Rattle.flat_model.specs.Machine.State.{IsConfig, State, Socket, Datagram, boot, loopback, socket_at}
use Rattle.flat_model.specs.declared.config.Config.{Config}
use Rattle.flat_model.specs.Machine.Calls.{Refuses, OnSocket, GetsPort, source_for}
use Rattle.flat_model.specs.Machine.Count.{counts_more, more_by, value_of}
use Rattle.flat_model.specs.Machine.Ledger.{Ledger, HasBuffers}
use Rattle.flat_model.specs.Machine.Send as Send
use Rattle.flat_model.specs.Machine.Send.{target, to_link, to_self, enqueued, counts_send, spent, overflows, send_faults}
use Rattle.flat_model.specs.Machine.Arrival as Arrival
use Rattle.flat_model.specs.Machine.Step.{StepBy, Transmits}
use Rattle.flat_model.specs.Runs.Run.{Turn, Leads}
use Rattle.flat_model.specs.Machine.Sending.{Sending, datagram, packet_for, packets, parts_of, is_looped}
use Rattle.flat_model.specs.declared.counter.Counter.TheVariants.{IpLocalout, IpFragmented, OutDropped}
use Rattle.flat_model.specs.declared.counters.Counters.{Counters}
use Rattle.flat_wire.proofs.Sendable.{IsSendable}
use Rattle.flat_wire.specs.Wire.{packet_out, given, IsAnswered}
use Rattle.flat_model.specs.declared.address.Addr.{Addr}
use Rattle.flat_model.proofs.Laws.{by_choice, by_case, each-append, each-weaker, each-find, each-take, find-changed, length-udp, next_number, none_passed, one_more_turn}
use Rattle.flat_wire.proofs.Closed.{IsClosed, kept_has_buffers, kept_all}
use Rattle.flat_wire.proofs.First as First
use Rattle.flat_wire.proofs.First.{IsTarget, IsSound, IsKept}
use Rattle.flat_wire.proofs.Output.{all_bytes, bytes_of_packets, IsSplit, cuts_split, each_queued, added}

-- ---- the socket at a descriptor keeps its port as packets come

abbrev pub HasPort : ℕ → ℕ → State → Type 0
HasPort fd port s = (me : Socket) × (socket_at fd s ≡ Some me) × (me.port ≡ Some port)

module _ (L : Ledger) (fd port : ℕ) where
  port_closed : IsClosed L (HasPort fd port)
  port_closed = record {
    ended = λ why s h. h;
    dropped = λ s h. h;
    queued =
        λ k d s h. (
          _,
          find-changed fd k (Arrival.with_datagram d) s.sockets h.0 (λ x. refl) h.1,
          at k d h.0 (h.0.fd == k)
              ∙ h.2,
        );
    begins = λ k s h. h;
    sets = λ k bytes s h. h;
    finishes = λ k s h. h;
    fragment = λ s h. h;
    packet = λ s h. h;
  }
    where
      at : (k : ℕ) (d : Datagram) (me : Socket) (b : Bool) → (cond b (Arrival.with_datagram d me) me).port ≡ me.port
      at k d me true = refl
      at k d me false = refl

  pub port_kept : (items : List Item) (old new : State) → HasPort fd port old → Arrival.AllArrive L items old new
      → HasPort fd port new
  port_kept = kept_all L (HasPort fd port) port_closed

-- ---- the log

abbrev pub Among : List Sending → Sending → Type 0
Among [] x = ⊥
Among (y ∷ ys) x = (y ≡ x) ⊎ Among ys x

module _ (L : Ledger) (c : Config) (boots : IsConfig c) where
  abbrev pub Numbered : List Sending → Type 0
  Numbered [] = ⊤
  Numbered (x ∷ older) = (x.id ≡ (c.first_id + length older) % 65536) × Numbered older

  -- one of these turns asked to send these bytes
  pub record IsAsked (turns : List Turn) (bytes : List ℕ) : Type 0 where
    pub fd : ℕ
    pub to : Option Addr
    pub reply : Reply
    pub among : Contains turns (record { event = Send fd to bytes; reply = reply })

  pub record IsGiven (log : List Sending) (turns : List Turn) (last : State) (bytes : List ℕ) : Type 0 where
    pub sending : Sending
    pub part : Part
    pub logged : Among log sending
    pub sendable : IsSendable c.mtu sending
    pub is_part : Contains (cuts (length (datagram sending)) c.mtu) part
    pub asked : IsAsked turns sending.bytes
    pub answered : part.more ≡ false → IsAnswered L c turns last sending.port sending.to sending.bytes
    pub is : bytes ≡ packet_for sending part

  pub record IsRecorded (turns : List Turn) (s : State) : Type 0 where
    pub log : List Sending
    pub kept : IsKept c s.output s.next_id (value_of IpLocalout s.counters) s
    pub count : value_of IpLocalout s.counters ≡ min (length log) (2 ^ 64 - 1)
    pub next : s.next_id ≡ (c.first_id + length log) % 65536
    pub numbered : Numbered log
    pub output : Each (IsGiven log turns s) (all_bytes s.output)
    pub gave : Each (IsGiven log turns s) (filter_map packet_out turns)

  -- a packet of this send
  pub record IsOf (log : List Sending) (turns : List Turn) (last : State) (x : Sending) (bytes : List ℕ) : Type 0 where
    pub given : IsGiven log turns last bytes
    pub of : given.sending ≡ x

  -- the turn used an identification: its send is the newest of the log, and what it queued is of this send
  pub record IsLonger (turns : List Turn) (old new : State) (older log : List Sending) : Type 0 where
    pub newest : Sending
    pub log_is : log ≡ newest ∷ older
    pub used : new.next_id ≡ (old.next_id + 1) % 65536
    pub queued : (made : List (List ℕ)) → all_bytes new.output ≡ all_bytes old.output ++ made
        → Each (IsOf log turns new newest) made

  -- one more turn
  pub record IsNext (turns : List Turn) (turn : Turn) (old new : State) (was : IsRecorded turns old) : Type 0 where
    pub now : IsRecorded (turns ++ turn ∷ []) new
    pub log : ((new.next_id ≡ old.next_id) × (now.log ≡ was.log))
        ⊎ IsLonger (turns ++ turn ∷ []) old new was.log now.log

  -- one more turn
  later_answered : (turns : List Turn) (turn : Turn) (old new : State) → IsEvent turn.event
      → StepBy L old turn.event turn.reply new
      → (port : ℕ) (to : Addr) (bytes : List ℕ) → IsAnswered L c turns old port to bytes
      → IsAnswered L c (turns ++ turn ∷ []) new port to bytes
  later_answered turns turn old new range step port to bytes a = record {
    before = a.before;
    after = a.after ++ turn ∷ [];
    fd = a.fd;
    address = a.address;
    turns_are =
        ap (λ ts. ts ++ turn ∷ []) a.turns_are
        ∙ append_assoc a.before (record { event = Send a.fd a.address bytes; reply = Sent (length bytes) } ∷ a.after)
        (turn ∷ []);
    old = a.old;
    new = a.new;
    leads = a.leads;
    step = a.step;
    goes_on = one_more_turn L a.new old new a.after turn a.goes_on range step;
    me = a.me;
    then' = a.then';
    found = a.found;
    sends_to = a.sends_to;
    found_then = a.found_then;
    from_port = a.from_port;
  }

  pub later_of : (log more : List Sending) (turns : List Turn) (turn : Turn) (old new : State) → IsEvent turn.event
      → StepBy L old turn.event turn.reply new
      → (x : Sending) (bytes : List ℕ) → ((y : Sending) → Among log y → Among more y) → IsOf log turns old x bytes
      → IsOf more (turns ++ turn ∷ []) new x bytes
  later_of log more turns turn old new range step x bytes up o = of_it (record {
    sending = o.given.sending;
    part = o.given.part;
    logged = up o.given.sending o.given.logged;
    sendable = o.given.sendable;
    is_part = o.given.is_part;
    asked = record {
      fd = o.given.asked.fd;
      to = o.given.asked.to;
      reply = o.given.asked.reply;
      among = Contains-append_left turns (turn ∷ []) _ o.given.asked.among;
    };
    answered =
        λ e. later_answered turns turn old new range step o.given.sending.port o.given.sending.to
        o.given.sending.bytes (o.given.answered e);
    is = o.given.is;
  }) o.of
    where
      of_it : (g : IsGiven more (turns ++ turn ∷ []) new bytes) → g.sending ≡ x
          → IsOf more (turns ++ turn ∷ []) new x bytes
      of_it g e = record { given = g; of = e }

  later_given : (log more : List Sending) (turns : List Turn) (turn : Turn) (old new : State) → IsEvent turn.event
      → StepBy L old turn.event turn.reply new
      → (bytes : List ℕ) → ((x : Sending) → Among log x → Among more x) → IsGiven log turns old bytes
      → IsGiven more (turns ++ turn ∷ []) new bytes
  later_given log more turns turn old new range step bytes up g =
      (later_of log more turns turn old new range step g.sending bytes up (record { given = g; of = refl })).given

  -- a turn that changes neither queue nor log
  quiet : (turns : List Turn) (turn : Turn) (old new : State) (was : IsRecorded turns old) → IsEvent turn.event
      → StepBy L old turn.event turn.reply new → IsKept c old.output old.next_id (value_of IpLocalout old.counters) new
      → packet_out turn ≡ None → IsNext turns turn old new was
  quiet turns turn old new recorded range step k none = same k.id (record {
    log = recorded.log;
    kept = record { config = k.config; output = refl; id = refl; sends = refl; sockets = k.sockets };
    count = k.sends ∙ recorded.count;
    next = k.id ∙ recorded.next;
    numbered = recorded.numbered;
    output =
        subst (λ xs. Each (IsGiven recorded.log (turns ++ turn ∷ []) new) (all_bytes xs)) (sym k.output)
        (each-weaker (λ b g. later_given recorded.log recorded.log turns turn old new range step b (λ x h. h) g)
        (all_bytes old.output) recorded.output);
    gave =
        subst (Each (IsGiven recorded.log (turns ++ turn ∷ []) new))
        (sym (filter_map-append packet_out turns (turn ∷ [])
        ∙ ap (λ o. filter_map packet_out turns ++ cons_option o []) none ∙ append-nil (filter_map packet_out turns)))
        (each-weaker (λ b g. later_given recorded.log recorded.log turns turn old new range step b (λ x h. h) g)
        (filter_map packet_out turns) recorded.gave);
  }) refl
    where
      same : new.next_id ≡ old.next_id → (now : IsRecorded (turns ++ turn ∷ []) new) → now.log ≡ recorded.log
          → IsNext turns turn old new recorded
      same id now e = record { now = now; log = inl (id, e) }

  -- ---- a send

  fits_all : (s : State) (packets : List Item) (n : ℕ) (reply : Reply)
      → length (s.output ++ packets) ≤ OUTPUT_QUEUE_PACKETS
      → reply ≡ cond (overflows s packets) (Event.Refused (NoBufs Queue)) (Sent n) → reply ≡ Sent n
  fits_all s packets n reply h e =
      e ∙ cond-false (overflows s packets) _ _ (le-ltb OUTPUT_QUEUE_PACKETS (length (s.output ++ packets)) h)

  gets_sockets : (old new : State) (local asked : Option ℕ) (port : ℕ) → GetsPort old local asked port new
      → new.sockets ≡ old.sockets
  gets_sockets old new local (Some q) port g = ap (λ (s : State). s.sockets) g.1
  gets_sockets old new local None port g = ap (λ (s : State). s.sockets) g.1

  -- a send that passed its tests, from a state with the same sockets as the one before
  module _ (turns : List Turn) (fd : ℕ) (to : Option Addr) (me : Socket) (bytes : List ℕ) (before old new : State)
      (reply : Reply)
      (recorded : IsRecorded turns before) (leads : Leads L (boot c) turns before) (at : socket_at fd before ≡ Some me)
      (range : IsEvent (Send fd to bytes)) (step : StepBy L before (Send fd to bytes) reply new)
      (k : IsKept c before.output before.next_id (value_of IpLocalout before.counters) old)
      (same : old.sockets ≡ before.sockets)
      (sound : IsSound me) (aim : IsTarget (target before me to)) (short : length bytes ≤ 9216) where
    module _ (port : ℕ) (named : State) (clusters : List ℕ) (g : GetsPort old me.local me.port port named) where
      x : Sending
      x = record {
        id = old.next_id;
        source = source_for old.config me (target before me to).ip;
        to = target before me to;
        port = port;
        bytes = bytes;
      }

      out : List Item
      out = packets named.config clusters x

      link : List Item
      link = to_link named.config x.to.ip out

      left : State
      left = spent fd port (parts_of named.config x) named

      got : IsKept c before.output before.next_id (value_of IpLocalout before.counters) named × (port < 65536)
      got =
          First.gets L c before.output before.next_id (value_of IpLocalout before.counters) boots old named me.local
          me.port port k sound.port g

      abbrev Next : State → Type 0
      Next =
          IsKept c (take OUTPUT_QUEUE_PACKETS (before.output ++ link)) ((before.next_id + 1) % 65536)
          (more_by 1 (value_of IpLocalout before.counters))

      counts_dropped : (b : Bool) (s : State)
          → value_of IpLocalout (cond b (counts_more OutDropped 1 s.counters) s.counters)
          ≡ value_of IpLocalout s.counters
      counts_dropped true s = refl
      counts_dropped false s = refl

      counts_cut : (b : Bool) (s : State)
          → value_of IpLocalout (let sent : Counters = counts_more IpLocalout 1 s.counters in
          cond b (counts_more IpFragmented 1 sent) sent) ≡ more_by 1 (value_of IpLocalout s.counters)
      counts_cut true s = refl
      counts_cut false s = refl

      put : (socket : Socket) → IsSound socket → IsSound (record socket { port = Some port })
      put socket s =
          record { local = s.local; port = λ p e. subst (λ q. q < 65536) (same_Some port p e) got.1; peer = s.peer }

      left_is : IsKept c before.output ((before.next_id + 1) % 65536) (more_by 1 (value_of IpLocalout before.counters))
          left
      unfolding left
      left_is =
          First.changes L c before.output ((before.next_id + 1) % 65536)
          (more_by 1 (value_of IpLocalout before.counters))
          boots fd (λ socket. record socket { port = Some port })
          (counts_send (parts_of named.config x) named)
          (record {
            config = got.0.config;
            output = got.0.output;
            id = ap (λ n. (n + 1) % 65536) got.0.id;
            sends =
                counts_cut (nat_lt 1 (length (parts_of named.config x))) named ∙ ap (more_by 1) got.0.sends;
            sockets =
                got.0.sockets;
          })
          put

      queued_is : Next (enqueued link left)
      unfolding link left x
      queued_is = record {
        config = left_is.config;
        output = ap (λ o. take OUTPUT_QUEUE_PACKETS (o ++ link)) left_is.output;
        id = next_number fd out x named ∙ ap (λ n. (n + 1) % 65536) got.0.id;
        sends = counts_dropped (overflows left link) left ∙ left_is.sends;
        sockets = left_is.sockets;
      }

      has_port : HasPort fd port (enqueued link left)
      unfolding left
      has_port =
          let here : socket_at fd named ≡ Some me =
          ap (find (λ socket. socket.fd == fd)) (gets_sockets old named me.local me.port port g ∙ same) ∙ at in (
            _,
            find-changed fd fd (λ socket. record socket { port = Some port }) named.sockets me (λ s. refl) here,
            named_port (me.fd == fd) (fd_is before.sockets at),
          )
        where
          fd_is : (sockets : List Socket) → find (λ socket. socket.fd == fd) sockets ≡ Some me → (me.fd == fd) ≡ true
          fd_is sockets e = (each-find (λ _. ⊤) (λ (socket : Socket). socket.fd == fd) sockets me (all sockets) e).1
            where
              all : (xs : List Socket) → Each (λ _. ⊤) xs
              all [] = tt
              all (y ∷ ys) = (tt, all ys)

          named_port : (b : Bool) → b ≡ true → (cond b (record me { port = Some port }) me).port ≡ Some port
          named_port true e = refl
          named_port false e = absurd (never e)
            where
              never : false ≡ true → ⊥
              never e = cc

      leaves : Send.Leaves L fd (packets named.config clusters x) x named reply new
          → IsNext turns (record { event = Send fd to bytes; reply = reply }) before new recorded
      unfolding out link left x
      leaves h = longer (record {
        log = x ∷ recorded.log;
        kept = record { config = after.config; output = refl; id = refl; sends = refl; sockets = after.sockets };
        count =
            after.sends ∙ (let count : value_of IpLocalout before.counters
            ≡ min (length recorded.log) (2 ^ 64 - 1) = recorded.count in omega arith);
        next =
            after.id ∙ (let next : before.next_id ≡ (c.first_id + length recorded.log) % 65536 = recorded.next in omega
            arith);
        numbered = (k.id ∙ recorded.next, recorded.numbered);
        output = subst (λ xs. Each Given (all_bytes xs)) (sym after.output)
            (subst (Each Given) (take-map (λ (item : Item). item.bytes) OUTPUT_QUEUE_PACKETS
            (before.output ++ link_out))
            (subst (λ bs. Each Given (take OUTPUT_QUEUE_PACKETS bs))
            (sym (map-append (λ (item : Item). item.bytes) before.output link_out))
            (on_link (is_looped named.config x.to.ip) refl)));
        gave =
            subst (Each Given) (sym (filter_map-append packet_out turns (turn ∷ [])
            ∙ append-nil (filter_map packet_out turns))) (each-weaker up (filter_map packet_out turns) recorded.gave);
      }) refl
        where
          turn : Turn
          turn = record { event = Send fd to bytes; reply = reply }

          Given : List ℕ → Type 0
          Given b = IsGiven (x ∷ recorded.log) (turns ++ turn ∷ []) new b

          link_out : List Item
          link_out = to_link named.config x.to.ip (packets named.config clusters x)

          parts : List Part
          parts = parts_of named.config x

          up : (b : List ℕ) → IsGiven recorded.log turns before b → IsGiven (x ∷ recorded.log) (turns ++ turn ∷ []) new
              b
          up b given = later_given recorded.log (x ∷ recorded.log) turns turn before new range step b (λ y h. inr h)
              given

          held : Each Given (all_bytes before.output)
          held = each-weaker up (all_bytes before.output) recorded.output

          length_parts : length (packets named.config clusters x) ≡ length parts
          length_parts =
              sym (length-map (packets named.config clusters x) (λ (item : Item). item.bytes))
              ∙ ap length (bytes_of_packets (entries_on clusters (sent (length bytes))) (packet_for x) parts)
              ∙ length-map parts (packet_for x)

          sendable : is_looped named.config x.to.ip ≡ false → IsSendable c.mtu x
          sendable e = record {
            id = let next : old.next_id ≡ (c.first_id + length recorded.log) % 65536 = k.id ∙ recorded.next in omega
                arith;
            source =
                First.source_small L c before.output before.next_id (value_of IpLocalout before.counters) boots
                old.config
                me x.to.ip k.config sound.local;
            ip = aim.ip;
            to_port = aim.port;
            port = got.1;
            short = short;
            not_loopback =
                λ h. eqb-false x.to.ip loopback (or_parts (x.to.ip == named.config.addr) (x.to.ip == loopback) e).1 h;
            not_limited_broadcast = aim.known;
          }

          answered : length before.output + length parts ≤ OUTPUT_QUEUE_PACKETS → is_looped named.config x.to.ip ≡ false
              → IsAnswered L c (turns ++ turn ∷ []) new port (target before me to) bytes
          answered fit e =
              let size : length (left.output ++ link_out) ≤ OUTPUT_QUEUE_PACKETS =
              omega (
                arith,
                length-append left.output link_out,
                ap length left_is.output,
                ap length (ap (λ b. cond b [] (packets named.config clusters x)) e),
                length_parts,
              ) in
              let is_sent : reply ≡ Sent (length bytes) = fits_all left link_out (length bytes) reply size h.1 in
              let port_then : HasPort fd port new =
              port_kept L fd port (to_self named.config x.to.ip (packets named.config clusters x))
              (enqueued link_out left) new has_port h.0 in
              record {
                before = turns;
                after = [];
                fd = fd;
                address = to;
                turns_are = ap (λ r. turns ++ record { event = Send fd to bytes; reply = r } ∷ []) is_sent;
                old = before;
                new = new;
                leads = leads;
                step = subst (λ r. StepBy L before (Send fd to bytes) r new) is_sent step;
                goes_on = refl;
                me = me;
                then' = port_then.0;
                found = at;
                sends_to = refl;
                found_then = port_then.1;
                from_port = port_then.2;
              }

          mtu_is : is_looped named.config x.to.ip ≡ false → parts ≡ cuts (length (datagram x)) c.mtu
          mtu_is e =
              ap (λ b. cuts (length (datagram x)) (cond b 1536 named.config.mtu)) e
              ∙ ap (λ (cc : Config). cuts (length (datagram x)) cc.mtu) got.0.config

          link_is : is_looped named.config x.to.ip ≡ false → all_bytes link_out ≡ map (packet_for x) parts
          link_is e =
              ap (λ b. all_bytes (cond b [] (packets named.config clusters x))) e
              ∙ bytes_of_packets (entries_on clusters (sent (length bytes))) (packet_for x) parts

          split : is_looped named.config x.to.ip ≡ false → IsSplit parts
          split e =
              let some : 0 < length (datagram x) = omega (arith, length-udp x.source x.to.ip port x.to.port bytes) in
              subst IsSplit (sym (mtu_is e))
              (cuts_split (length (datagram x)) c.mtu some (omega (arith, boots.least_mtu)))

          of_this : is_looped named.config x.to.ip ≡ false → (p : Part) → Contains parts p
              → (p.more ≡ true) ⊎ (length (all_bytes before.output) + length parts ≤ OUTPUT_QUEUE_PACKETS)
              → IsOf (x ∷ recorded.log) (turns ++ turn ∷ []) new x (packet_for x p)
          of_this e p is ends = named_of (record {
            sending = x;
            part = p;
            logged = inl refl;
            sendable = sendable e;
            is_part = subst (λ ps. Contains ps p) (mtu_is e) is;
            asked = record {
              fd = fd;
              to = to;
              reply = reply;
              among = Contains-append_right turns (turn ∷ []) turn
                  (All-head (Contains (turn ∷ [])) turn [] (All-contains_itself (turn ∷ [])));
            };
            answered = λ last. answered_at p ends last e;
            is = refl;
          }) refl
            where
              named_of : (g : IsGiven (x ∷ recorded.log) (turns ++ turn ∷ []) new (packet_for x p)) → g.sending ≡ x
                  → IsOf (x ∷ recorded.log) (turns ++ turn ∷ []) new x (packet_for x p)
              named_of g e = record { given = g; of = e }

              answered_at : (p : Part) → (p.more ≡ true)
                  ⊎ (length (all_bytes before.output) + length parts ≤ OUTPUT_QUEUE_PACKETS) → p.more ≡ false
                  → is_looped named.config x.to.ip ≡ false
                  → IsAnswered L c (turns ++ turn ∷ []) new port (target before me to) bytes
              answered_at p (inl more) last e = absurd (both (sym more ∙ last))
                where
                  both : true ≡ false → ⊥
                  both e = cc
              answered_at p (inr fit) last e =
                  answered (omega (arith, length-map before.output (λ (item : Item). item.bytes))) e

          on_link : (b : Bool) → is_looped named.config x.to.ip ≡ b
              → Each Given (take OUTPUT_QUEUE_PACKETS (all_bytes before.output ++ all_bytes link_out))
          on_link true e =
              rw e (each-take Given OUTPUT_QUEUE_PACKETS (all_bytes before.output ++ [])
              (each-append Given (all_bytes before.output) [] held tt))
          on_link false e =
              subst (λ bs. Each Given (take OUTPUT_QUEUE_PACKETS (all_bytes before.output ++ bs))) (sym (link_is e))
              (each_queued Given OUTPUT_QUEUE_PACKETS (all_bytes before.output) (packet_for x) parts held (split e)
              (λ p is ends. (of_this e p is ends).given))

          after : IsKept c (take OUTPUT_QUEUE_PACKETS
              (before.output ++ to_link named.config x.to.ip (packets named.config clusters x))) ((before.next_id + 1) %
              65536) (more_by 1 (value_of IpLocalout before.counters)) new
          after =
              kept_all L Next (First.closed L c (take OUTPUT_QUEUE_PACKETS (before.output ++ link))
              ((before.next_id + 1) % 65536) (more_by 1 (value_of IpLocalout before.counters)) boots) (to_self
              named.config x.to.ip (packets named.config clusters x)) (enqueued link left) new queued_is h.0

          -- what this send added
          queued : (made : List (List ℕ)) → all_bytes new.output ≡ all_bytes before.output ++ made
              → Each (IsOf (x ∷ recorded.log) (turns ++ turn ∷ []) new x) made
          queued made q =
              subst (Each Of) (sym (added OUTPUT_QUEUE_PACKETS (all_bytes before.output) (all_bytes link_out) made
              (sym q ∙ ap all_bytes after.output
              ∙ sym (take-map (λ (item : Item). item.bytes) OUTPUT_QUEUE_PACKETS (before.output ++ link_out))
              ∙ ap (take OUTPUT_QUEUE_PACKETS)
              (map-append (λ (item : Item). item.bytes) before.output link_out))))
              (by_link (is_looped named.config x.to.ip) refl)
            where
              Of : List ℕ → Type 0
              Of b = IsOf (x ∷ recorded.log) (turns ++ turn ∷ []) new x b

              left_over : ℕ
              left_over = OUTPUT_QUEUE_PACKETS - length (all_bytes before.output)

              by_link : (b : Bool) → is_looped named.config x.to.ip ≡ b
                  → Each Of (take left_over (all_bytes link_out))
              by_link true e = rw e (each-take Of left_over [] tt)
              by_link false e =
                  subst (λ bs. Each Of (take left_over bs)) (sym (link_is e))
                  (each_queued Of left_over [] (packet_for x) parts tt (split e)
                  (λ p is ends. of_this e p is (fits e ends)))
                where
                  fits : {more : Type 0} → is_looped named.config x.to.ip ≡ false
                      → more ⊎ (length {A = List ℕ} [] + length parts ≤ left_over)
                      → more ⊎ (length (all_bytes before.output) + length parts ≤ OUTPUT_QUEUE_PACKETS)
                  fits e (inl more) = inl more
                  fits e (inr h) = let s : IsSplit parts = split e in
                      inr (omega (arith, h, ap length s.are, length-append s.front (s.last ∷ [])))

          longer : (now : IsRecorded (turns ++ turn ∷ []) new) → now.log ≡ x ∷ recorded.log
              → IsNext turns turn before new recorded
          longer now e = record {
            now = now;
            log = inr (record {
              newest = x;
              log_is = e;
              used = after.id;
              queued = λ made q. subst (λ log. Each (IsOf log (turns ++ turn ∷ []) new x) made) (sym e) (queued made q);
            });
          }

  -- ---- every step

  target_is : (s : State) (me : Socket) (to : Option Addr) → s.config ≡ c → IsSound me
      → (to_is : (a : Addr) → to ≡ Some a → IsAddr a) → IsTarget (target s me to)
  target_is s me (Some a) e sound to_is = First.target_read L c s.output 0 0 boots s.config a e (to_is a refl)
  target_is s me None e sound to_is = go me.peer refl
    where
      go : (p : Option Addr) → me.peer ≡ p → IsTarget (unwrap_or p (record { ip = 0; port = 0 }))
      go (Some a) h = sound.peer a h
      go None h = record { ip = omega arith; known = λ e. absurd (omega (arith, e)); port = omega arith }

  some_addr : (to : Option Addr) → IfSome to IsAddr → (a : Addr) → to ≡ Some a → IsAddr a
  some_addr None h a e = absurd (none-some a e)
  some_addr (Some b) h a e = subst IsAddr (same_Some b a e) h

  has_buffers_sockets : (old new : State) (held : Weight) (n : Need) (answer : Bool)
      → HasBuffers L old held n answer new → new.sockets ≡ old.sockets
  has_buffers_sockets old new held n true (inl h) = ap (λ (s : State). s.sockets) h.1
  has_buffers_sockets old new held n true (inr h) = ap (λ (s : State). s.sockets) h.1
  has_buffers_sockets old new held n false h = ap (λ (s : State). s.sockets) h.1

  module _ (turns : List Turn) (old new : State) (reply : Reply) (recorded : IsRecorded turns old)
      (leads : Leads L (boot c) turns old) where
    abbrev Now : State → Type 0
    Now = IsKept c old.output old.next_id (value_of IpLocalout old.counters)

    silent : (event : Event) → IsEvent event → StepBy L old event reply new → Now new
        → packet_out (record { event = event; reply = reply }) ≡ None
        → IsNext turns (record { event = event; reply = reply }) old new recorded
    silent event range step k e = quiet turns (record { event = event; reply = reply }) old new recorded range step k e

    refuses : (errno : Errno) → Refuses errno old reply new → Now new
    refuses errno h = subst Now (sym h.1) recorded.kept

    on_fd : (fd : ℕ) (Call : Socket → Type 0) → OnSocket fd old reply new Call
        → ((me : Socket) → socket_at fd old ≡ Some me → Call me → Now new) → Now new
    on_fd fd Call h goes = by_case h (λ e r. refuses _ r) goes

    transmits : StepBy L old Transmit reply new → (output : List Item) → old.output ≡ output
        → Transmits output old reply new → IsNext turns (record { event = Transmit; reply = reply }) old new recorded
    transmits step [] e h = silent Transmit tt step (subst Now (sym h.1) recorded.kept) (ap (given Transmit) h.0)
    transmits step (item ∷ later) e h = same (ap (λ (s : State). s.next_id) h.1) (record {
      log = recorded.log;
      kept =
          subst (λ s. IsKept c s.output s.next_id (value_of IpLocalout s.counters) s) (sym h.1)
          (record {
            config = recorded.kept.config;
            output = refl;
            id = refl;
            sends = refl;
            sockets =
                recorded.kept.sockets;
          });
      count = ap (λ (s : State). (value_of IpLocalout s.counters)) h.1 ∙ recorded.count;
      next = ap (λ (s : State). s.next_id) h.1 ∙ recorded.next;
      numbered = recorded.numbered;
      output =
          subst (λ (s : State). Each (IsGiven recorded.log (turns ++ turn ∷ []) new) (all_bytes s.output)) (sym h.1)
          held.1;
      gave =
          subst (Each (IsGiven recorded.log (turns ++ turn ∷ []) new))
          (sym (filter_map-append packet_out turns (turn ∷ [])
          ∙ ap (λ r. filter_map packet_out turns ++ cons_option (given Transmit r) []) h.0))
          (each-append (IsGiven recorded.log (turns ++ turn ∷ []) new) (filter_map packet_out turns) (item.bytes ∷ [])
          (each-weaker up (filter_map packet_out turns) recorded.gave) (held.0, tt));
    }) refl
      where
        turn : Turn
        turn = record { event = Transmit; reply = reply }

        same : new.next_id ≡ old.next_id → (now : IsRecorded (turns ++ turn ∷ []) new) → now.log ≡ recorded.log
            → IsNext turns turn old new recorded
        same id now e = record { now = now; log = inl (id, e) }

        up : (b : List ℕ) → IsGiven recorded.log turns old b → IsGiven recorded.log (turns ++ turn ∷ []) new b
        up b g = later_given recorded.log recorded.log turns turn old new tt step b (λ x i. i) g

        held : Each (IsGiven recorded.log (turns ++ turn ∷ []) new) (all_bytes (item ∷ later))
        held =
            each-weaker up (all_bytes (item ∷ later))
            (subst (λ xs. Each (IsGiven recorded.log turns old) (all_bytes xs)) e recorded.output)

    sends : (fd : ℕ) (to : Option Addr) (bytes : List ℕ) → IsEvent (Send fd to bytes)
        → StepBy L old (Send fd to bytes) reply new
        → IsNext turns (record { event = Send fd to bytes; reply = reply }) old new recorded
    unfolding x
    sends fd to bytes is step = by_case step
        (λ e r. silent (Send fd to bytes) is step (refuses _ r) refl)
        (λ me at h. by_case h
        (λ e (answer, mid, a, rest).
        let passed = none_passed (send_faults old me to (length bytes)) e in
        let short : length bytes ≤ 9216 = ltb-false _ _ passed.1.0 in
        let k : Now mid =
        kept_has_buffers L Now (First.closed L c old.output old.next_id (value_of IpLocalout old.counters) boots) old
        mid nothing _ answer recorded.kept a in
        let sound : IsSound me =
        First.found L c old.output old.next_id (value_of IpLocalout old.counters) boots fd old me recorded.kept at in
        let aim : IsTarget (target old me to) = target_is old me to recorded.kept.config sound (some_addr to is.0) in
        let same : mid.sockets ≡ old.sockets = has_buffers_sockets old mid nothing _ answer a in
        by_choice rest
        (λ e (port, named, clusters, g, taken, left). leaves turns fd to me bytes old mid new reply recorded leads at is
        step k same sound aim short port named clusters g left)
        (λ e r. silent (Send fd to bytes) is step (subst Now (sym r.1) k) refl))
        (λ errno e r. silent (Send fd to bytes) is step (refuses errno r) refl))

    pub recorded_step : (event : Event) → IsEvent event → StepBy L old event reply new
        → IsNext turns (record { event = event; reply = reply }) old new recorded
    recorded_step Open is h =
        silent Open is h (First.opens L c old.output old.next_id (value_of IpLocalout old.counters) boots old new reply
        recorded.kept h) refl
    recorded_step (Bind fd a) is h =
        silent (Bind fd a) is h (on_fd fd _ h
        (λ me at r. First.binds L c old.output old.next_id (value_of IpLocalout old.counters) boots fd a me old new
        reply recorded.kept is r)) refl
    recorded_step (Connect fd a) is h =
        silent (Connect fd a) is h (on_fd fd _ h
        (λ me at r. First.connects L c old.output old.next_id (value_of IpLocalout old.counters) boots fd a me old new
        reply recorded.kept is
        (First.found L c old.output old.next_id (value_of IpLocalout old.counters) boots fd old me recorded.kept at)
        r)) refl
    recorded_step (Send fd to bytes) is h = sends fd to bytes is h
    recorded_step (Receive fd most) is h =
        silent (Receive fd most) is h (on_fd fd _ h
        (λ me at r. First.receives L c old.output old.next_id (value_of IpLocalout old.counters) boots fd most me.queue
        old new reply recorded.kept r)) refl
    recorded_step (Close fd) is h =
        silent (Close fd) is h (on_fd fd _ h
        (λ me at r. First.closes L c old.output old.next_id (value_of IpLocalout old.counters) boots fd old new reply
        recorded.kept r)) refl
    recorded_step (Set_option fd option on) is h =
        silent (Set_option fd option on) is h
        (on_fd fd _ h (λ me at r. First.sets L c old.output old.next_id (value_of IpLocalout old.counters) boots fd
        option on old new reply recorded.kept r)) refl
    recorded_step (Set_limit fd limit) is h =
        silent (Set_limit fd limit) is h
        (on_fd fd _ h (λ me at r. First.limits L c old.output old.next_id (value_of IpLocalout old.counters) boots fd
        limit old new reply recorded.kept r)) refl
    recorded_step (Comes packet) is h =
        silent (Comes packet) is h (First.comes_in L c old.output old.next_id (value_of IpLocalout old.counters) boots
        packet old new recorded.kept h.1) refl
    recorded_step Transmit is h = transmits h old.output refl h
    recorded_step Tick is h =
        silent Tick is h (subst Now (sym h.1)
        (record {
          config = recorded.kept.config;
          output = refl;
          id = refl;
          sends = refl;
          sockets = recorded.kept.sockets;
        })) refl
    recorded_step Ask_counters is h = silent Ask_counters is h (subst Now (sym h.1) recorded.kept) refl
    recorded_step Ask_usage is h = silent Ask_usage is h (subst Now (sym h.3) recorded.kept) refl

  pub recorded_run : (before : List Turn) (s : State) (turns : List Turn) (new : State) → IsRecorded before s
      → Leads L (boot c) before s → Leads L s turns new → IsRecorded (before ++ turns) new
  recorded_run before s [] new recorded leads e =
      subst (λ ts. IsRecorded ts new) (sym (append-nil before)) (subst (IsRecorded before) (sym e) recorded)
  recorded_run before s (turn ∷ turns) new recorded leads (is, mid, step, later) =
      subst (λ ts. IsRecorded ts new) (append_assoc before (turn ∷ []) turns)
      (recorded_run (before ++ turn ∷ []) mid turns new
      (recorded_step before s mid turn.reply recorded leads turn.event is step).now
      (one_more_turn L (boot c) s mid before turn leads is step) later)

  unfoldable pub recorded_boot : IsRecorded [] (boot c)
  recorded_boot = record {
    log = [];
    kept = record { config = refl; output = refl; id = refl; sends = refl; sockets = tt };
    count = refl;
    next = let small : c.first_id < 2 ^ 16 = boots.first_id in omega arith;
    numbered = tt;
    output = tt;
    gave = tt;
  }
