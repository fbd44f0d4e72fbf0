-- The second machine, if the first sends for ever: fragments that meet come from the same send.
use Rattle.std.proofs.Common.{◌≡◌, ◌≢◌, ℕ, ◌+◌, ◌-◌, ◌%◌, ◌≤◌, ◌<◌, Bool, true, false, List, [], ◌∷◌, length, map, refl, sym, ◌∙◌, ap, subst, ◌⊎◌, inl, inr, arith, Option, Some, None, cond}
use Rattle.std.specs.Prelude.{filter, nat_lt, ⊤, Contains}
use Rattle.std.specs.List.{AllByRecursion as Each}
use Rattle.std.proofs.lemmas.List.Elements.{All-from_recursion, All-contains}
use Rattle.std.proofs.lemmas.Bool.{ltb-true, or_cases}
use Rattle.params.specs.declared.TheConstants.{FRAGMENT_TICKS}
use Rattle.flat_model.specs.Fragments.Cuts.{Part, cuts}
use Rattle.flat_model.specs.Fragments.Overlay.{Map}
use Rattle.flat_model.specs.Packets.Header.{Head, head_of, head_fault}
use Rattle.flat_model.specs.Machine.Event.{Event, Reply, Open, Bind, Connect, Send, Receive, Close, Set_option, Set_limit, Comes, Transmit, Tick, Ask_counters, Ask_usage}
use Rattle.flat_model.specs.declared.config.Config.{Config}
use Rattle.flat_model.specs.declared.address.Addr.{Addr}
use Rattle.flat_model.specs.Machine.State.{State, Socket, Datagram, Key, Unfinished, boot, loopback, begun, is_key}
use Rattle.flat_model.specs.Machine.Ledger.{Ledger}
use Rattle.flat_model.specs.Machine.Arrival as Arrival
use Rattle.flat_model.specs.Machine.Sending.{Sending, datagram, packet_for, head_for}
use Rattle.flat_model.specs.Machine.Step.{StepBy}
use Rattle.flat_model.specs.Runs.Run.{Leads}
use Rattle.flat_model.specs.Runs.Laws.{bytes_of_part}
use Rattle.flat_model.proofs.Laws.{each-map, each-append, each-filter, each-weaker}
use Rattle.flat_wire.specs.Wire.{ComesFrom}
use Rattle.flat_wire.proofs.Seen.{Seen, Member, older, sees, IsNear, IsNearTo, Labelled, AreNear}
use Rattle.flat_wire.proofs.Sendable.{IsSendable}
use Rattle.flat_wire.proofs.Decode.{source_read}
use Rattle.flat_wire.proofs.Reading.{read_head}
use Rattle.flat_wire.proofs.Walk as Walk
use Rattle.flat_wire.proofs.Closed.{IsClosedBy}
use Rattle.flat_wire.proofs.Quiet.{IsQuiet, quiet}
use Rattle.flat_wire.proofs.Second as Second
use Rattle.flat_wire.proofs.SecondSteps as Steps

-- ---- members

pub member_older : (seen : List Seen) (x : Seen) → Member (map older seen) x
    → (y : Seen) × Member seen y × (older y ≡ x)
member_older [] x m = absurd m
member_older (y ∷ seen) x (inl e) = (y, inl refl, e)
member_older (y ∷ seen) x (inr m) = let r = member_older seen x m in (r.0, inr r.1, r.2)

older_member : (seen : List Seen) (y : Seen) → Member seen y → Member (map older seen) (older y)
older_member [] y m = absurd m
older_member (x ∷ seen) y (inl e) = inl (ap older e)
older_member (x ∷ seen) y (inr m) = inr (older_member seen y m)

same_number : (f m n : ℕ) → (f + m) % 65536 ≡ (f + n) % 65536 → m < n + 65536 → n < m + 65536 → m ≡ n
same_number f m n e a b = omega arith

module _ (S A B mtu : ℕ) (Answered : Sending → Type 0) (M : Ledger) (first_id : ℕ) (N : ℕ → Sending)
    (Ok : Sending → Part → Type 0)
    (ids : (n : ℕ) → (N n).id ≡ (first_id + n) % 65536)
    (sendable : (x : Sending) (p : Part) → Ok x p → IsSendable mtu x)
    (is_part : (x : Sending) (p : Part) → Ok x p → Contains (cuts (length (datagram x)) mtu) p)
    (answers : (x : Sending) (p : Part) → Ok x p → p.more ≡ false → Answered x)
    (low : 28 ≤ mtu) (not_A : A ≢ S) (not_B : B ≢ S) (not_loopback : loopback ≢ S) where
  -- whose fragment was seen fewer than 60 ticks ago
  record IsRecent (seen : List Seen) (x : Sending) : Type 0 where
    n : Seen
    member : Member seen n
    young : n.age < FRAGMENT_TICKS
    is : N n.number ≡ x

  -- the sends whose packets can still be in an unfinished datagram
  abbrev P : List Seen → Sending → Part → Type 0
  P seen x p = Ok x p × (Second.IsFrag p → IsRecent seen x)

  abbrev Apart : List Seen → Type 0
  Apart seen = (a b : Seen) → Member seen a → Member seen b → a.age < FRAGMENT_TICKS → b.age < FRAGMENT_TICKS
      → a.number < b.number + 65536

  same : (m n : ℕ) (x y : Sending) → N m ≡ x → N n ≡ y → x.id ≡ y.id → m < n + 65536 → n < m + 65536 → m ≡ n
  same m n x y ex ey e a b =
      same_number first_id m n
      (sym (ids m) ∙ ap (λ (z : Sending). z.id) ex ∙ e ∙ ap (λ (z : Sending). z.id) (sym ey) ∙ ids n) a b

  log : (seen : List Seen) → Apart seen → Second.IsLog S A B mtu (P seen) Answered M
  log seen apart = record {
    sendable = λ x p g. sendable x p g.0;
    part = λ x p g. is_part x p g.0;
    unique = λ x y p q g h f k e. let r = g.1 f in let t = h.1 k in
        sym r.is
        ∙ ap N (same r.n.number t.n.number x y r.is t.is e (apart r.n t.n r.member t.member r.young t.young)
        (apart t.n r.n t.member r.member t.young r.young))
        ∙ t.is;
    answered = λ x p g e. answers x p g.0 e;
  }

  abbrev GoodBy : List Seen → (ℕ → Option ℕ) → State → Type 0
  GoodBy seen = Second.IsGood S A B mtu (P seen) Answered M

  -- only the unfinished datagrams depend on what was seen
  widen : (seen more : List Seen) (ports : ℕ → Option ℕ) (s : State) → GoodBy seen ports s
      → Each (Second.IsGoodUnfinished S A B mtu (P more) Answered M) s.unfinished → GoodBy more ports s
  widen seen more ports s good us = record {
    addr = good.addr;
    bcast = good.bcast;
    sockets = each-weaker socket s.sockets good.sockets;
    unfinished = us;
  }
    where
      datagram_is : (port : Option ℕ) (d : Datagram)
          → Second.IsGoodDatagram S A B mtu (P seen) Answered M port d
          → Second.IsGoodDatagram S A B mtu (P more) Answered M port d
      datagram_is port d g = record {
        sent = λ e. let i = g.sent e in record {
          sending = i.sending;
          answered = i.answered;
          bytes = i.bytes;
          sender = i.sender;
          receiver = i.receiver;
          here = i.here;
        };
      }

      socket : (x : Socket) → Second.IsGoodSocket S A B mtu (P seen) Answered M ports x
          → Second.IsGoodSocket S A B mtu (P more) Answered M ports x
      socket x g = record {
        port = g.port;
        queue = each-weaker (datagram_is x.port) x.queue g.queue;
        local = g.local;
      }

  -- ---- each unfinished datagram from the first was begun by a packet of it, as long ago as its ticks say

  record HasWitness (seen : List Seen) (key : Key) (left : ℕ) : Type 0 where
    who : Seen
    member : Member seen who
    age : who.age + left ≡ FRAGMENT_TICKS
    some : 1 ≤ left
    id : (N who.number).id ≡ key.id

  abbrev Witness : List Seen → Key → ℕ → Type 0
  Witness seen key left = key.source ≡ S → key.protocol ≡ 17 → HasWitness seen key left

  abbrev Witnessed : List Seen → List Unfinished → Type 0
  Witnessed seen us = Each (λ u. Witness seen u.key u.ticks) us

  closed : (seen : List Seen) → IsClosedBy M (λ k. Witness seen k FRAGMENT_TICKS) (λ s. Witnessed seen s.unfinished)
  closed seen = record {
    ended = λ why s us. us;
    dropped = λ s us. tt;
    queued = λ fd d s us. us;
    fragment = λ s us. us;
    packet = λ s us. us;
    begins = λ k s q us. each-append (λ u. Witness seen u.key u.ticks) s.unfinished (begun k ∷ []) us (q, tt);
    sets =
        λ k bytes s q us. each-map (λ u. Witness seen u.key u.ticks) _ (λ u g. go bytes u (is_key k u) g)
        s.unfinished us;
    finishes = λ k s q us. each-filter (λ u. Witness seen u.key u.ticks) _ s.unfinished us;
  }
    where
      go : (bytes : Map) (u : Unfinished) (b : Bool) → Witness seen u.key u.ticks
          → (let v : Unfinished = cond b (record u { bytes = bytes }) u in Witness seen v.key v.ticks)
      go bytes u true g = g
      go bytes u false g = g

  -- one more packet of the first
  more_seen : (x : Seen) (seen : List Seen) (us : List Unfinished) → Witnessed seen us → Witnessed (x ∷ seen) us
  more_seen x seen us ws = each-weaker (λ u w from udp. let h = w from udp in record {
    who = h.who;
    member = inr h.member;
    age = h.age;
    some = h.some;
    id = h.id;
  }) us ws

  -- one more tick
  ticks_on : (seen : List Seen) (us : List Unfinished) → Witnessed seen us → Witnessed (map older seen)
      (filter (λ u. nat_lt 0 u.ticks) (map (λ (u : Unfinished). record u { ticks = u.ticks - 1 }) us))
  ticks_on seen [] ws = tt
  ticks_on seen (u ∷ us) ws = go (nat_lt 0 (u.ticks - 1)) refl (ticks_on seen us ws.1)
    where
      go : (b : Bool) → nat_lt 0 (u.ticks - 1) ≡ b
          → Witnessed (map older seen)
          (filter (λ u. nat_lt 0 u.ticks) (map (λ (u : Unfinished). record u { ticks = u.ticks - 1 }) us))
          → Witnessed (map older seen) (cond b (record u { ticks = u.ticks - 1 }
          ∷ filter (λ u. nat_lt 0 u.ticks) (map (λ (u : Unfinished). record u { ticks = u.ticks - 1 }) us))
          (filter (λ u. nat_lt 0 u.ticks) (map (λ (u : Unfinished). record u { ticks = u.ticks - 1 }) us)))
      go false e later = later
      go true e later = (
        λ from udp. let w = ws.0 from udp in record {
          who = older w.who;
          member = older_member seen w.who w.member;
          age = omega (arith, w.age, w.some);
          some = omega (arith, ltb-true 0 (u.ticks - 1) e);
          id = w.id;
        },
        later,
      )

  record Holds (seen : List Seen) (s : State) : Type 0 where
    apart : Apart seen
    ports : ℕ → Option ℕ
    good : GoodBy seen ports s
    witnessed : Witnessed seen s.unfinished

  -- the only packet of a send
  pub record IsWholePacket (packet : List ℕ) : Type 0 where
    pub sending : Sending
    pub part : Part
    pub ok : Ok sending part
    pub whole : Second.IsFrag part → ⊥
    pub is : packet ≡ packet_for sending part

  abbrev pub IsLabelled : Event → Option ℕ → Type 0
  IsLabelled (Comes packet) None = ComesFrom S packet → IsWholePacket packet
  IsLabelled (Comes packet) (Some n) = (p : Part) × Ok (N n) p × (packet ≡ packet_for (N n) p)
  IsLabelled _ _ = ⊤

  -- the step of the invariant of `Second`, for what was seen
  stepped : (seen : List Seen) (old new : State) (event : Event) (reply : Reply) (apart : Apart seen)
      (ports : ℕ → Option ℕ) → GoodBy seen ports old
      → Steps.IsGoodEvent S A B mtu (P seen) Answered M (log seen apart) low not_A not_B not_loopback event
      → StepBy M old event reply new → (q : ℕ → Option ℕ) × GoodBy seen q new
  stepped seen old new event reply apart ports good is h =
      Steps.steps S A B mtu (P seen) Answered M (log seen apart) low not_A not_B not_loopback old new event reply
      (ports, good) is h

  -- ---- a packet arrives

  comes_in : (seen : List Seen) (packet : List ℕ) (reply : Reply) (old new : State) → Witnessed seen old.unfinished
      → (head_fault packet ≡ None → Arrival.is_fragment (head_of packet) ≡ true
      → Witness seen (Arrival.key_of (head_of packet)) FRAGMENT_TICKS)
      → StepBy M old (Comes packet) reply new → Witnessed seen new.unfinished
  comes_in seen packet reply old new ws q h =
      Walk.comes M (λ k. Witness seen k FRAGMENT_TICKS) (λ cc us c. Witnessed seen us) (closed seen) packet reply old
      new q
      ws h

  -- the fragment's flag or offset is read from a packet of a send
  frag_read : (packet : List ℕ) (x : Sending) (p : Part) → Ok x p → packet ≡ packet_for x p
      → Arrival.is_fragment (head_of packet) ≡ true → Second.IsFrag p
  frag_read packet x p ok is e =
      go (or_cases (head_of packet).more (nat_lt 0 (head_of packet).offset) e)
      (ap head_of is ∙ read_head mtu low x p (sendable x p ok) (is_part x p ok))
    where
      go : ((head_of packet).more ≡ true) ⊎ (nat_lt 0 (head_of packet).offset ≡ true) → head_of packet ≡ head_for x p
          → Second.IsFrag p
      go (inl h) at = inl (sym (ap (λ (h : Head). h.more) at) ∙ h)
      go (inr h) at =
          let some : 0 < (head_of packet).offset = ltb-true 0 (head_of packet).offset h in
          inr (omega (arith, ap (λ (h : Head). h.offset) at, some))

  -- one that isn't the first's, or is no fragment
  other_comes : (seen : List Seen) (packet : List ℕ) (reply : Reply) (old new : State) → Holds seen old
      → (ComesFrom S packet → IsWholePacket packet) → StepBy M old (Comes packet) reply new → Holds seen new
  other_comes seen packet reply old new holds other h =
      let next = stepped seen old new (Comes packet) reply holds.apart holds.ports holds.good
      (λ from. let w = other from in (w.sending, w.part, (w.ok, λ f. absurd (w.whole f)), w.is)) h in
      record {
        apart = holds.apart;
        ports = next.0;
        good = next.1;
        witnessed = comes_in seen packet reply old new holds.witnessed
            (λ e f from udp.
            let w = other (record {
              long = let long : 20 ≤ length packet = Second.header_long packet e in omega arith;
              source = from;
              udp = udp;
            }) in
            absurd (w.whole (frag_read packet w.sending w.part w.ok w.is f))) h;
      }

  -- one that the first made at its send n
  abbrev this : ℕ → Seen
  this n = record { number = n; age = 0 }

  number_is : (n : ℕ) (x : Seen) → this n ≡ x → x.number ≡ n
  number_is n x e = sym (ap (λ (y : Seen). y.number) e)

  still_apart : (seen : List Seen) (n : ℕ) → Apart seen → IsNear n seen → Apart (this n ∷ seen)
  still_apart seen n apart near a b (inl ea) (inl eb) la lb = omega (arith, number_is n a ea, number_is n b eb)
  still_apart seen n apart near a b (inl ea) (inr mb) la lb = omega (arith, number_is n a ea, (near b mb lb).1)
  still_apart seen n apart near a b (inr ma) (inl eb) la lb = omega (arith, number_is n b eb, (near a ma la).0)
  still_apart seen n apart near a b (inr ma) (inr mb) la lb = apart a b ma mb la lb

  still_map : (seen more : List Seen) (x : Sending) (bytes : Map)
      → Second.IsGoodMap S A B mtu (P seen) Answered M x bytes
      → Second.IsGoodMap S A B mtu (P more) Answered M x bytes
  still_map seen more x bytes m = record { map = m.map; closed = m.closed }

  -- an unfinished datagram with the key of the send n is of the send n
  still_key : (seen : List Seen) (n : ℕ) → IsNear n seen → (u : Unfinished)
      → Second.IsGoodUnfinished S A B mtu (P seen) Answered M u → Witness seen u.key u.ticks
      → Second.IsGoodUnfinished S A B mtu (P (this n ∷ seen)) Answered M u
  still_key seen n near u g w = record {
    of = λ from udp y q given frag id. let r = given.1 frag in
        still_map seen (this n ∷ seen) y u.bytes (go from udp y q r.n r.member r.young r.is given.0 frag id);
  }
    where
      go : u.key.source ≡ S → u.key.protocol ≡ 17 → (y : Sending) (q : Part) (m : Seen) → Member (this n ∷ seen) m
          → m.age < FRAGMENT_TICKS → N m.number ≡ y → Ok y q → Second.IsFrag q → y.id ≡ u.key.id
          → Second.IsGoodMap S A B mtu (P seen) Answered M y u.bytes
      go from udp y q m (inr member) young is_y ok_y frag id =
          g.of from udp y q (ok_y, λ f. record { n = m; member = member; young = young; is = is_y }) frag id
      go from udp y q m (inl e) young is_y ok_y frag id =
          let v : HasWitness seen u.key u.ticks = w from udp in
          let recent : v.who.age < FRAGMENT_TICKS = omega (arith, v.age, v.some) in
          let close = near v.who v.member recent in
          let equal : v.who.number ≡ m.number =
          same v.who.number m.number (N v.who.number) y refl is_y (v.id ∙ sym id)
          (omega (arith, close.0, number_is n m e)) (omega (arith, close.1, number_is n m e)) in
          g.of from udp y q
          (ok_y, λ f. record { n = v.who; member = v.member; young = recent; is = ap N equal ∙ is_y }) frag id

  still_keys : (seen : List Seen) (n : ℕ) → IsNear n seen → (us : List Unfinished)
      → Each (Second.IsGoodUnfinished S A B mtu (P seen) Answered M) us → Witnessed seen us
      → Each (Second.IsGoodUnfinished S A B mtu (P (this n ∷ seen)) Answered M) us
  still_keys seen n near [] g w = tt
  still_keys seen n near (u ∷ us) g w = (still_key seen n near u g.0 w.0, still_keys seen n near us g.1 w.1)

  first_comes : (seen : List Seen) (packet : List ℕ) (n : ℕ) (reply : Reply) (old new : State) → Holds seen old
      → IsNear n seen → (p : Part) → Ok (N n) p → packet ≡ packet_for (N n) p → StepBy M old (Comes packet) reply new
      → Holds (this n ∷ seen) new
  first_comes seen packet n reply old new holds near p ok is h =
      let apart : Apart (this n ∷ seen) = still_apart seen n holds.apart near in
      let good : GoodBy (this n ∷ seen) holds.ports old =
      widen seen (this n ∷ seen) holds.ports old holds.good
      (still_keys seen n near old.unfinished holds.good.unfinished holds.witnessed) in
      let next = stepped (this n ∷ seen) old new (Comes packet) reply apart holds.ports good
      (λ from. (N n, p, (ok, λ f. record { n = this n; member = inl refl; young = omega arith; is = refl }), is)) h in
      record {
        apart = apart;
        ports = next.0;
        good = next.1;
        witnessed = comes_in (this n ∷ seen) packet reply old new
            (more_seen (this n) seen old.unfinished holds.witnessed)
            (λ e f from udp. record {
              who = this n;
              member = inl refl;
              age = refl;
              some = omega arith;
              id =
                  sym (ap (λ (h : Head). h.id)
                  (ap head_of is ∙ read_head mtu low (N n) p (sendable (N n) p ok) (is_part (N n) p ok)));
            }) h;
      }

  -- ---- a tick

  ticks : (seen : List Seen) (reply : Reply) (old new : State) → Holds seen old → StepBy M old Tick reply new
      → Holds (map older seen) new
  ticks seen reply old new holds h =
      let good : GoodBy (map older seen) holds.ports old =
      widen seen (map older seen) holds.ports old holds.good
      (each-weaker one old.unfinished holds.good.unfinished) in
      let next = stepped (map older seen) old new Tick reply apart holds.ports good tt h in
      record {
        apart = apart;
        ports = next.0;
        good = next.1;
        witnessed = subst (λ (s : State). Witnessed (map older seen) s.unfinished) (sym h.1)
            (ticks_on seen old.unfinished holds.witnessed);
      }
    where
      age_is : (x y : Seen) → older y ≡ x → x.age ≡ y.age + 1
      age_is x y e = sym (ap (λ (z : Seen). z.age) e)

      numbers_are : (x y : Seen) → older y ≡ x → x.number ≡ y.number
      numbers_are x y e = sym (ap (λ (z : Seen). z.number) e)

      apart : Apart (map older seen)
      apart a b ma mb la lb =
          let x = member_older seen a ma in
          let y = member_older seen b mb in
          let close : x.0.number < y.0.number + 65536 =
          holds.apart x.0 y.0 x.1 y.1 (omega (arith, age_is a x.0 x.2, la)) (omega (arith, age_is b y.0 y.2, lb)) in
          omega (arith, close, numbers_are a x.0 x.2, numbers_are b y.0 y.2)

      one : (u : Unfinished) → Second.IsGoodUnfinished S A B mtu (P seen) Answered M u
          → Second.IsGoodUnfinished S A B mtu (P (map older seen)) Answered M u
      one u g = record {
        of = λ from udp y q given frag id.
            let r = given.1 frag in
            let x = member_older seen r.n r.member in
            still_map seen (map older seen) y u.bytes (g.of from udp y q (
              given.0,
              λ f. record {
                n = x.0;
                member = x.1;
                young = omega (arith, age_is r.n x.0 x.2, r.young);
                is = ap N (sym (numbers_are r.n x.0 x.2)) ∙ r.is;
              },
            ) frag id);
      }

  -- ---- a send, whose packets may come back

  sends : (seen : List Seen) (fd : ℕ) (to : Option Addr) (bytes : List ℕ) (reply : Reply) (old new : State)
      → Holds seen old → StepBy M old (Send fd to bytes) reply new → Witnessed seen new.unfinished
  sends seen fd to bytes reply old new holds h =
      Walk.sends M (λ k. Witness seen k FRAGMENT_TICKS) (λ cc us c. Witnessed seen us) (closed seen) fd to bytes
      reply old
      new (record { counts = λ cc us c u. u; cuts = λ cc us c u. u; drops = λ cc us c u. u })
      (λ me at c e x ip source p from udp.
      let me_is = Steps.found S A B mtu (P seen) Answered M (log seen holds.apart) low not_A not_B not_loopback
      holds.ports old fd me holds.good at in
      absurd (Steps.source_not S A B mtu (P seen) Answered M (log seen holds.apart) low not_A not_B not_loopback c me ip
      (ap (λ (d : Config). d.addr) e ∙ holds.good.addr) me_is.0.local
      (sym source ∙ sym (source_read (head_for x p) (bytes_of_part (datagram x) p)) ∙ from)))
      holds.witnessed h

  -- ---- every event

  -- an event by which no datagram begins or gets older
  keeps : (seen : List Seen) (event : Event) (reply : Reply) (old new : State) (holds : Holds seen old)
      → IsQuiet M (λ cc us c. Witnessed seen us) event
      → Steps.IsGoodEvent S A B mtu (P seen) Answered M (log seen holds.apart) low not_A not_B not_loopback event
      → StepBy M old event reply new → Holds seen new
  keeps seen event reply old new holds is_quiet is_good h =
      let next = stepped seen old new event reply holds.apart holds.ports holds.good is_good h in
      record {
        apart = holds.apart;
        ports = next.0;
        good = next.1;
        witnessed = quiet M (λ cc us c. Witnessed seen us) event reply old new is_quiet holds.witnessed h;
      }

  one : (seen : List Seen) (event : Event) (label : Option ℕ) (reply : Reply) (old new : State) → Holds seen old
      → IsLabelled event label → IsNearTo event label seen → StepBy M old event reply new
      → Holds (sees event label seen) new
  one seen (Comes packet) None reply old new holds is near h = other_comes seen packet reply old new holds is h
  one seen (Comes packet) (Some n) reply old new holds (p, ok, is) near h =
      first_comes seen packet n reply old new holds near p ok is h
  one seen Tick label reply old new holds is near h = ticks seen reply old new holds h
  one seen (Send fd to bytes) label reply old new holds is near h =
      let next = stepped seen old new (Send fd to bytes) reply holds.apart holds.ports holds.good tt h in
      record {
        apart = holds.apart;
        ports = next.0;
        good = next.1;
        witnessed = sends seen fd to bytes reply old new holds h;
      }
  one seen Open label reply old new holds is near h =
      keeps seen Open reply old new holds tt tt h
  one seen (Bind fd a) label reply old new holds is near h =
      keeps seen (Bind fd a) reply old new holds tt tt h
  one seen (Connect fd a) label reply old new holds is near h =
      keeps seen (Connect fd a) reply old new holds tt tt h
  one seen (Receive fd most) label reply old new holds is near h =
      keeps seen (Receive fd most) reply old new holds tt tt h
  one seen (Close fd) label reply old new holds is near h =
      keeps seen (Close fd) reply old new holds tt tt h
  one seen (Set_option fd option on) label reply old new holds is near h =
      keeps seen (Set_option fd option on) reply old new holds tt tt h
  one seen (Set_limit fd limit) label reply old new holds is near h =
      keeps seen (Set_limit fd limit) reply old new holds tt tt h
  one seen Transmit label reply old new holds is near h =
      keeps seen Transmit reply old new holds tt tt h
  one seen Ask_counters label reply old new holds is near h =
      keeps seen Ask_counters reply old new holds tt tt h
  one seen Ask_usage label reply old new holds is near h =
      keeps seen Ask_usage reply old new holds tt tt h

  runs : (seen : List Seen) (ls : List Labelled) (old new : State) → Holds seen old
      → Each (λ (l : Labelled). IsLabelled l.turn.event l.label) ls → AreNear seen ls
      → Leads M old (map (λ (l : Labelled). l.turn) ls) new → (last : List Seen) × Holds last new
  runs seen [] old new holds is near e = (seen, subst (Holds seen) (sym e) holds)
  runs seen (l ∷ ls) old new holds is near (range, mid, step, later) =
      runs (sees l.turn.event l.label seen) ls mid new
      (one seen l.turn.event l.label l.turn.reply old mid holds is.0 near.0 step) is.1 near.1 later

  booted : (c : Config) → c.addr ≡ A → c.bcast ≡ B → Holds [] (boot c)
  booted c a b = record {
    apart = λ x y m n lx ly. absurd m;
    ports = λ k. None;
    good = record { addr = a; bcast = b; sockets = tt; unfinished = tt };
    witnessed = tt;
  }

  -- a datagram in a queue was sent by the first
  pub record WasSentSo (port : Option ℕ) (d : Datagram) : Type 0 where
    pub sending : Sending
    pub answered : Answered sending
    pub bytes : sending.bytes ≡ d.item.bytes
    pub sender : sending.port ≡ d.sender.port
    pub receiver : port ≡ Some sending.to.port
    pub here : (sending.to.ip ≡ A) ⊎ (sending.to.ip ≡ B)

  pub received_for_ever : (c : Config) → c.addr ≡ A → c.bcast ≡ B → (ls : List Labelled) (t : State)
      → Each (λ (l : Labelled). IsLabelled l.turn.event l.label) ls → AreNear [] ls
      → Leads M (boot c) (map (λ (l : Labelled). l.turn) ls) t
      → (socket : Socket) (d : Datagram) → Contains t.sockets socket → Contains socket.queue d → d.sender.ip ≡ S
      → WasSentSo socket.port d
  received_for_ever c a b ls t is near leads socket d in_sockets in_queue from =
      let end = runs [] ls (boot c) t (booted c a b) is near leads in
      let good = end.1.good in
      let socket_good =
      All-contains (Second.IsGoodSocket S A B mtu (P end.0) Answered M end.1.ports) t.sockets socket
      (All-from_recursion (Second.IsGoodSocket S A B mtu (P end.0) Answered M end.1.ports) t.sockets good.sockets)
      in_sockets in
      let datagram_good =
      All-contains (Second.IsGoodDatagram S A B mtu (P end.0) Answered M socket.port) socket.queue d
      (All-from_recursion (Second.IsGoodDatagram S A B mtu (P end.0) Answered M socket.port) socket.queue
      socket_good.queue) in_queue in
      let i = datagram_good.sent from in
      record {
        sending = i.sending;
        answered = i.answered;
        bytes = i.bytes;
        sender = i.sender;
        receiver = i.receiver;
        here = i.here;
      }
