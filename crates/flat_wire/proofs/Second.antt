-- The second machine: from the first's address it holds only what the first sent.
use Rattle.std.proofs.Common.{◌≡◌, ◌≢◌, ℕ, ◌≤◌, ◌<◌, Bool, true, false, List, [], ◌∷◌, length, take, drop, refl, sym, ◌∙◌, ap, subst, ◌⊎◌, inl, inr, arith, Option, Some, None, cond}
use Rattle.std.specs.Prelude.{◌==◌, ◌&&◌, not, nat_lt, Contains, filter, option_to_list}
use Rattle.std.specs.List.{AllByRecursion as Each}
use Rattle.std.specs.Option.{option_or}
use Rattle.std.proofs.lemmas.Bool.{or_parts, or_cases, eqb-true, ltb-true, ltb-false, and_parts}
use Rattle.std.proofs.lemmas.Option.{none-some}
use Rattle.flat_model.specs.declared.lookup_key.LookupKey.{LookupKey}
use Rattle.flat_model.specs.Amounts.Weight.{Weight, Item, mbuf, ◌⊕◌}
use Rattle.flat_model.specs.Fragments.Cuts.{Part, cuts}
use Rattle.flat_model.specs.Packets.Header.{Head, head_of, head_fault, total_of, udp_bytes, u16_at}
use Rattle.flat_model.specs.Amounts.Layout.{Need}
use Rattle.flat_model.specs.Fragments.Overlay.{Map, Fragment, Held, empty, overlay}
use Rattle.flat_model.specs.Fragments.Whole.{IsWhole, bytes_below}
use Rattle.flat_model.specs.Sockets.Lookup.{best, receivers, matches, wildcards, youngest, up_to_first, are_same}
use Rattle.flat_model.specs.Machine.State.{State, Socket, Datagram, Key, Unfinished, loopback, limited_broadcast, change_socket, is_key, unfinished_at, begun, begin_unfinished, set_bytes, end_unfinished, ends}
use Rattle.flat_model.specs.declared.config.Config.{Config}
use Rattle.flat_model.specs.Machine.Ledger.{Ledger, HasBuffers, need_mbufs, reclaimed}
use Rattle.flat_model.specs.Machine.Arrival as Arrival
use Rattle.flat_model.specs.Machine.Arrival.{Origin, By_wire, Looped}
use Rattle.flat_model.specs.Runs.Laws.{bytes_of_part}
use Rattle.flat_model.specs.Machine.Sending.{Sending, datagram, packet_for, head_for}
use Rattle.flat_wire.proofs.Sendable.{IsSendable}
use Rattle.flat_wire.specs.Wire.{ComesFrom}
use Rattle.flat_model.specs.declared.address.Addr.{Addr}
use Rattle.flat_model.specs.declared.counters.Why.{Why}
use Rattle.flat_model.specs.declared.counters.Why.TheVariants.{NoBufs, UdpFullSocket}
use Rattle.flat_model.proofs.Laws.{by_choice, by_case, each-map, each-append, each-filter, each-find, length-udp, whole_key, IsMapOf, whole_bytes}
use Rattle.flat_wire.proofs.Maps.{IsStretch, overlay_is_map, overlay_closed, whole_closed}
use Rattle.flat_wire.proofs.Reading.{read_head, read_carried, read_whole, here_is}
use Rattle.flat_wire.proofs.Stretch.{part_is_stretch}
use Rattle.flat_wire.proofs.Decode.{port_read, to_read, bytes_read}

-- a packet without a fault has a header
pub header_long : (bytes : List ℕ) → head_fault bytes ≡ None → 20 ≤ length bytes
header_long bytes passed = go (nat_lt (length bytes) 20) refl
  where
    go : (b : Bool) → nat_lt (length bytes) 20 ≡ b → 20 ≤ length bytes
    go false long = ltb-false (length bytes) 20 long
    go true short = absurd (none-some _ (sym (rw short at passed)))

-- more parts follow, or some precede: such parts are fragments
abbrev pub IsFrag : Part → Type 0
IsFrag p = (p.more ≡ true) ⊎ (0 < p.offset)

module _ (S A B mtu : ℕ) (P : Sending → Part → Type 0) (Answered : Sending → Type 0) (M : Ledger) where
  -- the packets that the first machine sent
  pub record IsLog : Type 0 where
    pub sendable : (x : Sending) (p : Part) → P x p → IsSendable mtu x
    pub part : (x : Sending) (p : Part) → P x p → Contains (cuts (length (datagram x)) mtu) p
    pub unique : (x y : Sending) (p q : Part) → P x p → P y q → IsFrag p → IsFrag q → x.id ≡ y.id → x ≡ y
    pub answered : (x : Sending) (p : Part) → P x p → p.more ≡ false → Answered x

  abbrev pub IsHere : ℕ → Type 0
  IsHere ip = (ip ≡ A) ⊎ (ip ≡ B)

  -- a datagram in the queue of a socket with this port
  pub record IsSent (port : Option ℕ) (d : Datagram) : Type 0 where
    pub sending : Sending
    pub answered : Answered sending
    pub bytes : sending.bytes ≡ d.item.bytes
    pub sender : sending.port ≡ d.sender.port
    pub receiver : port ≡ Some sending.to.port
    pub here : IsHere sending.to.ip

  pub record IsGoodDatagram (port : Option ℕ) (d : Datagram) : Type 0 where
    pub sent : d.sender.ip ≡ S → IsSent port d

  -- every socket has the port that belongs to its descriptor
  pub record IsGoodSocket (ports : ℕ → Option ℕ) (socket : Socket) : Type 0 where
    pub port : socket.port ≡ ports socket.fd
    pub queue : Each (IsGoodDatagram socket.port) socket.queue
    pub local : (ip : ℕ) → socket.local ≡ Some ip → ip ≢ S

  -- a map that has only bytes of this sending, and its end only if the send succeeded
  pub record IsGoodMap (x : Sending) (bytes : Map) : Type 0 where
    pub map : IsMapOf (datagram x) bytes
    pub closed : (offset : ℕ) (h : Held) → bytes offset ≡ Some h → h.piece.more ≡ false → Answered x

  pub record IsGoodKey (k : Key) (bytes : Map) : Type 0 where
    pub of : k.source ≡ S → k.protocol ≡ 17 → (x : Sending) (p : Part) → P x p → IsFrag p → x.id ≡ k.id → IsGoodMap x bytes

  abbrev pub IsGoodUnfinished : Unfinished → Type 0
  IsGoodUnfinished u = IsGoodKey u.key u.bytes

  pub record IsGood (ports : ℕ → Option ℕ) (s : State) : Type 0 where
    pub addr : s.config.addr ≡ A
    pub bcast : s.config.bcast ≡ B
    pub sockets : Each (IsGoodSocket ports) s.sockets
    pub unfinished : Each IsGoodUnfinished s.unfinished

  -- a packet that the first machine sent, if it has that machine's address as its source
  abbrev pub IsGoodPacket : List ℕ → Type 0
  IsGoodPacket bytes = ComesFrom S bytes → (x : Sending) × (p : Part) × P x p × (bytes ≡ packet_for x p)

  module _ (ports : ℕ → Option ℕ) where
    -- the invariant doesn't depend on the counters
    pub same_but_counters : (old new : State) → IsGood ports old → new.config ≡ old.config → new.sockets ≡ old.sockets
        → new.unfinished ≡ old.unfinished → IsGood ports new
    same_but_counters old new good c s u = record {
      addr = ap (λ (x : Config). x.addr) c ∙ good.addr;
      bcast = ap (λ (x : Config). x.bcast) c ∙ good.bcast;
      sockets = rw s good.sockets;
      unfinished = rw u good.unfinished;
    }

    good_reclaimed : (s : State) → IsGood ports s → IsGood ports (reclaimed s)
    good_reclaimed s good = record { addr = good.addr; bcast = good.bcast; sockets = good.sockets; unfinished = tt }

    pub good_has_buffers : (old new : State) (held : Weight) (n : Need) (yes : Bool) → IsGood ports old
        → HasBuffers M old held n yes new → IsGood ports new
    good_has_buffers old new held n true good (inl a) = subst (IsGood ports) (sym a.1) good
    good_has_buffers old new held n true good (inr a) = subst (IsGood ports) (sym a.1) (good_reclaimed old good)
    good_has_buffers old new held n false good a = subst (IsGood ports) (sym a.1) (good_reclaimed old good)

    pub good_ends : (s : State) → IsGood ports s → (new : State) → (why : Why) → new ≡ ends why s → IsGood ports new
    good_ends s good new why e = subst (IsGood ports) (sym e) (same_but_counters s (ends why s) good refl refl refl)

    good_tests : (old new : State) (held : Weight) (n : ℕ) (Then : State → Type 0) → IsGood ports old
        → ((mid : State) → IsGood ports mid → Then mid → IsGood ports new) → Arrival.Tests M old held n new Then
        → IsGood ports new
    good_tests old new held n Then good goes t =
        let at : IsGood ports t.mid = good_has_buffers old t.mid held (need_mbufs n) t.answer good t.has_buffers in
        by_choice t.goes_on (λ e h. goes t.mid at h) (λ e h. good_ends t.mid at new NoBufs h)

    -- a datagram is appended to the queue of the sockets with a descriptor
    good_queued : (s : State) (fd : ℕ) (d : Datagram) → IsGood ports s → IsGoodDatagram (ports fd) d
        → IsGood ports (change_socket fd (Arrival.with_datagram d) s)
    good_queued s fd d good is = record {
      addr = good.addr;
      bcast = good.bcast;
      sockets = each-map (IsGoodSocket ports) _ (λ socket g. go socket g (socket.fd == fd) refl) s.sockets good.sockets;
      unfinished = good.unfinished;
    }
      where
        go : (socket : Socket) → IsGoodSocket ports socket → (b : Bool) → (socket.fd == fd) ≡ b
            → IsGoodSocket ports (cond b (Arrival.with_datagram d socket) socket)
        go socket g false e = g
        go socket g true e =
            let at : socket.port ≡ ports fd = g.port ∙ ap ports (eqb-true socket.fd fd e) in
            record {
              port = g.port;
              queue = each-append (IsGoodDatagram socket.port) socket.queue (d ∷ []) g.queue
                  (subst (λ q. IsGoodDatagram q d) (sym at) is, tt);
              local = g.local;
            }

    good_appends : (held : Weight) (sender : Addr) (item : Item) (to : Socket) (old new : State) → IsGood ports old
        → ((w : Weight) → IsGoodDatagram (ports to.fd) (record { sender = sender; item = record item { weight = w } }))
        → Arrival.Appends M held sender item to old new → IsGood ports new
    good_appends held sender item to old new good is h =
        by_choice h
        (λ e t. good_tests old new (held ⊕ item.weight) 1 _ good
        (λ mid at e. subst (IsGood ports) (sym e) (good_queued mid to.fd _ at (is (mbuf ⊕ item.weight)))) t)
        (λ e t. good_ends old good new UdpFullSocket t)

    good_delivers : (held : Weight) (sender : Addr) (item : Item) (tos : List Socket) (old new : State)
        → IsGood ports old
        → Each (λ to. (w : Weight) → IsGoodDatagram (ports to.fd)
        (record { sender = sender; item = record item { weight = w } })) tos
        → Arrival.Delivers M held sender item tos old new → IsGood ports new
    good_delivers held sender item [] old new good is h = absurd h
    good_delivers held sender item (last ∷ []) old new good is h =
        good_appends held sender item last old new good is.0 h
    good_delivers held sender item (to ∷ next ∷ more) old new good is (after, tests, later) =
        let at : IsGood ports after =
        good_tests old after (held ⊕ item.weight) item.weight.mbufs _ good
        (λ mid g a. good_appends (held ⊕ item.weight) sender item to mid after g is.0 a) tests in
        good_delivers held sender item (next ∷ more) after new at is.1 later

    -- ---- the sockets that match a datagram

    -- the socket is bound to this port
    abbrev HasPort : ℕ → Socket → Type 0
    HasPort port to = ports to.fd ≡ Some port

    same_port : (p : Option ℕ) (port : ℕ) → are_same p (Some port) ≡ true → p ≡ Some port
    same_port None port e = absurd (no e)
      where
        no : false ≡ true → ⊥
        no e = cc
    same_port (Some q) port e = ap Some (eqb-true q port e)

    has_port : (q : LookupKey) (port : ℕ) → q.port ≡ Some port → (to : Socket) → IsGoodSocket ports to
        → matches q to ≡ true → HasPort port to
    has_port q port at to g m =
        let first = and_parts _ _ m in
        let second = and_parts (are_same to.port q.port) _ first.0 in
        sym g.port ∙ same_port to.port port (subst (λ p. are_same to.port p ≡ true) at second.0)

    each_matching : (q : LookupKey) (port : ℕ) → q.port ≡ Some port → (sockets : List Socket)
        → Each (IsGoodSocket ports) sockets → Each (HasPort port) (filter (matches q) sockets)
    each_matching q port at [] g = tt
    each_matching q port at (to ∷ sockets) g = go (matches q to) refl (each_matching q port at sockets g.1)
      where
        go : (b : Bool) → matches q to ≡ b → Each (HasPort port) (filter (matches q) sockets)
            → Each (HasPort port) (cond b (to ∷ filter (matches q) sockets) (filter (matches q) sockets))
        go true e rest = (has_port q port at to g.0 e, rest)
        go false e rest = rest

    each-up_to_first : (R : Socket → Type 0) (p : Socket → Bool) (xs : List Socket) → Each R xs
        → Each R (up_to_first p xs)
    each-up_to_first R p [] h = tt
    each-up_to_first R p (x ∷ xs) h = go (p x) (each-up_to_first R p xs h.1)
      where
        go : (b : Bool) → Each R (up_to_first p xs) → Each R (cond b (x ∷ []) (x ∷ up_to_first p xs))
        go true rest = (h.0, tt)
        go false rest = (h.0, rest)

    youngest_has_port : (q : LookupKey) (port : ℕ) → q.port ≡ Some port → (k : ℕ) (sockets : List Socket) (to : Socket)
        → Each (IsGoodSocket ports) sockets → youngest k q sockets ≡ Some to → HasPort port to
    youngest_has_port q port at k sockets to g e =
        let found =
        each-find (IsGoodSocket ports) (λ socket. matches q socket && (wildcards q socket == k)) sockets to g e in
        has_port q port at to found.0 (and_parts (matches q to) _ found.1).0

    each_best : (q : LookupKey) (port : ℕ) → q.port ≡ Some port → (sockets : List Socket)
        → Each (IsGoodSocket ports) sockets → Each (HasPort port) (option_to_list (best q sockets))
    each_best q port at sockets g =
        go (youngest 0 q sockets) (youngest 1 q sockets) (youngest 2 q sockets) refl refl refl
      where
        go : (x y z : Option Socket) → youngest 0 q sockets ≡ x → youngest 1 q sockets ≡ y → youngest 2 q sockets ≡ z
            → Each (HasPort port) (option_to_list (option_or x (option_or y z)))
        go (Some to) y z ex ey ez = (youngest_has_port q port at 0 sockets to g ex, tt)
        go None (Some to) z ex ey ez = (youngest_has_port q port at 1 sockets to g ey, tt)
        go None None (Some to) ex ey ez = (youngest_has_port q port at 2 sockets to g ez, tt)
        go None None None ex ey ez = tt

    each_receiver : (s : State) (destination : ℕ) (q : LookupKey) (port : ℕ) → q.port ≡ Some port → IsGood ports s
        → Each (HasPort port) (Arrival.matching_sockets s destination q)
    each_receiver s destination q port at good = go (Arrival.is_broadcast s.config destination)
      where
        go : (b : Bool) → Each (HasPort port) (cond b (receivers q s.sockets) (option_to_list (best q s.sockets)))
        go true = each-up_to_first (HasPort port) _ _ (each_matching q port at s.sockets good.sockets)
        go false = each_best q port at s.sockets good.sockets

    -- ---- whole datagrams

    -- a whole datagram from the first machine is one that it sent
    pub record IsWholeOf (destination : ℕ) (bytes : List ℕ) : Type 0 where
      pub sending : Sending
      pub answered : Answered sending
      pub is : bytes ≡ datagram sending
      pub goes_to : sending.to.ip ≡ destination
      pub here : IsHere destination

    good_goes : (held : Weight) (sender : Addr) (item : Item) (destination port : ℕ) (tos : List Socket)
        (old new : State) → IsGood ports old → Each (HasPort port) tos
        → ((w : Weight) → IsGoodDatagram (Some port) (record { sender = sender; item = record item { weight = w } }))
        → Arrival.GoesTo M held sender item destination tos old new → IsGood ports new
    good_goes held sender item destination port [] old new good bound is h = good_ends old good new _ h
    good_goes held sender item destination port (to ∷ more) old new good bound is h =
        good_delivers held sender item (to ∷ more) old new good (each (to ∷ more) bound) h
      where
        each : (xs : List Socket) → Each (HasPort port) xs
            → Each (λ x. (w : Weight) → IsGoodDatagram (ports x.fd)
            (record { sender = sender; item = record item { weight = w } })) xs
        each [] h = tt
        each (x ∷ xs) h = (
          λ w. subst (λ p. IsGoodDatagram p (record { sender = sender; item = record item { weight = w } })) (sym h.0)
              (is w),
          each xs h.1,
        )

    pub good_whole : (held : Weight) (source destination protocol : ℕ) (item : Item) (old new : State)
        → IsGood ports old → (source ≡ S → protocol ≡ 17 → IsWholeOf destination item.bytes)
        → Arrival.WholeArrives M held source destination protocol item old new → IsGood ports new
    good_whole held source destination protocol item old new good is h =
        by_choice h
        (λ t c. by_case c
        (λ e g. good_goes held _ _ destination (u16_at 2 item.bytes) _ old new good
        (each_receiver old destination _ (u16_at 2 item.bytes) refl good)
        (λ w. record { sent = λ at. sent w (is at (eqb-true protocol 17 t)) }) g)
        (λ why e g. good_ends old good new why g))
        (λ e g. good_ends old good new _ g)
      where
        sent : (w : Weight) → IsWholeOf destination item.bytes
            → IsSent (Some (u16_at 2 item.bytes))
            (record {
              sender = record { ip = source; port = u16_at 0 item.bytes };
              item = record { bytes = udp_bytes item.bytes; weight = w };
            })
        sent w o =
            let x : Sending = o.sending in
            record {
              sending = x;
              answered = o.answered;
              bytes = sym (ap udp_bytes o.is ∙ bytes_read x.source x.to.ip x.port x.to.port x.bytes);
              sender = sym (ap (u16_at 0) o.is ∙ port_read x.source x.to.ip x.port x.to.port x.bytes);
              receiver = ap Some (ap (u16_at 2) o.is ∙ to_read x.source x.to.ip x.port x.to.port x.bytes);
              here = subst IsHere (sym o.goes_to) o.here;
            }

    -- ---- fragments

    -- a fragment from the first machine is part of a datagram that it sent
    pub record IsPartOf (k : Key) (f : Fragment) : Type 0 where
      pub sending : Sending
      pub part : Part
      pub given : P sending part
      pub frag : IsFrag part
      pub id : sending.id ≡ k.id
      pub goes_to : sending.to.ip ≡ k.destination
      pub here : IsHere k.destination
      pub offset : f.offset ≡ part.offset
      pub bytes : f.bytes ≡ bytes_of_part (datagram sending) part
      pub more : f.more ≡ part.more

    key_source : (k : Key) (u : Unfinished) → is_key k u ≡ true → u.key.source ≡ k.source
    key_source k u e = ap (λ (x : Key). x.source) ((whole_key k u).0 e)

    key_protocol : (k : Key) (u : Unfinished) → is_key k u ≡ true → u.key.protocol ≡ k.protocol
    key_protocol k u e = ap (λ (x : Key). x.protocol) ((whole_key k u).0 e)

    key_id : (k : Key) (u : Unfinished) → is_key k u ≡ true → u.key.id ≡ k.id
    key_id k u e = ap (λ (x : Key). x.id) ((whole_key k u).0 e)

    good_at : (k : Key) (s : State) (u : Unfinished) → IsGood ports s → unfinished_at k s ≡ Some u → IsGoodKey k u.bytes
    good_at k s u good e =
        let found = each-find IsGoodUnfinished (is_key k) s.unfinished u good.unfinished e in
        record {
          of = λ from udp x p given frag id. found.0.of (key_source k u found.1 ∙ from)
              (key_protocol k u found.1 ∙ udp) x p given frag (id ∙ sym (key_id k u found.1));
        }

    good_set : (k : Key) (bytes : Map) (s : State) → IsGood ports s → IsGoodKey k bytes
        → IsGood ports (set_bytes k bytes s)
    good_set k bytes s good is = record {
      addr = good.addr;
      bcast = good.bcast;
      sockets = good.sockets;
      unfinished = each-map IsGoodUnfinished _ (λ u g. go u g (is_key k u) refl) s.unfinished good.unfinished;
    }
      where
        go : (u : Unfinished) → IsGoodUnfinished u → (b : Bool) → is_key k u ≡ b
            → IsGoodUnfinished (cond b (record u { bytes = bytes }) u)
        go u g false e = g
        go u g true e =
            record {
              of = λ from udp x p given frag id. is.of (sym (key_source k u e) ∙ from) (sym (key_protocol k u e) ∙ udp)
                  x p given frag (id ∙ key_id k u e);
            }

    good_end : (k : Key) (s : State) → IsGood ports s → IsGood ports (Arrival.counts_reassembled (end_unfinished k s))
    good_end k s good = record {
      addr = good.addr;
      bcast = good.bcast;
      sockets = good.sockets;
      unfinished = each-filter IsGoodUnfinished (λ u. not (is_key k u)) s.unfinished good.unfinished;
    }

    good_begun : (k : Key) → IsGoodKey k empty
    good_begun k = record { of = λ from udp x p given frag id. nothing_held x }
      where
        nothing_held : (x : Sending) → IsGoodMap x empty
        nothing_held x = record {
          map = record {
            inside = λ offset h e. absurd (none-some h e);
            byte = λ offset h e. absurd (none-some h e);
            ended = λ offset h e. absurd (none-some h e);
          };
          closed = λ offset h e. absurd (none-some h e);
        }

    good_begin : (k : Key) (s : State) → IsGood ports s → IsGood ports (begin_unfinished k s)
    good_begin k s good = record {
      addr = good.addr;
      bcast = good.bcast;
      sockets = good.sockets;
      unfinished = each-append IsGoodUnfinished s.unfinished (begun k ∷ []) good.unfinished (good_begun k, tt);
    }

    module _ (log : IsLog) (low : 28 ≤ mtu) where
      stretch : (k : Key) (f : Fragment) (o : IsPartOf k f) → IsStretch (datagram o.sending) f
      stretch k f o = part_is_stretch (datagram o.sending) mtu o.part f
          (omega (arith, length-udp o.sending.source o.sending.to.ip o.sending.port o.sending.to.port o.sending.bytes))
          low (log.part o.sending o.part o.given) o.offset o.bytes o.more

      good_overlay : (k : Key) (f : Fragment) (bytes : Map) → IsGoodKey k bytes
          → (k.source ≡ S → k.protocol ≡ 17 → IsPartOf k f) → IsGoodKey k (overlay bytes f)
      good_overlay k f bytes good is =
          record {
            of = λ from udp x p given frag id. go x (good.of from udp x p given frag id) (is from udp)
                (log.unique (is from udp).sending x (is from udp).part p (is from udp).given given (is from udp).frag frag
                ((is from udp).id ∙ sym id));
          }
        where
          go : (x : Sending) → IsGoodMap x bytes → (o : IsPartOf k f) → o.sending ≡ x → IsGoodMap x (overlay bytes f)
          go x g o same = record {
            map =
                overlay_is_map bytes f (datagram x) g.map (subst (λ y. IsStretch (datagram y) f) same (stretch k f o));
            closed =
                overlay_closed bytes f (Answered x) g.closed
                (λ e. subst Answered same (log.answered o.sending o.part o.given (sym o.more ∙ e)));
          }

      good_inserts : (held : Weight) (k : Key) (f : Fragment) (u : Unfinished) (old new : State) → IsGood ports old
          → IsGoodKey k u.bytes → (k.source ≡ S → k.protocol ≡ 17 → IsPartOf k f)
          → Arrival.Inserts M held k f u old new → IsGood ports new
      good_inserts held k f u old new good at is h =
          by_choice h
          (λ e g. good_ends old good new _ g)
          (λ e g. go g)
        where
          inserted : IsGoodKey k (overlay u.bytes f)
          inserted = good_overlay k f u.bytes at is

          whole : (n : ℕ) → IsWhole (overlay u.bytes f) n → k.source ≡ S → k.protocol ≡ 17
              → IsWholeOf k.destination (bytes_below (overlay u.bytes f) n)
          whole n w from udp =
              let o : IsPartOf k f = is from udp in
              let g : IsGoodMap o.sending (overlay u.bytes f) = inserted.of from udp o.sending o.part o.given o.frag o.id in
              record {
                sending = o.sending;
                answered = whole_closed (overlay u.bytes f) n w (Answered o.sending) g.closed;
                is = whole_bytes (datagram o.sending) (overlay u.bytes f) n g.map w;
                goes_to = o.goes_to;
                here = o.here;
              }

          go : Arrival.Settles M held k (overlay u.bytes f) old new → IsGood ports new
          go (inl (n, w, joined, j, arrives)) =
              good_whole held k.source k.destination k.protocol _ _ new (good_end k old good) (whole n w) arrives
          go (inr (unwhole, e)) = subst (IsGood ports) (sym e) (good_set k (overlay u.bytes f) old good inserted)

      good_joins : (held : Weight) (k : Key) (f : Fragment) (old new : State) → IsGood ports old
          → (k.source ≡ S → k.protocol ≡ 17 → IsPartOf k f) → Arrival.Joins M held k f old new → IsGood ports new
      good_joins held k f old new good is h =
          by_case h
          (λ e t. good_tests old new (held ⊕ f.weight) 1 _ good
          (λ mid at r. let begins : IsGood ports (begin_unfinished k mid) = good_begin k mid at in
          good_inserts held k f (begun k) (begin_unfinished k mid) new begins (good_begun k) is r) t)
          (λ u e l. good_inserts held k f u old new good (good_at k old u good e) is l)

      good_pulls : (origin : Origin) (held w : Weight) (total : ℕ) (old new : State) (Then : Weight → State → Type 0)
          → IsGood ports old
          → ((w : Weight) (mid : State) → IsGood ports mid → Then w mid → IsGood ports new)
          → Arrival.PullsUp M origin held w total old new Then → IsGood ports new
      good_pulls Looped held w total old new Then good goes h = goes w old good h
      good_pulls (By_wire received) held w total old new Then good goes h =
          by_choice h (λ e t. good_tests old new (held ⊕ w) 1 _ good (λ mid at r. goes _ mid at r) t)
          (λ e r. goes w old good r)

      good_fragment : (origin : Origin) (held : Weight) (head : Head) (item : Item) (old new : State) → IsGood ports old
          → ((w : Weight) → head.source ≡ S → head.protocol ≡ 17
          → IsPartOf (Arrival.key_of head)
          (record { offset = head.offset; bytes = item.bytes; more = head.more; weight = w }))
          → Arrival.FragmentArrives M origin held head item old new → IsGood ports new
      good_fragment origin held head item old new good is h =
          by_choice h
          (λ e g. good_ends old good new _ g)
          (λ e p. good_pulls origin held item.weight _ (Arrival.counts_fragment old) new _
          (same_but_counters old (Arrival.counts_fragment old) good refl refl refl)
          (λ w mid at j. good_joins held _ _ mid new at (is w) j) p)

      good_here : (old : State) (ip : ℕ) → IsGood ports old → Arrival.is_for_us old.config ip ≡ true → ip ≢ loopback
          → ip ≢ limited_broadcast → IsHere ip
      good_here old ip good ours a b = go (here_is old.config ip ours a b)
        where
          go : (ip ≡ old.config.addr) ⊎ (ip ≡ old.config.bcast) → IsHere ip
          go (inl e) = inl (e ∙ good.addr)
          go (inr e) = inr (e ∙ good.bcast)

      -- what is read in such a packet
      module _ (item : Item) (old : State) (good : IsGood ports old) (x : Sending) (p : Part) (given : P x p)
          (bytes_are : item.bytes ≡ packet_for x p)
          (ours : Arrival.is_for_us old.config (head_of item.bytes).destination ≡ true) where
        sendable : IsSendable mtu x
        sendable = log.sendable x p given

        head_is : head_of item.bytes ≡ head_for x p
        head_is = ap head_of bytes_are ∙ read_head mtu low x p sendable (log.part x p given)

        carried_is : (Arrival.carried item).bytes ≡ bytes_of_part (datagram x) p
        carried_is =
            ap (λ bytes. drop 20 (take (total_of bytes) bytes)) bytes_are
            ∙ read_carried mtu low x p sendable (log.part x p given)

        to_is : x.to.ip ≡ (head_of item.bytes).destination
        to_is = sym (ap (λ (h : Head). h.destination) head_is)

        here : IsHere (head_of item.bytes).destination
        here = good_here old (head_of item.bytes).destination good ours
            (λ e. sendable.not_loopback (to_is ∙ e)) (λ e. sendable.not_limited_broadcast (to_is ∙ e))

        frag_read : Arrival.is_fragment (head_of item.bytes) ≡ true → IsFrag p
        frag_read e = go (or_cases (head_of item.bytes).more (nat_lt 0 (head_of item.bytes).offset) e)
          where
            go : ((head_of item.bytes).more ≡ true) ⊎ (nat_lt 0 (head_of item.bytes).offset ≡ true) → IsFrag p
            go (inl h) = inl (sym (ap (λ (h : Head). h.more) head_is) ∙ h)
            go (inr h) =
                let some : 0 < (head_of item.bytes).offset = ltb-true 0 (head_of item.bytes).offset h in
                inr (omega (arith, ap (λ (h : Head). h.offset) head_is, some))

        part_read : Arrival.is_fragment (head_of item.bytes) ≡ true → (w : Weight) → IsPartOf (Arrival.key_of (head_of item.bytes))
            (record {
              offset = (head_of item.bytes).offset;
              bytes = (Arrival.carried item).bytes;
              more = (head_of item.bytes).more;
              weight = w;
            })
        part_read e w = record {
          sending = x;
          part = p;
          given = given;
          frag = frag_read e;
          id = sym (ap (λ (h : Head). h.id) head_is);
          goes_to = to_is;
          here = here;
          offset = ap (λ (h : Head). h.offset) head_is;
          bytes = carried_is;
          more = ap (λ (h : Head). h.more) head_is;
        }

        whole_read : Arrival.is_fragment (head_of item.bytes) ≡ false
            → IsWholeOf (head_of item.bytes).destination (Arrival.carried item).bytes
        whole_read e =
            let parts = or_parts _ _ e in
            let more : p.more ≡ false = sym (ap (λ (h : Head). h.more) head_is) ∙ parts.0 in
            let at : (head_of item.bytes).offset ≤ 0 = ltb-false _ _ parts.1 in
            let first : p.offset ≡ 0 = omega (arith, ap (λ (h : Head). h.offset) head_is) in
            record {
              sending = x;
              answered = log.answered x p given more;
              is = carried_is ∙ read_whole mtu low x p sendable (log.part x p given) first more;
              goes_to = to_is;
              here = here;
            }

      good_passes : (origin : Origin) (held : Weight) (item : Item) (old new : State) → IsGood ports old
          → 20 ≤ length item.bytes → IsGoodPacket item.bytes → Arrival.Passes M origin held item old new
          → IsGood ports new
      good_passes origin held item old new good whole is h =
          by_choice h
          (λ ours c. by_choice c
          (λ e f. good_fragment origin held (head_of item.bytes) (Arrival.carried item) old new good
          (λ w from udp. let o = is (named from udp) in part_read item old good o.0 o.1 o.2 o.3 ours e w) f)
          (λ e w. good_whole held _ _ _ (Arrival.carried item) old new good
          (λ from udp. let o = is (named from udp) in whole_read item old good o.0 o.1 o.2 o.3 ours e) w))
          (λ e g. good_ends old good new _ g)
        where
          named : (head_of item.bytes).source ≡ S → (head_of item.bytes).protocol ≡ 17 → ComesFrom S item.bytes
          named from udp = record { long = omega arith; source = from; udp = udp }

      pub good_arrives : (origin : Origin) (held : Weight) (item : Item) (old new : State) → IsGood ports old
          → IsGoodPacket item.bytes → Arrival.Arrives M origin held item old new → IsGood ports new
      good_arrives origin held item old new good is h =
          let counted : IsGood ports (Arrival.counts_packet old) =
          same_but_counters old (Arrival.counts_packet old) good refl refl refl in
          by_case h
          (λ e p. good_passes origin held item (Arrival.counts_packet old) new counted (header_long item.bytes e) is p)
          (λ why e g. good_ends (Arrival.counts_packet old) counted new why g)

      pub good_all_arrive : (items : List Item) (old new : State) → IsGood ports old
          → Each (λ item. IsGoodPacket item.bytes) items → Arrival.AllArrive M items old new → IsGood ports new
      good_all_arrive [] old new good is e = subst (IsGood ports) (sym e) good
      good_all_arrive (item ∷ items) old new good is (mid, a, later) =
          good_all_arrive items mid new (good_arrives Looped _ item old mid good is.0 a) is.1 later
