-- A fragment of a datagram arrives: it's stored with the others, or the datagram is complete and goes to its socket.
use Rattle.std.proofs.Common.{◌≡◌, ℕ, suc, ◌+◌, ◌-◌, ◌%◌, ◌^◌, ◌<◌, ◌≤◌, Bool, true, false, List, [], ◌∷◌, length, map, refl, sym, ◌∙◌, ap, subst, ◌⊎◌, inl, inr, arith, Option, Some, None, cond}
use Rattle.std.specs.Prelude.{Contains, Any, ◌==◌, nat_lt, ◌&&◌, not, ⊤, option_to_list}
use Rattle.std.proofs.lemmas.Bool.{le-ltb, eqb-true, eq-eqb}
use Rattle.std.proofs.lemmas.Option.{none-some, same_Some}
use Rattle.params.specs.declared.TheConstants.{FRAGMENT_TICKS}
use Rattle.flat_model.specs.Amounts.Choice.{Choice}
use Rattle.flat_model.specs.Amounts.Weight.{Weight, Item, mbuf, nothing, ◌⊕◌}
use Rattle.flat_model.specs.Amounts.Layout.{Need, need_of, wire, entries_on, weight_of}
use Rattle.flat_model.specs.Fragments.Cuts.{Part, cuts}
use Rattle.flat_model.specs.Fragments.Overlay.{Map, Fragment, is_covered, overlay}
use Rattle.flat_model.specs.Fragments.Whole.{IsWhole, bytes_below}
use Rattle.flat_model.specs.Packets.Header.{Head, head_of, udp_fault, udp_bytes, u16_at}
use Rattle.flat_model.specs.Runs.Laws.{bytes_of_part}
use Rattle.flat_model.specs.Sockets.Fits.{fits, memory_of}
use Rattle.flat_model.specs.Sockets.Lookup.{best, receivers}
use Rattle.flat_model.specs.Machine.Arrival as Arrival
use Rattle.flat_model.specs.Machine.Arrival.{By_wire}
use Rattle.flat_model.specs.Machine.Count.{value_of, counted, more_by}
use Rattle.flat_model.specs.Machine.Event.{Reply, Comes}
use Rattle.flat_model.specs.Machine.Ledger.{Ledger, HasBuffers, AreTaken, need_mbufs, reclaimed}
use Rattle.flat_model.specs.Machine.Sending.{Sending, datagram, packet_for, head_for}
use Rattle.flat_model.specs.Machine.State.{State, Socket, Datagram, Key, Unfinished, begun, begin_unfinished, change_socket, end_unfinished, ends}
use Rattle.flat_model.specs.Machine.Step.{StepBy}
use Rattle.flat_model.specs.declared.address.Addr.{Addr}
use Rattle.flat_model.specs.declared.config.Config.{Config}
use Rattle.flat_model.specs.declared.counter.Counter.TheVariants.{UdpNoport, UdpFullsock}
use Rattle.flat_model.specs.declared.counters.Counters.{Counters}
use Rattle.flat_model.specs.declared.counters.Why.TheVariants.{NoBufs, UdpFullSocket, UdpNoPort, UdpNoPortBroadcast}
use Rattle.flat_model.specs.declared.lookup_key.LookupKey.{LookupKey}
use Rattle.flat_model.proofs.Laws.{by_choice, by_case, length-udp, whole_bytes, IsMapOf}
use Rattle.flat_wire.specs.Overlays.{IsFragmentOf, inserted}
use Rattle.flat_wire.specs.Progress.{key_for, IsReceivedBy, IsPlaced, matching}
use Rattle.flat_wire.proofs.Accepted.{accepted_head, accepted_udp}
use Rattle.flat_wire.proofs.Closed.{by_has_buffers, by_arrives, by_inserts, by_joins}
use Rattle.flat_wire.proofs.Counting.{AtLeast, at_least_closed}
use Rattle.flat_wire.proofs.Decode.{port_read, to_read, bytes_read}
use Rattle.flat_wire.proofs.ForEver.{frag_written}
use Rattle.flat_wire.proofs.Arriving.{AreFragments, parts_are_multiples, covered_is_in, inserted_is_map}
use Rattle.flat_wire.proofs.Keyed.{at, HasMore, has_more_closed, begins_this, sets_this, false_true}
use Rattle.flat_wire.proofs.Reading.{read_head, read_carried}
use Rattle.flat_wire.proofs.Second.{IsFrag}
use Rattle.flat_wire.proofs.Sendable.{IsSendable}
use Rattle.flat_wire.proofs.Stretch.{part_is_stretch}

counted_noport : (c : Counters) → value_of UdpNoport (counted UdpNoPort c) ≡ more_by 1 (value_of UdpNoport c)
unfolding counted
counted_noport c = refl

counted_fullsock : (c : Counters) → value_of UdpFullsock (counted UdpFullSocket c) ≡ more_by 1 (value_of UdpFullsock c)
unfolding counted
counted_fullsock c = refl

nobufs_counted : (r b : ℕ) (c : Counters) → b < 2 ^ 64 - 1 → AtLeast r b c → HasMore r b (counted NoBufs c)
unfolding counted
nobufs_counted r b c small a = inr (record { reclaimed = a.reclaimed; nobufs = omega (arith, a.nobufs, small) })

-- the first fragment, and the others
pub record IsStoredAt (k : Key) (few : ℕ) (bytes : Map) (us : List Unfinished) : Type 0 where
  pub unfinished : Unfinished
  pub is_at : at k us ≡ Some unfinished
  pub bytes_are : unfinished.bytes ≡ bytes
  pub soon : few < unfinished.ticks

-- these fragments are stored, the last first, and are kept for more than so many ticks
abbrev pub Stored : Key → ℕ → List Fragment → List Unfinished → Type 0
Stored k few [] us = at k us ≡ None
Stored k few (f ∷ fs) us = IsStoredAt k few (inserted (f ∷ fs)) us

module _ (L : Ledger) (x : Sending) (mtu : ℕ) (sendable : IsSendable mtu x) (low : 28 ≤ mtu) (r b : ℕ)
    (small_r : r < 2 ^ 64 - 1) (small_b : b < 2 ^ 64 - 1) (few : ℕ) (in_time : few < FRAGMENT_TICKS) (old new : State)
    (here : Arrival.is_for_us old.config x.to.ip ≡ true) (alone : Arrival.is_broadcast old.config x.to.ip ≡ false)
    (never : HasMore r b new.counters → ⊥) where
  k : Key
  k = key_for x

  pub some : 0 < length (datagram x)
  some = omega (arith, length-udp x.source x.to.ip x.port x.to.port x.bytes)

  -- a state within the step: all but the unfinished datagrams and other counters is as before it
  record Same (s : State) : Type 0 where
    sockets : s.sockets ≡ old.sockets
    config : s.config ≡ old.config
    noport : value_of UdpNoport s.counters ≡ value_of UdpNoport old.counters
    fullsock : value_of UdpFullsock s.counters ≡ value_of UdpFullsock old.counters
    least : AtLeast r b s.counters

  -- ---- tests for buffers pass

  module _ (G : Type 0) (s mid : State) (held : Weight) (need : Need) (Then : State → Type 0) (same : Same s)
      (more_on : HasMore r b mid.counters → Then mid → HasMore r b new.counters)
      (go : Same mid → mid.unfinished ≡ s.unfinished → Then mid → G) where
    nothing_dropped : (us : List Unfinished) → s.unfinished ≡ us → mid ≡ reclaimed s → Then mid → G
    nothing_dropped [] e is t = go (subst Same (sym is) (record {
      sockets = same.sockets;
      config = same.config;
      noport = same.noport;
      fullsock = same.fullsock;
      least =
          let a = same.least in
          record { reclaimed = omega (arith, a.reclaimed, small_r); nobufs = a.nobufs };
    })) (ap (λ (t : State). t.unfinished) is ∙ sym e) t
    nothing_dropped (u ∷ us) e is t =
        let a = same.least in
        let some : 0 < length s.unfinished = omega (arith, ap length e) in
        absurd (never (more_on (subst (λ (t : State). HasMore r b t.counters) (sym is)
        (inl (record { reclaimed = omega (arith, a.reclaimed, some, small_r); nobufs = a.nobufs }))) t))

    passed : (answer : Bool) → answer ≡ true → HasBuffers L s held need answer mid → Then mid → G
    passed true e (inl (has, is)) t = go (subst Same (sym is) same) (ap (λ (t : State). t.unfinished) is) t
    passed true e (inr (lacked, is, has)) t = nothing_dropped s.unfinished refl is t
    passed false e h t = absurd (false_true e)

    buffers_go : (answer : Bool) → HasBuffers L s held need answer mid
        → Choice answer (Then mid) (new ≡ ends NoBufs mid) → G
    buffers_go answer has choice =
        let least : AtLeast r b mid.counters =
        by_has_buffers L (λ key. ⊤) (λ s. AtLeast r b s.counters)
        (at_least_closed L r b (omega arith) (omega arith)) s mid held need answer same.least has in
        by_choice choice (λ e t. passed answer e has t)
        (λ e is. absurd (never (subst (λ (t : State). HasMore r b t.counters) (sym is)
        (nobufs_counted r b mid.counters small_b least))))

  tests_go : (G : Type 0) (s : State) (held : Weight) (n : ℕ) (Then : State → Type 0) → Same s
      → ((mid : State) → HasMore r b mid.counters → Then mid → HasMore r b new.counters)
      → ((mid : State) → Same mid → mid.unfinished ≡ s.unfinished → Then mid → G)
      → Arrival.Tests L s held n new Then → G
  tests_go G s held n Then same more_on go t =
      buffers_go G s t.mid held (need_mbufs n) Then same (more_on t.mid) (go t.mid) t.answer t.has_buffers t.goes_on

  -- ---- the datagram is complete

  module _ (held : Weight) (item : Item) (s : State) (same : Same s) (is : item.bytes ≡ datagram x) where
    abbrev sender : Addr
    sender = record { ip = x.source; port = u16_at 0 item.bytes }

    abbrev wanted : LookupKey
    wanted = record { local = Some x.to.ip; port = Some (u16_at 2 item.bytes); peer = Some sender }

    from_is : u16_at 0 item.bytes ≡ x.port
    from_is = ap (u16_at 0) is ∙ port_read x.source x.to.ip x.port x.to.port x.bytes

    to_is : u16_at 2 item.bytes ≡ x.to.port
    to_is = ap (u16_at 2) is ∙ to_read x.source x.to.ip x.port x.to.port x.bytes

    bytes_are : udp_bytes item.bytes ≡ x.bytes
    bytes_are = ap udp_bytes is ∙ bytes_read x.source x.to.ip x.port x.to.port x.bytes

    no_fault : udp_fault x.source x.to.ip item.bytes ≡ None
    no_fault = ap (udp_fault x.source x.to.ip) is ∙ accepted_udp x.source x.to.ip x.port x.to.port x.bytes

    alone_here : Arrival.is_broadcast s.config x.to.ip ≡ false
    alone_here = ap (λ (c : Config). Arrival.is_broadcast c x.to.ip) same.config ∙ alone

    matching_is : Arrival.matching_sockets s x.to.ip wanted ≡ option_to_list (matching x old)
    matching_is =
        ap (λ b. cond b (receivers wanted s.sockets) (option_to_list (best wanted s.sockets))) alone_here
        ∙ ap (λ ss. option_to_list (best wanted ss)) same.sockets
        ∙ ap (λ p. option_to_list (best (record {
          local = Some x.to.ip;
          port = Some p;
          peer = Some sender;
        }) old.sockets)) to_is
        ∙ ap (λ p. option_to_list (best (record {
          local = Some x.to.ip;
          port = Some x.to.port;
          peer = Some (record { ip = x.source; port = p });
        }) old.sockets)) from_is

    queued : Weight → Datagram
    queued w = record { sender = sender; item = record { bytes = udp_bytes item.bytes; weight = w } }

    queued_is : (w : Weight) → queued w
        ≡ record { sender = record { ip = x.source; port = x.port }; item = record { bytes = x.bytes; weight = w } }
    unfolding queued
    queued_is w = λ i. record {
      sender = record { ip = x.source; port = from_is i };
      item = record { bytes = bytes_are i; weight = w };
    }

    received : (to : Socket) → Arrival.Tests L s (held ⊕ item.weight) 1 new (λ mid. new ≡ change_socket to.fd
        (Arrival.with_datagram (queued (mbuf ⊕ item.weight))) mid) → IsReceivedBy x to item.weight old new
    received to t =
        tests_go (IsReceivedBy x to item.weight old new) s (held ⊕ item.weight) 1 _ same
        (λ mid more e. subst (λ (t : State). HasMore r b t.counters) (sym e) more)
        (λ mid at_mid us e.
        ap (λ (t : State). t.sockets) e
        ∙ ap (λ d. (change_socket to.fd (Arrival.with_datagram d) mid).sockets) (queued_is (mbuf ⊕ item.weight))
        ∙ ap (λ ss. map (λ (socket : Socket). cond (socket.fd == to.fd) (Arrival.with_datagram (record {
          sender = record { ip = x.source; port = x.port };
          item = record { bytes = x.bytes; weight = mbuf ⊕ item.weight };
        }) socket) socket) ss) at_mid.sockets) t

    fits_is : (to : Socket) → fits to.limit to.queue (length (udp_bytes item.bytes)) (memory_of item.weight)
        ≡ fits to.limit to.queue (length x.bytes) (memory_of item.weight)
    fits_is to = ap (λ bytes. fits to.limit to.queue (length bytes) (memory_of item.weight)) bytes_are

    goes : (o : Option Socket) → Arrival.GoesTo L held sender
        (record { bytes = udp_bytes item.bytes; weight = item.weight })
        x.to.ip (option_to_list o) s new → IsPlaced x old new o
    unfolding queued
    goes None g =
        ap (λ (t : State). value_of UdpNoport t.counters) g
        ∙ ap (λ b. value_of UdpNoport (counted (cond b UdpNoPortBroadcast UdpNoPort) s.counters)) alone_here
        ∙ counted_noport s.counters ∙ ap (more_by 1) same.noport
    goes (Some to) g = (
      item.weight,
      record {
        yes = λ e. received to (g.yes (fits_is to ∙ e));
        no = λ e. ap (λ (t : State). value_of UdpFullsock t.counters) (g.no (fits_is to ∙ e))
            ∙ counted_fullsock s.counters ∙ ap (more_by 1) same.fullsock;
      },
    )

    placed : Arrival.WholeArrives L held x.source x.to.ip 17 item s new → IsPlaced x old new (matching x old)
    placed h =
        by_choice h
        (λ e c. by_case c
        (λ fine g. goes (matching x old)
        (subst (λ tos. Arrival.GoesTo L held sender (record { bytes = udp_bytes item.bytes; weight = item.weight })
        x.to.ip tos s new)
        matching_is g))
        (λ why bad g. absurd (none-some why (sym no_fault ∙ bad))))
        (λ e g. absurd (false_true (sym e)))

  -- ---- a fragment is stored

  pub record Arrived (fs : List Fragment) (p : Part) (us : List Unfinished) : Type 0 where
    pub fragments : List Fragment
    pub are : AreFragments (datagram x) mtu some low fragments
    pub has : Any (λ g. g.offset ≡ p.offset) fragments
    pub still : (offset : ℕ) → Any (λ g. g.offset ≡ offset) fs → Any (λ g. g.offset ≡ offset) fragments
    pub unwhole : (n : ℕ) → IsWhole (inserted fragments) n → ⊥
    pub stored : Stored (key_for x) few fragments us

  module _ (fs : List Fragment) (are : AreFragments (datagram x) mtu some low fs)
      (unwhole : (n : ℕ) → IsWhole (inserted fs) n → ⊥) (p : Part)
      (in_cuts : Contains (cuts (length (datagram x)) mtu) p) (frag : IsFrag p) where
    abbrev pub Outcome : Type 0
    Outcome = IsPlaced x old new (matching x old) ⊎ Arrived fs p new.unfinished

    this : Weight → Fragment
    this w = record { offset = p.offset; bytes = bytes_of_part (datagram x) p; more = p.more; weight = w }

    this_is : (w : Weight) → IsFragmentOf (datagram x) mtu (this w)
    unfolding this
    this_is w = record { part = p; is_part = in_cuts; offset = refl; bytes = refl; more = refl }

    kept : (fs : List Fragment) (us : List Unfinished) (u : Unfinished) → Any (λ g. g.offset ≡ p.offset) fs
        → at k us ≡ Some u → u.bytes ≡ inserted fs → few < u.ticks → Stored (key_for x) few fs us
    unfolding k
    kept [] us u any is bytes soon = absurd (omega (arith, any.2))
    kept (f ∷ fs) us u any is bytes soon =
        record { unfinished = u; is_at = is; bytes_are = bytes; soon = soon }

    inserts : (w held : Weight) (s : State) (u : Unfinished) → Same s → at k s.unfinished ≡ Some u
        → u.bytes ≡ inserted fs → few < u.ticks → Arrival.Inserts L held k (this w) u s new → Outcome
    unfolding k this
    inserts w held s u same is_at bytes soon h =
        by_choice h
        (λ e g. inr (covered (subst (λ m. is_covered m (this w) ≡ true) bytes e)
        (ap (λ (t : State). t.unfinished) g)))
        (λ e g. settles g)
      where
        covered : is_covered (inserted fs) (this w) ≡ true → new.unfinished ≡ s.unfinished
            → Arrived fs p new.unfinished
        covered e us =
            let any = covered_is_in (datagram x) mtu some low fs are (this w) (this_is w) e in
            record {
              fragments = fs;
              are = are;
              has = any;
              still = λ offset a. a;
              unwhole = unwhole;
              stored = subst (Stored (key_for x) few fs) (sym us) (kept fs s.unfinished u any is_at bytes soon);
            }

        map_is : overlay u.bytes (this w) ≡ inserted (this w ∷ fs)
        map_is = ap (λ m. overlay m (this w)) bytes

        whole : (n : ℕ) → IsWhole (overlay u.bytes (this w)) n → bytes_below (overlay u.bytes (this w)) n ≡ datagram x
        whole n is =
            whole_bytes (datagram x) (overlay u.bytes (this w)) n
            (subst (IsMapOf (datagram x)) (sym map_is)
            (inserted_is_map (datagram x) mtu some low (this w ∷ fs) (this_is w, are))) is

        settles : Arrival.Settles L held k (overlay u.bytes (this w)) s new → Outcome
        settles (inl (n, is, joined, j, arrives)) =
            inl (placed held _ (Arrival.counts_reassembled (end_unfinished k s)) (record {
              sockets = same.sockets;
              config = same.config;
              noport = same.noport;
              fullsock = same.fullsock;
              least = record { reclaimed = (same.least).reclaimed; nobufs = (same.least).nobufs };
            }) (whole n is) arrives)
        settles (inr (not_whole, e)) = inr (record {
          fragments = this w ∷ fs;
          are = (this_is w, are);
          has = (0, this w, omega arith, refl, refl);
          still = λ offset a. (suc a.0, a.1, omega (arith, a.2), a.3, a.4);
          unwhole = λ n is. not_whole n (subst (λ m. IsWhole m n) (sym map_is) is);
          stored = record {
            unfinished = record u { bytes = overlay u.bytes (this w) };
            is_at =
                ap (λ (t : State). at k t.unfinished) e
                ∙ sets_this k (overlay u.bytes (this w)) s.unfinished u is_at;
            bytes_are = map_is;
            soon = soon;
          };
        })

    joins : (w : Weight) (s : State) → Same s → Stored (key_for x) few fs s.unfinished
        → Arrival.Joins L nothing k (this w) s new → Outcome
    unfolding k this
    joins w s same stored h =
        by_case h (λ none t. first fs refl stored none t) (λ u e l. later fs refl stored u e l)
      where
        first : (gs : List Fragment) → gs ≡ fs → Stored (key_for x) few gs s.unfinished → at k s.unfinished ≡ None
            → Arrival.Tests L s (nothing ⊕ w) 1 new
            (λ mid. Arrival.Inserts L nothing k (this w) (begun k) (begin_unfinished k mid) new) → Outcome
        first [] e is none t =
            tests_go Outcome s (nothing ⊕ w) 1 _ same
            (λ mid more i. by_inserts L (λ key. ⊤) (λ s. HasMore r b s.counters)
            (has_more_closed L (key_for x) None r b small_r small_b) nothing k (this w) (begun k)
            (begin_unfinished k mid)
            new tt more i)
            (λ mid at_mid us i. inserts w nothing (begin_unfinished k mid) (begun k) (record {
              sockets = at_mid.sockets;
              config = at_mid.config;
              noport = at_mid.noport;
              fullsock = at_mid.fullsock;
              least = at_mid.least;
            }) (begins_this k mid.unfinished (ap (at k) us ∙ is)) (ap inserted e) in_time i) t
        first (f ∷ gs) e is none t = absurd (none-some is.unfinished (sym none ∙ is.is_at))

        later : (gs : List Fragment) → gs ≡ fs → Stored (key_for x) few gs s.unfinished → (u : Unfinished)
            → at k s.unfinished ≡ Some u → Arrival.Inserts L nothing k (this w) u s new → Outcome
        later [] e is u found l = absurd (none-some u (sym is ∙ found))
        later (f ∷ gs) e is u found l =
            let same_u : is.unfinished ≡ u = same_Some is.unfinished u (sym is.is_at ∙ found) in
            inserts w nothing s u same found
            (ap (λ (v : Unfinished). v.bytes) (sym same_u) ∙ is.bytes_are ∙ ap inserted e)
            (omega (arith, is.soon, ap (λ (v : Unfinished). v.ticks) same_u)) l

    size : length (datagram x) ≡ 8 + length x.bytes
    size = length-udp x.source x.to.ip x.port x.to.port x.bytes

    not_bad : Arrival.is_bad_fragment (head_for x p) (length (bytes_of_part (datagram x) p)) ≡ false
    unfolding this
    not_bad =
        let stretch = part_is_stretch (datagram x) mtu p (this nothing) some low in_cuts refl refl refl in
        let filled : (length (bytes_of_part (datagram x) p) == 0) ≡ false =
        go (length (bytes_of_part (datagram x) p) == 0) refl stretch.some in
        let multiple : (p.more && not (length (bytes_of_part (datagram x) p) % 8 == 0)) ≡ false = full p.more refl in
        let fits_in : nat_lt 65515 (p.offset + length (bytes_of_part (datagram x) p)) ≡ false =
        le-ltb 65515 (p.offset + length (bytes_of_part (datagram x) p))
        (omega (arith, stretch.fits, size, sendable.short)) in
        rw (filled, multiple, fits_in) refl
      where
        go : (c : Bool) → (length (bytes_of_part (datagram x) p) == 0) ≡ c
            → 0 < length (bytes_of_part (datagram x) p) → c ≡ false
        go false e l = refl
        go true e l = absurd (omega (arith, l, eqb-true (length (bytes_of_part (datagram x) p)) 0 e))

        full : (m : Bool) → p.more ≡ m → (m && not (length (bytes_of_part (datagram x) p) % 8 == 0)) ≡ false
        full false e = refl
        full true e = ap not (eq-eqb (length (bytes_of_part (datagram x) p) % 8) 0
            (parts_are_multiples (datagram x) mtu p low in_cuts e))

    fragment : (received : ℕ) (w : Weight) (s : State) → Same s → Stored (key_for x) few fs s.unfinished
        → Arrival.FragmentArrives L (By_wire received) nothing (head_for x p)
        (record { bytes = bytes_of_part (datagram x) p; weight = w }) s new → Outcome
    unfolding k this
    fragment received w s same stored h =
        by_choice h (λ e g. absurd (false_true (sym not_bad ∙ e)))
        (λ e pull. by_choice pull
        (λ e t. tests_go Outcome (Arrival.counts_fragment s) (nothing ⊕ w) 1 _ counted_same
        (λ mid more j. by_joins L (λ key. ⊤) (λ s. HasMore r b s.counters)
        (has_more_closed L (key_for x) None r b small_r small_b) nothing (key_for x) _ mid new tt more j)
        (λ mid at_mid us j. joins _ mid at_mid (subst (Stored (key_for x) few fs) (sym us) stored) j) t)
        (λ e j. joins w (Arrival.counts_fragment s) counted_same stored j))
      where
        counted_same : Same (Arrival.counts_fragment s)
        counted_same = record {
          sockets = same.sockets;
          config = same.config;
          noport = same.noport;
          fullsock = same.fullsock;
          least = record { reclaimed = (same.least).reclaimed; nobufs = (same.least).nobufs };
        }

    head_is : head_of (packet_for x p) ≡ head_for x p
    head_is = read_head mtu low x p sendable in_cuts

    passes : (received : ℕ) (w : Weight) (s : State) → Same s → Stored (key_for x) few fs s.unfinished
        → Arrival.Passes L (By_wire received) nothing (record { bytes = packet_for x p; weight = w }) s new → Outcome
    passes received w s same stored h =
        by_choice h
        (λ ours c. by_choice c
        (λ part f. fragment received w s same stored
        (subst (λ bytes. Arrival.FragmentArrives L (By_wire received) nothing (head_for x p)
        (record { bytes = bytes; weight = w }) s new)
        (read_carried mtu low x p sendable in_cuts)
        (subst (λ (head : Head). Arrival.FragmentArrives L (By_wire received) nothing head
        (Arrival.carried (record { bytes = packet_for x p; weight = w })) s new)
        head_is f)))
        (λ whole g. absurd (false_true (sym whole ∙ ap Arrival.is_fragment head_is ∙ frag_written p frag))))
        (λ other g. absurd (false_true (sym other
        ∙ ap (λ (head : Head). Arrival.is_for_us s.config head.destination) head_is
        ∙ ap (λ (c : Config). Arrival.is_for_us c x.to.ip) same.config ∙ here)))

    arrives : (received : ℕ) (w : Weight) (s : State) → Same s → Stored (key_for x) few fs s.unfinished
        → Arrival.Arrives L (By_wire received) nothing (record { bytes = packet_for x p; weight = w }) s new → Outcome
    arrives received w s same stored h =
        by_case h
        (λ fine g. passes received w (Arrival.counts_packet s) (record {
          sockets = same.sockets;
          config = same.config;
          noport = same.noport;
          fullsock = same.fullsock;
          least = record { reclaimed = (same.least).reclaimed; nobufs = (same.least).nobufs };
        }) stored g)
        (λ why bad g. absurd (none-some why
        (sym (accepted_head (head_for x p) (bytes_of_part (datagram x) p)) ∙ bad)))

    -- the packet of this part arrives, in these clusters
    abbrev received_in : List ℕ → Item
    received_in clusters = record {
      bytes = packet_for x p;
      weight = weight_of (entries_on clusters (wire (length (packet_for x p))));
    }

    abbrev Goes : State → Type 0
    Goes mid =
        (clusters : List ℕ)
        × AreTaken L mid (need_of (wire (length (packet_for x p)))).clusters clusters
        × Arrival.Arrives L (By_wire (length (packet_for x p))) nothing (received_in clusters) mid new

    pub part_comes : (reply : Reply) → AtLeast r b old.counters → Stored (key_for x) few fs old.unfinished
        → StepBy L old (Comes (packet_for x p)) reply new → Outcome
    part_comes reply least stored (answer_is, (answer, mid, has, choice)) =
        buffers_go Outcome old mid nothing (need_of (wire (length (packet_for x p)))) Goes
        (record { sockets = refl; config = refl; noport = refl; fullsock = refl; least = least })
        (λ more t. by_arrives L (λ key. ⊤) (λ s. HasMore r b s.counters)
        (has_more_closed L (key_for x) None r b small_r small_b) (By_wire (length (packet_for x p))) nothing
        (received_in t.0) mid new (λ e f. tt) more t.2)
        (λ at_mid us t. arrives (length (packet_for x p)) (received_in t.0).weight mid at_mid
        (subst (Stored (key_for x) few fs) (sym us) stored) t.2)
        answer has choice
