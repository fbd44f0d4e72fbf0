-- A datagram whose fragments all arrive in time is completed.
use Rattle.std.proofs.Common.{◌≡◌, ◌≢◌, ℕ, zero, suc, ◌+◌, ◌-◌, ◌*◌, ◌/◌, ◌^◌, ◌<◌, ◌≤◌, Bool, true, false, List, [], ◌∷◌, ◌++◌, length, refl, sym, ◌∙◌, ap, subst, ◌⊎◌, inl, inr, arith, Option, Some, None, cond}
use Rattle.std.specs.Prelude.{Contains, Any, filter_map, ◌==◌, ◌||◌, ⊤, unwrap_or}
use Rattle.std.specs.List.{AllByRecursion as Each, cons_option}
use Rattle.std.proofs.lemmas.Bool.{eqb-true, eq-eqb}
use Rattle.std.proofs.lemmas.List.{append_assoc, append-nil}
use Rattle.std.proofs.lemmas.List.Elements.{All-from_recursion, All-head, All-contains_itself, Contains-append_right, Contains-append_cases, filter_map-append}
use Rattle.params.specs.declared.TheConstants.{FRAGMENT_TICKS}
use Rattle.flat_model.specs.Fragments.Cuts.{Part}
use Rattle.flat_model.specs.Fragments.Overlay.{Fragment}
use Rattle.flat_model.specs.Fragments.Whole.{IsWhole}
use Rattle.flat_model.specs.Packets.Header.{Head, head_of}
use Rattle.flat_model.specs.Runs.Consistent.{IsConsistent, IsSocket}
use Rattle.flat_model.specs.Runs.Laws.{bytes_of_part}
use Rattle.flat_model.specs.Runs.Run.{Turn, Leads}
use Rattle.flat_model.specs.Machine.Arrival as Arrival
use Rattle.flat_model.specs.Machine.Calls.{is_ours, source_for}
use Rattle.flat_model.specs.Machine.Count.{value_of, counts_more}
use Rattle.flat_model.specs.Machine.Event.{Event, Reply, IsEvent, Open, Bind, Connect, Send, Receive, Close, Set_option, Set_limit, Comes, Transmit, Tick, Ask_counters, Ask_usage}
use Rattle.flat_model.specs.Machine.Ledger.{Ledger, exact_ledger}
use Rattle.flat_model.specs.Machine.Sending.{Sending, datagram, packet_for, head_for}
use Rattle.flat_model.specs.Machine.State.{State, Socket, Key, Unfinished, begun, is_key, loopback, limited_broadcast, socket_at}
use Rattle.flat_model.specs.Machine.Step.{StepBy}
use Rattle.flat_model.specs.declared.config.Config.{Config}
use Rattle.flat_model.specs.declared.counter.Counter.TheVariants.{IpReclaimed, Nobufs, IpLocalout, IpFragmented, OutDropped}
use Rattle.flat_model.specs.declared.counters.Counters.{Counters}
use Rattle.flat_model.proofs.Laws.{count_cons, count-append, each-find, length-udp, one_more_turn, step_is_consistent, whole_key}
use Rattle.flat_wire.specs.Age.{ticks_in, is_tick}
use Rattle.flat_wire.specs.Overlays.{IsFragmentOf, inserted}
use Rattle.flat_wire.specs.Progress.{key_for, parts, IsInTime, IsCompleted, IsPlaced, matching, ProgressLaw}
use Rattle.flat_wire.specs.Wire.{came_in, packet_in}
use Rattle.flat_wire.proofs.Closed.{IsClosedBy}
use Rattle.flat_wire.proofs.Completing as Completing
use Rattle.flat_wire.proofs.Completing.{IsStoredAt, Stored}
use Rattle.flat_wire.proofs.Counting.{AtLeast, at_least_step, at_least_run}
use Rattle.flat_wire.proofs.Decode.{source_read}
use Rattle.flat_wire.proofs.Arriving.{parts_are_fragments}
use Rattle.flat_wire.proofs.ForEver.{frag_written}
use Rattle.flat_wire.proofs.Keyed.{at, HasMore, Stays, stays_closed, tick_none, tick_some, kept, false_true}
use Rattle.flat_wire.proofs.Order.{overlay_order_lem}
use Rattle.flat_wire.proofs.Quiet.{IsQuiet, quiet}
use Rattle.flat_wire.proofs.Reading.{read_head}
use Rattle.flat_wire.proofs.Second.{IsFrag}
use Rattle.flat_wire.proofs.Sendable.{IsSendable}
use Rattle.flat_wire.proofs.Walk as Walk

-- stored for more ticks is stored for fewer
stored_less : (k : Key) (most few : ℕ) (fs : List Fragment) (us : List Unfinished) → few ≤ most → Stored k most fs us
    → Stored k few fs us
stored_less k most few [] us less s = s
stored_less k most few (f ∷ fs) us less s =
    record { unfinished = s.unfinished; is_at = s.is_at; bytes_are = s.bytes_are; soon = omega (arith, less, s.soon) }

-- it depends only on what is unfinished with this key
stored_same : (k : Key) (few : ℕ) (fs : List Fragment) (us more : List Unfinished) → at k more ≡ at k us
    → Stored k few fs us → Stored k few fs more
stored_same k few [] us more same s = same ∙ s
stored_same k few (f ∷ fs) us more same s =
    record { unfinished = s.unfinished; is_at = same ∙ s.is_at; bytes_are = s.bytes_are; soon = s.soon }

-- one tick
stored_ticked : (k : Key) (few : ℕ) (fs : List Fragment) (us : List Unfinished) → Stored k (few + 1) fs us
    → Stored k few fs (kept k us)
stored_ticked k few [] us s = tick_none k us s
stored_ticked k few (f ∷ fs) us s =
    record {
      unfinished = record (s.unfinished) { ticks = s.unfinished.ticks - 1 };
      is_at = tick_some k us s.unfinished s.is_at (omega (arith, s.soon));
      bytes_are = s.bytes_are;
      soon = omega (arith, s.soon);
    }

nothing_whole : (n : ℕ) → IsWhole (inserted []) n → ⊥
nothing_whole n is = false_true (is.filled 0 is.some)

module _ (x : Sending) (mtu : ℕ) (first last : State) (turns : List Turn) (w : IsInTime x mtu first last turns) where
  abbrev L : Ledger
  L = exact_ledger

  abbrev r : ℕ
  r = value_of IpReclaimed first.counters

  abbrev b : ℕ
  b = value_of Nobufs first.counters

  small_r : r < 2 ^ 64 - 1
  small_r = let kept : value_of IpReclaimed last.counters ≡ r = w.reclaims in omega (arith, w.reclaims_count)

  small_b : b < 2 ^ 64 - 1
  small_b = let kept : value_of Nobufs last.counters ≡ b = w.buffers in omega (arith, w.buffers_count)

  none_last : HasMore r b last.counters → ⊥
  none_last (inl h) =
      let kept : value_of IpReclaimed last.counters ≡ r = w.reclaims in omega (arith, h.reclaimed)
  none_last (inr h) = let kept : value_of Nobufs last.counters ≡ b = w.buffers in omega (arith, h.nobufs)

  low : 28 ≤ mtu
  low = let least : 68 ≤ mtu = w.sending.low in omega arith

  addr_high : x.to.ip < 224 * 2 ^ 24
  addr_high = let high : first.config.addr < 224 * 2 ^ 24 = w.consistent.config.addr.high in omega (arith, w.here)

  sendable : IsSendable mtu x
  sendable = record {
    id = w.sending.id;
    source = w.sending.source;
    ip = omega (arith, addr_high);
    to_port = w.sending.to_port;
    port = w.sending.from_port;
    short = w.sending.short;
    not_loopback = λ e. w.consistent.config.addr.no_loopback (ap (λ n. n / 2 ^ 24) (sym w.here ∙ e));
    not_limited_broadcast = λ e. absurd (omega (arith, addr_high, e));
  }

  is_addr : (x.to.ip == first.config.addr) ≡ true
  is_addr = eq-eqb x.to.ip first.config.addr w.here

  here : Arrival.is_for_us first.config x.to.ip ≡ true
  here =
      ap (λ t. t || (x.to.ip == first.config.bcast) || (x.to.ip == loopback) || (x.to.ip == limited_broadcast)) is_addr

  not_equal : (m n : ℕ) → m ≢ n → (m == n) ≡ false
  not_equal m n apart = go (m == n) refl
    where
      go : (t : Bool) → (m == n) ≡ t → t ≡ false
      go true e = absurd (apart (eqb-true m n e))
      go false e = refl

  alone : Arrival.is_broadcast first.config x.to.ip ≡ false
  alone =
      ap (λ t. t || (x.to.ip == limited_broadcast))
      (not_equal x.to.ip first.config.bcast (λ e. w.consistent.config.apart (sym w.here ∙ e)))
      ∙ not_equal x.to.ip limited_broadcast (λ e. absurd (omega (arith, addr_high, e)))

  some : 0 < length (datagram x)
  some = omega (arith, length-udp x.source x.to.ip x.port x.to.port x.bytes)

  -- ---- a moment of the run at which the datagram isn't complete

  record Moment (done : List Turn) (s : State) (rest : List Turn) : Type 0 where
    turns_are : turns ≡ done ++ rest
    leads : Leads L first done s
    goes_on : Leads L s rest last
    consistent : IsConsistent s
    config : s.config ≡ first.config
    least : AtLeast r b s.counters
    fragments : List Fragment
    are : Each (IsFragmentOf (datagram x) mtu) fragments
    arrived : (p : Part) → Contains (parts x mtu) p → Contains (filter_map packet_in done) (packet_for x p)
        → Any (λ g. g.offset ≡ p.offset) fragments
    unwhole : (n : ℕ) → IsWhole (inserted fragments) n → ⊥
    stored : Stored (key_for x) (ticks_in rest) fragments s.unfinished

  head_is : (p : Part) → Contains (parts x mtu) p → head_of (packet_for x p) ≡ head_for x p
  head_is p is = read_head mtu low x p sendable is

  same_offset : (p q : Part) → Contains (parts x mtu) p → Contains (parts x mtu) q → packet_for x q ≡ packet_for x p
      → p.offset ≡ q.offset
  same_offset p q is_p is_q e =
      ap (λ (h : Head). h.offset) (sym (head_is p is_p)) ∙ ap (λ bytes. (head_of bytes).offset) (sym e)
      ∙ ap (λ (h : Head). h.offset) (head_is q is_q)

  -- at the end nothing is left that could complete it
  finish : (done : List Turn) (s : State) → Moment done s [] → IsCompleted L x first last turns
  finish done s m =
      let order =
      overlay_order_lem (datagram x) mtu m.fragments some low
      (All-from_recursion (IsFragmentOf (datagram x) mtu) m.fragments m.are) in
      absurd (m.unwhole (length (datagram x)) (order.whole.1 (λ p is. m.arrived p is
      (subst (λ ts. Contains (filter_map packet_in ts) (packet_for x p)) (m.turns_are ∙ append-nil done)
      (w.arrive.all p is)))))

  -- ---- one turn

  module _ (done : List Turn) (s mid : State) (event : Event) (reply : Reply) (later : List Turn)
      (m : Moment done s (record { event = event; reply = reply } ∷ later)) (range : IsEvent event)
      (one : StepBy L s event reply mid) (goes_on : Leads L mid later last) where
    abbrev turn : Turn
    turn = record { event = event; reply = reply }

    never : HasMore r b mid.counters → ⊥
    never (inl h) = none_last (inl (at_least_run L (r + 1) b (omega (arith, small_r)) (omega (arith, small_b)) later
        mid last h goes_on))
    never (inr h) = none_last (inr (at_least_run L r (b + 1) (omega (arith, small_r)) (omega (arith, small_b)) later
        mid last h goes_on))

    least : AtLeast r b mid.counters
    least =
        at_least_step L r b (omega (arith, small_r)) (omega (arith, small_b)) event reply s mid m.least one

    turns_are : turns ≡ (done ++ turn ∷ []) ++ later
    turns_are = m.turns_are ∙ sym (append_assoc done (turn ∷ []) later)

    ticks_are : ticks_in (turn ∷ later) ≡ cond (is_tick event) 1 0 + ticks_in later
    ticks_are = count_cons (λ (t : Turn). is_tick t.event) turn later

    came_more : filter_map packet_in (done ++ turn ∷ []) ≡ filter_map packet_in done ++ cons_option (came_in event) []
    came_more = filter_map-append packet_in done (turn ∷ [])

    -- what is known after the turn, with these fragments
    after : mid.config ≡ first.config → (fragments : List Fragment)
        → Each (IsFragmentOf (datagram x) mtu) fragments
        → ((p : Part) → Contains (parts x mtu) p
        → Contains (filter_map packet_in done ++ cons_option (came_in event) []) (packet_for x p)
        → Any (λ g. g.offset ≡ p.offset) fragments)
        → ((n : ℕ) → IsWhole (inserted fragments) n → ⊥) → Stored (key_for x) (ticks_in later) fragments mid.unfinished
        → Moment (done ++ turn ∷ []) mid later
    after config fragments are arrived unwhole stored = record {
      turns_are = turns_are;
      leads = one_more_turn L first s mid done turn m.leads range one;
      goes_on = goes_on;
      consistent = step_is_consistent s mid event reply m.consistent range one;
      config = config;
      least = least;
      fragments = fragments;
      are = are;
      arrived = λ p is came. arrived p is (subst (λ ps. Contains ps (packet_for x p)) came_more came);
      unwhole = unwhole;
      stored = stored;
    }

    -- ---- the turn leaves this key alone

    abbrev Alone : Config → List Unfinished → Counters → Type 0
    Alone cc us c = (cc ≡ first.config) × Stays L (key_for x) (at (key_for x) s.unfinished) r b small_r small_b us c

    start : Alone s.config s.unfinished s.counters
    start = (m.config, (m.least, inl refl))

    alone_closed : IsClosedBy L (λ key. key ≢ key_for x) (λ s. Alone s.config s.unfinished s.counters)
    alone_closed =
        let stays = stays_closed L (key_for x) (at (key_for x) s.unfinished) r b small_r small_b in
        record {
          ended = λ why s h. (h.0, stays.ended why s h.1);
          dropped = λ s h. (h.0, stays.dropped s h.1);
          queued = λ fd d s h. (h.0, stays.queued fd d s h.1);
          begins = λ k s q h. (h.0, stays.begins k s q h.1);
          sets = λ k bytes s q h. (h.0, stays.sets k bytes s q h.1);
          finishes = λ k s q h. (h.0, stays.finishes k s q h.1);
          fragment = λ s h. (h.0, stays.fragment s h.1);
          packet = λ s h. (h.0, stays.packet s h.1);
        }

    -- then what was stored is stored
    left_alone : Alone mid.config mid.unfinished mid.counters → is_tick event ≡ false
        → ((p : Part) → Contains (parts x mtu) p → Contains (cons_option (came_in event) []) (packet_for x p) → ⊥)
        → Moment (done ++ turn ∷ []) mid later
    left_alone (config, (low, inr more)) quiet other = absurd (never more)
    left_alone (config, (low, inl same)) quiet other =
        after config m.fragments m.are
        (λ p is came. go p is (Contains-append_cases (filter_map packet_in done) (cons_option (came_in event) [])
        (packet_for x p) came))
        m.unwhole
        (stored_same (key_for x) (ticks_in later) m.fragments s.unfinished mid.unfinished same
        (stored_less (key_for x) (ticks_in (turn ∷ later)) (ticks_in later) m.fragments s.unfinished
        (omega (arith, ticks_are)) m.stored))
      where
        go : (p : Part) → Contains (parts x mtu) p
            → Contains (filter_map packet_in done) (packet_for x p)
            ⊎ Contains (cons_option (came_in event) []) (packet_for x p)
            → Any (λ g. g.offset ≡ p.offset) m.fragments
        go p is (inl before) = m.arrived p is before
        go p is (inr now) = absurd (other p is now)

    nothing_came : came_in event ≡ None → (p : Part) → Contains (parts x mtu) p
        → Contains (cons_option (came_in event) []) (packet_for x p) → ⊥
    nothing_came none p is came = go (subst (λ o. Contains (cons_option o []) (packet_for x p)) none came)
      where
        go : Contains [] (packet_for x p) → ⊥
        go c = absurd (omega (arith, c.1))

    quietly : came_in event ≡ None → is_tick event ≡ false → IsQuiet L Alone event
        → Moment (done ++ turn ∷ []) mid later
    quietly none calm q =
        left_alone (quiet L Alone event reply s mid q start one) calm (nothing_came none)

  -- ---- what a send loops back has one of this host's addresses as its source

  ours_are : (c : Config) (me : Socket) (ip : ℕ) → ((a : ℕ) → me.local ≡ Some a → is_ours c a ≡ true)
      → is_ours c (source_for c me ip) ≡ true
  ours_are c me ip local = go me.local refl
    where
      either : (a : Bool) → (a || true) ≡ true
      either true = refl
      either false = refl

      default : (t : Bool) → is_ours c (cond t loopback c.addr) ≡ true
      default true = either ((loopback == c.addr) || (loopback == c.bcast))
      default false =
          ap (λ t. t || (c.addr == c.bcast) || (c.addr == loopback)) (eq-eqb c.addr c.addr refl)

      go : (l : Option ℕ) → me.local ≡ l → is_ours c (unwrap_or l (cond (ip == loopback) loopback c.addr)) ≡ true
      go (Some a) e = local a e
      go None e = default (ip == loopback)

  other_source : (done : List Turn) (s : State) (rest : List Turn) → Moment done s rest → (fd : ℕ) (me : Socket)
      → socket_at fd s ≡ Some me → (c : Config) → c ≡ s.config → (y : Sending) (ip : ℕ)
      → y.source ≡ source_for c me ip → (p : Part) → Arrival.key_of (head_of (packet_for y p)) ≢ key_for x
  other_source done s rest m fd me found c same y ip source p e =
      let found_is = each-find (IsSocket s.config) (λ socket. socket.fd == fd) s.sockets me m.consistent.sockets
      found in
      let ours : is_ours c (source_for c me ip) ≡ true =
      ours_are c me ip (λ a local. subst (λ (d : Config). is_ours d a ≡ true) (sym same) (found_is.0.local a local)) in
      let from : source_for c me ip ≡ x.source =
      sym source ∙ sym (source_read (head_for y p) (bytes_of_part (datagram y) p)) ∙ ap (λ (k : Key). k.source) e in
      absurd (false_true (sym w.other ∙ ap (λ (d : Config). is_ours d x.source) (sym (same ∙ m.config))
      ∙ ap (is_ours c) (sym from) ∙ ours))

  -- ---- a packet arrives

  module _ (done : List Turn) (s mid : State) (packet : List ℕ) (reply : Reply) (later : List Turn)
      (m : Moment done s (record { event = Comes packet; reply = reply } ∷ later)) (range : IsEvent (Comes packet))
      (one : StepBy L s (Comes packet) reply mid) (goes_on : Leads L mid later last) where
    abbrev turn_of : Turn
    turn_of = record { event = Comes packet; reply = reply }

    abbrev Goal : Type 0
    Goal = IsCompleted L x first last turns ⊎ Moment (done ++ turn_of ∷ []) mid later

    only_packet : (q : List ℕ) → Contains (packet ∷ []) q → packet ≡ q
    only_packet q (zero, l, e) = e
    only_packet q (suc k, l, e) = absurd (omega (arith, l))

    among : Contains (filter_map packet_in turns) packet
    among =
        subst (λ ts. Contains (filter_map packet_in ts) packet) (sym m.turns_are)
        (subst (λ ps. Contains ps packet) (sym (filter_map-append packet_in done (turn_of ∷ later)))
        (Contains-append_right (filter_map packet_in done) (packet ∷ filter_map packet_in later) packet
        (All-head (Contains (packet ∷ filter_map packet_in later)) packet (filter_map packet_in later)
        (All-contains_itself (packet ∷ filter_map packet_in later)))))

    frag_of : (p : Part) → Contains (parts x mtu) p → IsFrag p
    frag_of p is = parts_are_fragments (length (datagram x)) mtu p low w.cut is

    key_is : (p : Part) → Contains (parts x mtu) p → packet ≡ packet_for x p
        → Arrival.key_of (head_of packet) ≡ key_for x
    key_is p is e = ap Arrival.key_of (ap head_of e ∙ head_is p is)

    part_is : (p : Part) → Contains (parts x mtu) p → packet ≡ packet_for x p
        → Arrival.is_fragment (head_of packet) ≡ true
    part_is p is e = ap Arrival.is_fragment (ap head_of e ∙ head_is p is) ∙ frag_written p (frag_of p is)

    other_packet : (Arrival.key_of (head_of packet) ≡ key_for x → Arrival.is_fragment (head_of packet) ≡ true → ⊥)
        → Goal
    other_packet apart =
        inr (left_alone done s mid (Comes packet) reply later m range one goes_on
        (Walk.comes L (λ key. key ≢ key_for x) (Alone done s mid (Comes packet) reply later m range one goes_on)
        (alone_closed done s mid (Comes packet) reply later m range one goes_on) packet reply s mid
        (λ fine part e. apart e part) (start done s mid (Comes packet) reply later m range one goes_on) one) refl
        (λ p is came. let e = only_packet (packet_for x p) came in apart (key_is p is e) (part_is p is e)))

    this_packet : (p : Part) → Contains (parts x mtu) p → packet ≡ packet_for x p → Goal
    this_packet p is e = go (Completing.part_comes L x mtu sendable low r b small_r small_b (ticks_in later) soon s mid
        (subst (λ (c : Config). Arrival.is_for_us c x.to.ip ≡ true) (sym m.config) here)
        (subst (λ (c : Config). Arrival.is_broadcast c x.to.ip ≡ false) (sym m.config) alone)
        (never done s mid (Comes packet) reply later m range one goes_on) m.fragments m.are m.unwhole p is
        (frag_of p is)
        reply m.least
        (stored_less (key_for x) (ticks_in (turn_of ∷ later)) (ticks_in later) m.fragments s.unfinished
        (omega (arith, ticks_are done s mid (Comes packet) reply later m range one goes_on)) m.stored)
        (subst (λ bytes. StepBy L s (Comes bytes) reply mid) e one))
      where
        soon : ticks_in later < FRAGMENT_TICKS
        soon = omega (
          arith,
          w.soon,
          ap ticks_in m.turns_are,
          count-append (λ (t : Turn). is_tick t.event) done (turn_of ∷ later),
          ticks_are done s mid (Comes packet) reply later m range one goes_on,
        )

        config : mid.config ≡ first.config
        config =
            (Walk.comes L (λ key. ⊤) (λ cc us c. cc ≡ first.config) (record {
              ended = λ why s h. h;
              dropped = λ s h. h;
              queued = λ fd d s h. h;
              begins = λ k s q h. h;
              sets = λ k bytes s q h. h;
              finishes = λ k s q h. h;
              fragment = λ s h. h;
              packet = λ s h. h;
            }) packet reply s mid (λ f g. tt) m.config one)

        go : IsPlaced x s mid (matching x s)
            ⊎ Completing.Arrived L x mtu sendable low r b small_r small_b (ticks_in later) soon s mid
            (subst (λ (c : Config). Arrival.is_for_us c x.to.ip ≡ true) (sym m.config) here)
            (subst (λ (c : Config). Arrival.is_broadcast c x.to.ip ≡ false) (sym m.config) alone)
            (never done s mid (Comes packet) reply later m range one goes_on) m.fragments p mid.unfinished → Goal
        go (inl placed) = inl (record {
          before = done;
          turn = turn_of;
          after = later;
          turns_are = m.turns_are;
          old = s;
          new = mid;
          leads = m.leads;
          step = one;
          goes_on = goes_on;
          placed = placed;
        })
        go (inr a) = inr (after done s mid (Comes packet) reply later m range one goes_on config a.fragments a.are
            (λ q is_q came. arrived q is_q (Contains-append_cases (filter_map packet_in done) (packet ∷ [])
            (packet_for x q) came))
            a.unwhole a.stored)
          where
            arrived : (q : Part) → Contains (parts x mtu) q
                → Contains (filter_map packet_in done) (packet_for x q) ⊎ Contains (packet ∷ []) (packet_for x q)
                → Any (λ g. g.offset ≡ q.offset) a.fragments
            arrived q is_q (inl before) = a.still q.offset (m.arrived q is_q before)
            arrived q is_q (inr now) =
                subst (λ offset. Any (λ g. g.offset ≡ offset) a.fragments)
                (same_offset p q is is_q (sym (only_packet (packet_for x q) now) ∙ e)) a.has

    comes : Goal
    comes = go (is_key (key_for x) (begun (Arrival.key_of (head_of packet)))) (Arrival.is_fragment (head_of packet))
        refl
        refl
      where
        key : Key
        key = Arrival.key_of (head_of packet)

        go : (a f : Bool) → is_key (key_for x) (begun (Arrival.key_of (head_of packet))) ≡ a
            → Arrival.is_fragment (head_of packet) ≡ f → Goal
        go true true is part =
            let is_key_of : Arrival.key_of (head_of packet) ≡ key_for x =
            (whole_key (key_for x) (begun (Arrival.key_of (head_of packet)))).0 is in
            let p = w.arrive.unforged packet among is_key_of part in
            this_packet p.0 p.1 p.2
        go true false is part = other_packet (λ e f. false_true (sym part ∙ f))
        go false f is part = other_packet (λ e g. false_true (sym is
            ∙ (whole_key (key_for x) (begun (Arrival.key_of (head_of packet)))).1 e))

  -- ---- every turn

  turn_by_turn : (done : List Turn) (s : State) (event : Event) (reply : Reply) (later : List Turn)
      (m : Moment done s (record { event = event; reply = reply } ∷ later)) (range : IsEvent event) (mid : State)
      (one : StepBy L s event reply mid) (goes_on : Leads L mid later last)
      → IsCompleted L x first last turns ⊎ Moment (done ++ record { event = event; reply = reply } ∷ []) mid later
  turn_by_turn done s (Comes packet) reply later m range mid one goes_on =
      comes done s mid packet reply later m range one goes_on
  turn_by_turn done s (Send fd to bytes) reply later m range mid one goes_on =
      inr (left_alone done s mid (Send fd to bytes) reply later m range one goes_on
      (Walk.sends L (λ key. key ≢ key_for x) (Alone done s mid (Send fd to bytes) reply later m range one goes_on)
      (alone_closed done s mid (Send fd to bytes) reply later m range one goes_on) fd to bytes reply s mid
      (record {
        counts = λ cc us c h. (
          h.0,
          counts us (counts_more IpLocalout 1)
              (λ m n c a. record { reclaimed = a.reclaimed; nobufs = a.nobufs }) c h.1,
        );
        cuts = λ cc us c h. (
          h.0,
          counts us (counts_more IpFragmented 1)
              (λ m n c a. record { reclaimed = a.reclaimed; nobufs = a.nobufs }) c h.1,
        );
        drops = λ cc us c h. (
          h.0,
          counts us (counts_more OutDropped 1)
              (λ m n c a. record { reclaimed = a.reclaimed; nobufs = a.nobufs }) c h.1,
        );
      })
      (λ me found c same y ip source p. other_source done s _ m fd me found c same y ip source p)
      (start done s mid (Send fd to bytes) reply later m range one goes_on) one) refl
      (nothing_came done s mid (Send fd to bytes) reply later m range one goes_on refl))
    where
      counts : (us : List Unfinished) (f : Counters → Counters)
          → ((i j : ℕ) (c : Counters) → AtLeast i j c → AtLeast i j (f c)) → (c : Counters)
          → Stays L (key_for x) (at (key_for x) s.unfinished) r b small_r small_b us c
          → Stays L (key_for x) (at (key_for x) s.unfinished) r b small_r small_b us (f c)
      counts us f keeps c (low, inl e) = (keeps r b c low, inl e)
      counts us f keeps c (low, inr (inl h)) = (keeps r b c low, inr (inl (keeps (r + 1) b c h)))
      counts us f keeps c (low, inr (inr h)) = (keeps r b c low, inr (inr (keeps r (b + 1) c h)))
  turn_by_turn done s Tick reply later m range mid one goes_on =
      inr (after done s mid Tick reply later m range one goes_on
      (ap (λ (t : State). t.config) one.1 ∙ m.config) m.fragments m.are
      (λ p is came. m.arrived p is
      (subst (λ ps. Contains ps (packet_for x p)) (append-nil (filter_map packet_in done)) came))
      m.unwhole
      (subst (λ (t : State). Stored (key_for x) (ticks_in later) m.fragments t.unfinished) (sym one.1)
      (stored_ticked (key_for x) (ticks_in later) m.fragments s.unfinished
      (stored_less (key_for x) _ (ticks_in later + 1) m.fragments s.unfinished
      (omega (arith, ticks_are done s mid Tick reply later m range one goes_on)) m.stored))))
  turn_by_turn done s Open reply later m range mid one goes_on =
      inr (quietly done s mid Open reply later m range one goes_on refl refl tt)
  turn_by_turn done s (Bind fd a) reply later m range mid one goes_on =
      inr (quietly done s mid (Bind fd a) reply later m range one goes_on refl refl tt)
  turn_by_turn done s (Connect fd a) reply later m range mid one goes_on =
      inr (quietly done s mid (Connect fd a) reply later m range one goes_on refl refl tt)
  turn_by_turn done s (Receive fd most) reply later m range mid one goes_on =
      inr (quietly done s mid (Receive fd most) reply later m range one goes_on refl refl tt)
  turn_by_turn done s (Close fd) reply later m range mid one goes_on =
      inr (quietly done s mid (Close fd) reply later m range one goes_on refl refl tt)
  turn_by_turn done s (Set_option fd option on) reply later m range mid one goes_on =
      inr (quietly done s mid (Set_option fd option on) reply later m range one goes_on refl refl tt)
  turn_by_turn done s (Set_limit fd limit) reply later m range mid one goes_on =
      inr (quietly done s mid (Set_limit fd limit) reply later m range one goes_on refl refl tt)
  turn_by_turn done s Transmit reply later m range mid one goes_on =
      inr (quietly done s mid Transmit reply later m range one goes_on refl refl tt)
  turn_by_turn done s Ask_counters reply later m range mid one goes_on =
      inr (quietly done s mid Ask_counters reply later m range one goes_on refl refl tt)
  turn_by_turn done s Ask_usage reply later m range mid one goes_on =
      inr (quietly done s mid Ask_usage reply later m range one goes_on refl refl tt)

  on : {A B : Type 0} → A ⊎ B → (B → A) → A
  on (inl a) f = a
  on (inr b) f = f b

  run : (done : List Turn) (s : State) (rest : List Turn) → Leads L s rest last → Moment done s rest
      → IsCompleted L x first last turns
  run done s [] leads m = finish done s m
  run done s (turn ∷ rest) (range, mid, one, later) m =
      on (turn_by_turn done s turn.event turn.reply rest m range mid one later)
      (λ next. run (done ++ turn ∷ []) mid rest later next)

  pub completed : IsCompleted L x first last turns
  completed = run [] first turns w.leads (record {
    turns_are = refl;
    leads = refl;
    goes_on = w.leads;
    consistent = w.consistent;
    config = refl;
    least = record { reclaimed = omega arith; nobufs = omega arith };
    fragments = [];
    are = tt;
    arrived = λ p is came. absurd (omega (arith, came.1));
    unwhole = nothing_whole;
    stored = w.fresh;
  })

pub progress_law_lem : ProgressLaw
progress_law_lem x mtu old new turns w = completed x mtu old new turns w
