-- Sends, arrivals and the clock keep the invariant of the state, and so does every step.
use Rattle.std.proofs.Common.{◌≡◌, ℕ, zero, suc, ◌+◌, ◌-◌, ◌*◌, ◌/◌, ◌^◌, ◌<◌, ◌≤◌, Bool, true, false, List, [], ◌∷◌, ◌++◌, length, map, take, drop, refl, sym, ◌∙◌, ap, subst, eq-eqb, arith, Option, Some, None, cond, ◌⊎◌, inl, inr}
use Rattle.std.specs.Prelude.{◌==◌, ◌&&◌, ◌||◌, not, nat_lt, count_by, sum_by, filter, is_none}
use Rattle.std.specs.List.{AllByRecursion as Each}
use Rattle.std.proofs.lemmas.Bool.{eqb-true, ltb-true, ltb-false, or_cases}
use Rattle.std.proofs.lemmas.Option.{none-some, same_Some}
use Rattle.std.proofs.lemmas.List.{length-take}
use Rattle.std.proofs.lemmas.List.Elements.{recursion_from_All}
use Rattle.params.specs.declared.TheConstants.{OUTPUT_QUEUE_PACKETS}
use Rattle.flat_model.specs.Amounts.Weight.{Weight, Item, all_of, nothing}
use Rattle.flat_model.specs.Fragments.Cuts.{Part, cuts}
use Rattle.flat_model.specs.Amounts.Layout.{Need, Room, is_cluster, sent, wire, entries_on, weight_of, need, need_bcast, need_of, need_of_part}
use Rattle.flat_model.specs.Machine.Event.{Event, Reply, IsEvent, Open, Bind, Connect, Send, Receive, Close, Set_option, Set_limit, Comes, Transmit, Tick, Ask_counters, Ask_usage}
use Rattle.flat_model.specs.Machine.State.{IsConfig, State, Socket, Datagram, Unfinished, boot, loopback, socket_at, is_key, ends}
use Rattle.flat_model.specs.Amounts.Choice.{Choice}
use Rattle.flat_model.specs.Packets.Header.{first_fault}
use Rattle.flat_model.specs.declared.errno.Errno.{Errno}
use Rattle.flat_model.specs.declared.errno.Errno.TheVariants.{NoBufs, DestinationRequired, MessageSize, Access}
use Rattle.flat_model.specs.declared.errno.Lack.TheVariants.{Pool}
use Rattle.flat_model.specs.Machine.Calls.{Refuses, OnSocket, is_ours, source_for}
use Rattle.flat_model.specs.Machine.Ledger.{AreTaken, HasBuffers, weight_of_state, exact_ledger}
use Rattle.flat_model.specs.Machine.Sending.{Sending, datagram, packet_for, head_for, packets, items, parts_of, is_looped, mtu_to}
use Rattle.flat_model.specs.Machine.Send as Send
use Rattle.flat_model.specs.Machine.Send.{need_to, to_link, to_self, enqueued, counts_send, spent, send_faults, address_faults, target}
use Rattle.flat_model.specs.Machine.Arrival as Arrival
use Rattle.flat_model.specs.Machine.Arrival.{By_wire, AllArrive}
use Rattle.flat_model.specs.declared.counters.Why.TheVariants as Whys
use Rattle.flat_model.specs.Machine.Step.{ticked, Transmits, ComesIn, Step}
use Rattle.flat_model.specs.Runs.Run.{Turn, Leads}
use Rattle.flat_model.specs.Runs.Consistent.{Carries, IsQueued, IsSocket, IsWaiting, IsOutput, IsMap, IsConsistent}
use Rattle.flat_model.specs.declared.address.Addr.{Addr}
use Rattle.flat_model.specs.declared.config.Config.{Config}
use Rattle.flat_model.proofs.Lists.Each.{by_case, each-append, each-take, none_passed}
use Rattle.flat_model.proofs.Packets.Sizes.{length-udp}
use Rattle.flat_model.proofs.Fragments.Grid.{cuts_short}
use Rattle.flat_model.proofs.Fragments.Overlaid.{pieces_bag}
use Rattle.flat_model.proofs.Machine.Placed.{ItemFits, parts_fit, items_fit, items_mbufs, length-packet, placed_mbufs, placed_carries, wire_is, wire_some}
use Rattle.flat_model.proofs.Machine.Kept.{Good, with_parts, less_held, good_has_buffers, good_lacks, good_ends, good_arrives, good_all_arrive, weight_of_socket, weight_of_unfinished, weight_of_item}
use Rattle.flat_model.proofs.Machine.KeptLists.{count-map, count-filter, mbufs-append, mbufs-filter, mbufs-map}
use Rattle.flat_model.proofs.Machine.KeptCalls as KeptCalls
use Rattle.flat_model.proofs.Machine.KeptCalls.{IsPort}

mbufs-take : (n : ℕ) (xs : List Item) → (all_of weight_of_item (take n xs)).mbufs ≤ (all_of weight_of_item xs).mbufs
mbufs-take zero xs = omega arith
mbufs-take (suc n) [] = omega arith
mbufs-take (suc n) (x ∷ xs) = let rest = mbufs-take n xs in omega arith

each_with : {X : Type 0} {P Q : X → Type 0} (p : X → Bool) → ((x : X) → P x → p x ≡ true → Q x) → (xs : List X)
    → Each P xs → Each Q (filter p xs)
each_with p f [] h = tt
each_with {X = X} {P = P} {Q = Q} p f (x ∷ xs) h = go (p x) refl (each_with p f xs h.1)
  where
    go : (b : Bool) → p x ≡ b → Each Q (filter p xs) → Each Q (cond b (x ∷ filter p xs) (filter p xs))
    go true e rest = (f x h.0 e, rest)
    go false e rest = rest

or_from_left : (a b : Bool) → a ≡ true → (a || b) ≡ true
or_from_left true b e = refl
or_from_left false b e = sym (absurd (never e))
  where
    never : false ≡ true → ⊥
    never e = cc

or_from_right : (a b : Bool) → b ≡ true → (a || b) ≡ true
or_from_right true b e = refl
or_from_right false b e = e

module _ (c : Config) (boots : IsConfig c) where
  host : is_ours c c.addr ≡ true
  host =
      or_from_left ((c.addr == c.addr) || (c.addr == c.bcast)) _
      (or_from_left (c.addr == c.addr) _ (eq-eqb c.addr c.addr refl))

  lo : is_ours c loopback ≡ true
  lo = or_from_right ((loopback == c.addr) || (loopback == c.bcast)) _ (eq-eqb loopback loopback refl)

  -- ---- sends

  -- the broadcast address is on the link
  apart : (ip : ℕ) → is_looped c ip ≡ true → (ip == c.bcast) ≡ true → ⊥
  apart ip l b = go (or_cases (ip == c.addr) _ l)
    where
      same : ip ≡ c.bcast
      same = eqb-true ip c.bcast b

      go : ((ip == c.addr) ≡ true) ⊎ ((ip == loopback) ≡ true) → ⊥
      go (inl h) = boots.apart (sym (eqb-true ip c.addr h) ∙ same)
      go (inr h) = boots.bcast.no_loopback (ap (λ n. n / 2 ^ 24) (sym same ∙ eqb-true ip loopback h))

  module _ (fd : ℕ) (x : Sending) (clusters : List ℕ) (s : State) where
    -- the state after the port is recorded and the identification is used up
    good_spent : (h : ℕ) → Good c h s → IsPort c host lo x.port → Good c h (spent fd x.port (parts_of s.config x) s)
    good_spent h good port =
        KeptCalls.renames c host lo h fd (λ socket. record socket { port = Some x.port })
        (counts_send (parts_of s.config x) s)
        (with_parts good good.sockets good.unfinished good.output
        (record { last_port = good.numbers.last_port; next_id = omega arith }) good.mbufs)
        (λ socket g. record {
          least_fd = g.least_fd;
          greatest_fd = g.greatest_fd;
          local = g.local;
          port = λ p e. let same : x.port ≡ p = same_Some x.port p e in
              (omega (arith, port.some), omega (arith, port.small));
          peer = g.peer;
          unbound = λ e. absurd (none-some x.port (sym e));
          queue = g.queue;
          limit = g.limit;
          queued_bytes = g.queued_bytes;
          queued = g.queued;
        })
        (λ socket. refl) (λ socket. refl)

  -- packets are appended to the output queue, up to fifty
  good_enqueued : (h : ℕ) (out : List Item) (s : State) → Good c (h + (all_of weight_of_item out).mbufs) s
      → Each (ItemFits c c.mtu) out → Good c h (enqueued out s)
  good_enqueued h out s good fits = with_parts good good.sockets good.unfinished (record {
    each =
        each-take (IsOutput c) OUTPUT_QUEUE_PACKETS (s.output ++ out)
        (each-append (IsOutput c) s.output out good.output.each (each out fits));
    short = omega (arith, length-take OUTPUT_QUEUE_PACKETS (s.output ++ out));
  }) good.numbers
      (let le = mbufs-take OUTPUT_QUEUE_PACKETS (s.output ++ out) in
      let app = mbufs-append weight_of_item s.output out in omega (arith, good.mbufs))
    where
      each : (xs : List Item) → Each (ItemFits c c.mtu) xs → Each (IsOutput c) xs
      each [] h = tt
      each (y ∷ ys) h = (record { carries = h.0.carries; fits = h.0.fits }, each ys h.1)

  all_carry : (mtu : ℕ) (xs : List Item) → Each (ItemFits c mtu) xs
      → Each (λ (item : Item). Carries c item.weight (length item.bytes)) xs
  all_carry mtu [] h = tt
  all_carry mtu (x ∷ xs) h = (h.0.carries, all_carry mtu xs h.1)

  -- the packets are queued or come back; `s` is the state before the port is recorded, which holds what the send needs
  leaves : (x : Sending) (fd : ℕ) (s new : State) (out : List Item) (parts : List Part) → IsPort c host lo x.port
      → ((x.to.ip == c.bcast) ≡ true → length x.bytes + 28 ≤ c.mtu)
      → (l b : Bool) → is_looped c x.to.ip ≡ l → (x.to.ip == c.bcast) ≡ b
      → Good c (cond b (need_bcast (length x.bytes)) (need (length x.bytes) (cond l 1536 c.mtu))).mbufs s
      → Each (ItemFits c (cond l 1536 c.mtu)) out
      → (all_of weight_of_item out).mbufs
      ≤ length (sent (length x.bytes))
      + sum_by (need_of_part (sent (length x.bytes))) (drop 1 (cuts (length x.bytes + 8) (cond l 1536 c.mtu)))
      → AllArrive exact_ledger (cond (l || b) out [])
      (enqueued (cond l [] out) (spent fd x.port (parts_of s.config x) s)) new → Good c 0 new
  leaves x fd s new out parts port short true true el eb good fits few h = absurd (apart x.to.ip el eb)
  leaves x fd s new out parts port short true false el eb good fits few h =
      let at =
      good_spent fd x [] s (all_of weight_of_item out).mbufs
      (less_held c (all_of weight_of_item out).mbufs (need (length x.bytes) 1536).mbufs s few good) port in
      let after : State = spent fd x.port (parts_of s.config x) s in
      good_all_arrive c out _ new (good_enqueued (all_of weight_of_item out).mbufs [] after
      (less_held c ((all_of weight_of_item out).mbufs + 0) (all_of weight_of_item out).mbufs after (omega arith) at)
      tt) (all_carry 1536 out fits) h
  leaves x fd s new out parts port short false true el eb good fits few h =
      let at =
      good_spent fd x [] s ((all_of weight_of_item out).mbufs + (all_of weight_of_item out).mbufs)
      (less_held c ((all_of weight_of_item out).mbufs + (all_of weight_of_item out).mbufs)
      (need_bcast (length x.bytes)).mbufs s twice good) port in
      good_all_arrive c out _ new
      (good_enqueued (all_of weight_of_item out).mbufs out (spent fd x.port (parts_of s.config x) s) at fits)
      (all_carry c.mtu out fits) h
    where
      one : sum_by (need_of_part (sent (length x.bytes))) (drop 1 (cuts (length x.bytes + 8) c.mtu)) ≡ 0
      one =
          ap (λ ps. sum_by (need_of_part (sent (length x.bytes))) (drop 1 ps))
          (cuts_short (length x.bytes + 8) c.mtu (let le = short eb in omega arith))

      twice : (all_of weight_of_item out).mbufs + (all_of weight_of_item out).mbufs ≤ 2 * length (sent (length x.bytes))
      twice = omega (arith, few, one)
  leaves x fd s new out parts port short false false el eb good fits few h =
      let at =
      good_spent fd x [] s (0 + (all_of weight_of_item out).mbufs)
      (less_held c (0 + (all_of weight_of_item out).mbufs) (need (length x.bytes) c.mtu).mbufs s
      (omega (arith, few)) good) port in
      good_all_arrive c [] _ new (good_enqueued 0 out (spent fd x.port (parts_of s.config x) s) at fits) tt h

  -- the clusters that were taken exist
  exist : (s : State) (n : ℕ) (clusters : List ℕ) → s.config ≡ c → AreTaken exact_ledger s n clusters
      → Each (λ k. k < c.clusters) clusters
  exist s n clusters e t =
      subst (λ (cc : Config). Each (λ k. k < cc.clusters) clusters) e
      (recursion_from_All (λ k. k < s.config.clusters) clusters (λ k d h. (t.free k d h).exists))

  -- the packets of a send have room for their bytes, and weigh no more than the send reserved
  module _ (x : Sending) (clusters : List ℕ) (mtu : ℕ) (low : 28 ≤ mtu)
      (number : length clusters ≡ count_by is_cluster (sent (length x.bytes)))
      (there : Each (λ k. k < c.clusters) clusters) where
    size_of_datagram : length (datagram x) ≡ length x.bytes + 8
    size_of_datagram = let e = length-udp x.source x.to.ip x.port x.to.port x.bytes in omega arith

    sizes : (p : Part) → length (packet_for x p) ≤ 20 + p.size
    sizes p =
        let all = length-packet (head_for x p) (take p.size (drop p.offset (datagram x))) in
        let some = length-take p.size (drop p.offset (datagram x)) in
        omega arith

    packets_fit : Each (ItemFits c mtu)
        (items (entries_on clusters (sent (length x.bytes))) (packet_for x) (cuts (length (datagram x)) mtu))
    packets_fit =
        subst (λ m. Each (ItemFits c mtu)
        (items (entries_on clusters (sent (length x.bytes))) (packet_for x) (cuts m mtu)))
        (sym size_of_datagram)
        (items_fit c clusters (length x.bytes) mtu number there (packet_for x) sizes (cuts (length x.bytes + 8) mtu)
        (parts_fit (length x.bytes + 8) mtu low))

    packets_few : (all_of weight_of_item
        (items (entries_on clusters (sent (length x.bytes))) (packet_for x) (cuts (length (datagram x)) mtu))).mbufs
        ≤ length (sent (length x.bytes))
        + sum_by (need_of_part (sent (length x.bytes))) (drop 1 (cuts (length x.bytes + 8) mtu))
    packets_few = subst
        (λ m. (all_of weight_of_item (items (entries_on clusters (sent (length x.bytes))) (packet_for x)
        (cuts m mtu))).mbufs ≤ length (sent (length x.bytes)) + sum_by (need_of_part (sent
        (length x.bytes))) (drop 1 (cuts (length x.bytes + 8) mtu)))
        (sym size_of_datagram)
        (items_mbufs c clusters (length x.bytes) mtu number there (packet_for x) sizes (cuts (length x.bytes + 8) mtu))

  goes : (fd : ℕ) (me : Socket) (to : Addr) (bytes : List ℕ) (old new : State) (reply : Reply) → IsSocket c me
      → Good c (need_to c to.ip (length bytes)).mbufs old
      → ((to.ip == c.bcast) ≡ true → length bytes + 28 ≤ c.mtu) → Send.Goes exact_ledger fd me to bytes old reply new
      → Good c 0 new
  goes fd me to bytes old new reply is good short (port, named, clusters, g, taken, rest) =
      let got =
      KeptCalls.gets c host lo (need_to c to.ip (length bytes)).mbufs old named me.local me.port port good
      (KeptCalls.asked_port c host lo me is) g in
      let x : Sending =
      record { id = old.next_id; source = source_for old.config me to.ip; to = to; port = port; bytes = bytes } in
      let at : AllArrive exact_ledger (to_self c to.ip (packets c clusters x))
      (enqueued (to_link c to.ip (packets c clusters x)) (spent fd port (parts_of named.config x) named)) new =
      subst (λ cc. AllArrive exact_ledger (to_self cc to.ip (packets cc clusters x))
      (enqueued (to_link cc to.ip (packets cc clusters x)) (spent fd port (parts_of named.config x) named))
      new) got.0.config rest.0 in
      let number : length clusters ≡ count_by is_cluster (sent (length bytes)) =
      taken.number ∙ clusters_of old.config (to.ip == old.config.bcast) in
      let there = exist old (need_to old.config to.ip (length bytes)).clusters clusters good.config taken in
      let low : 28 ≤ mtu_to c to.ip = low_mtu (is_looped c to.ip) in
      leaves x fd named new (packets c clusters x) [] got.1 short (is_looped c to.ip) (to.ip == c.bcast) refl refl got.0
      (packets_fit x clusters (mtu_to c to.ip) low number there)
      (packets_few x clusters (mtu_to c to.ip) low number there) at
    where
      clusters_of : (cc : Config) (b : Bool)
          → (cond {A = Need} b (need_bcast (length bytes)) (need (length bytes) (mtu_to cc to.ip))).clusters
          ≡ count_by is_cluster (sent (length bytes))
      clusters_of cc true = refl
      clusters_of cc false = refl

      low_mtu : (b : Bool) → 28 ≤ cond b 1536 c.mtu
      low_mtu true = omega arith
      low_mtu false = omega (arith, boots.least_mtu)

  sends : (fd : ℕ) (to : Option Addr) (bytes : List ℕ) (me : Socket) (old new : State) (reply : Reply) → Good c 0 old
      → IsSocket c me → Send.Sends exact_ledger fd to bytes me old reply new → Good c 0 new
  sends fd to bytes me old new reply good is h = by_case h
      (λ e (answer, mid, a, r). go answer mid e a r)
      (λ errno e r. KeptCalls.refused c host lo old new errno reply good r)
    where
      goes_to : Addr
      goes_to = target old me to

      last : (xs : List (Bool × Errno)) (p q : Bool × Errno)
          → Each {X = Bool × Errno} (λ test. test.0 ≡ false) (xs ++ p ∷ q ∷ []) → q.0 ≡ false
      last [] p q h = h.1.0
      last (x ∷ xs) p q h = last xs p q h.1

      short : first_fault (send_faults old me to (length bytes)) ≡ None → ((target old me to).ip == c.bcast) ≡ true
          → length bytes + 28 ≤ c.mtu
      short e t =
          let passed = none_passed (send_faults old me to (length bytes)) e in
          let here : ((target old me to).ip == old.config.bcast) ≡ true =
          subst (λ (cc : Config). ((target old me to).ip == cc.bcast) ≡ true) (sym good.config) t in
          let to_all : Bool = (target old me to).ip == old.config.bcast in
          let off =
          last ((is_none to && is_none me.peer, DestinationRequired) ∷ (nat_lt 9216 (length bytes), MessageSize) ∷ []
          ++ address_faults old me to)
          (to_all && not me.broadcast, Access) (to_all && nat_lt old.config.mtu (length bytes + 28), MessageSize) passed
          in
          subst (λ (cc : Config). length bytes + 28 ≤ cc.mtu) good.config
          (ltb-false old.config.mtu (length bytes + 28) (second _ _ here off))
        where
          second : (p q : Bool) → p ≡ true → (p && q) ≡ false → q ≡ false
          second true q e f = f
          second false q e f = absurd (never e)
            where
              never : false ≡ true → ⊥
              never e = cc

      go : (answer : Bool) (mid : State) → first_fault (send_faults old me to (length bytes)) ≡ None
          → HasBuffers exact_ledger old nothing (need_to old.config (target old me to).ip (length bytes)) answer mid
          → Choice answer (Send.Goes exact_ledger fd me (target old me to) bytes mid reply new)
          (Refuses (NoBufs Pool) mid reply new) → Good c 0 new
      go true mid e a r =
          let at =
          good_has_buffers c old mid nothing (need_to old.config (target old me to).ip (length bytes)) good a in
          let enough : Good c (need_to c (target old me to).ip (length bytes)).mbufs mid =
          less_held c _ _ mid (let same : (need_to old.config (target old me to).ip (length bytes)).mbufs
          ≡ (need_to c (target old me to).ip (length bytes)).mbufs =
          ap (λ (cc : Config). (need_to cc (target old me to).ip (length bytes)).mbufs) good.config in
          omega arith) at.0 in
          goes fd me (target old me to) bytes mid new reply is enough (short e) (r.yes refl)
      go false mid e a r =
          KeptCalls.refused c host lo mid new (NoBufs Pool) reply (good_lacks c old mid nothing _ good a) (r.no refl)

  -- ---- the other events

  comes_in : (packet : List ℕ) (old new : State) → Good c 0 old → ComesIn exact_ledger packet old new → Good c 0 new
  comes_in packet old new good (answer, mid, a, h) = go answer mid a h
    where
      rooms : List Room
      rooms = wire (length packet)

      go : (answer : Bool) (mid : State)
          → HasBuffers exact_ledger old nothing (need_of (wire (length packet))) answer mid
          → Choice answer
          ((clusters : List ℕ) × AreTaken exact_ledger mid (need_of (wire (length packet))).clusters clusters
          × Arrival.Arrives exact_ledger (By_wire (length packet)) nothing
          (record { bytes = packet; weight = weight_of (entries_on clusters (wire (length packet))) }) mid new)
          (new ≡ ends Whys.NoBufs mid) → Good c 0 new
      go true mid a r =
          let taken = r.yes refl in
          let at = good_has_buffers c old mid nothing (need_of (wire (length packet))) good a in
          let size = placed_mbufs taken.0 (wire (length packet)) in
          good_arrives c (By_wire (length packet)) nothing
          (record { bytes = packet; weight = weight_of (entries_on taken.0 (wire (length packet))) }) mid new
          (less_held c (0 + length (entries_on taken.0 (wire (length packet)))) (0 + length (wire (length packet))) mid
          (omega arith) at.0)
          (placed_carries c taken.0 (wire (length packet)) (length packet) (wire_is (length packet))
          (wire_some (length packet)) taken.1.number (exist mid _ taken.0 at.0.config taken.1)) taken.2
      go false mid a r =
          good_ends c 0 0 mid new Whys.NoBufs (omega arith)
          (good_lacks c old mid nothing (need_of (wire (length packet))) good a) (r.no refl)

  ticks : (old : State) → Good c 0 old → Good c 0 (ticked old)
  ticks old good = with_parts good good.sockets (record {
    each =
        each_with (λ (u : Unfinished). nat_lt 0 u.ticks) waits (map older old.unfinished)
        (each_older old.unfinished good.unfinished.each);
    keys = λ k.
        let fewer = count-filter (is_key k) (λ (u : Unfinished). nat_lt 0 u.ticks) (map older old.unfinished) in
        let same = count-map (is_key k) older (λ u. refl) old.unfinished in
        omega (arith, good.unfinished.keys k);
  }) good.output good.numbers
      (let fewer =
      mbufs-filter weight_of_unfinished (λ (u : Unfinished). nat_lt 0 u.ticks) (map older old.unfinished) in
      let same = mbufs-map weight_of_unfinished older (λ u. refl) old.unfinished in
      omega (arith, good.mbufs))
    where
      older : Unfinished → Unfinished
      older u = record u { ticks = u.ticks - 1 }

      each_older : (us : List Unfinished) → Each (IsWaiting c) us
          → Each {X = Unfinished} (λ u. (u.ticks ≤ 60) × IsMap c u.bytes)
          (map (λ (u : Unfinished). record u { ticks = u.ticks - 1 }) us)
      each_older [] h = tt
      each_older (u ∷ us) h = ((omega (arith, h.0.ticks), h.0.bytes), each_older us h.1)

      waits : (u : Unfinished) → (u.ticks ≤ 60) × IsMap c u.bytes → nat_lt 0 u.ticks ≡ true → IsWaiting c u
      waits u h e = record { some_ticks = ltb-true 0 u.ticks e; ticks = h.0; bytes = h.1 }

  transmits : (output : List Item) (old new : State) (reply : Reply) → Good c 0 old → old.output ≡ output
      → Transmits output old reply new → Good c 0 new
  transmits [] old new reply good e h = subst (Good c 0) (sym h.1) good
  transmits (item ∷ later) old new reply good e h =
      let all : Each (IsOutput c) (item ∷ later) = subst (Each (IsOutput c)) e good.output.each in
      let size : length old.output ≡ length (item ∷ later) = ap length e in
      let weight : (all_of weight_of_item old.output).mbufs ≡ (all_of weight_of_item (item ∷ later)).mbufs =
      ap (λ xs. (all_of weight_of_item xs).mbufs) e in
      subst (Good c 0) (sym h.1) (with_parts good good.sockets good.unfinished
      (record { each = all.1; short = omega (arith, good.output.short) }) good.numbers (omega (arith, good.mbufs)))

  on_socket : (fd : ℕ) (old new : State) (reply : Reply) (Call : Socket → Type 0) → Good c 0 old
      → ((me : Socket) → socket_at fd old ≡ Some me → IsSocket c me → Call me → Good c 0 new)
      → OnSocket fd old reply new Call → Good c 0 new
  on_socket fd old new reply Call good goes h = by_case h
      (λ e r. KeptCalls.refused c host lo old new _ reply good r)
      (λ me e call. goes me e (KeptCalls.found c host lo 0 fd old me good e) call)

  pub steps : (old new : State) (event : Event) (reply : Reply) → Good c 0 old → IsEvent event
      → Step old event reply new → Good c 0 new
  steps old new Open reply good is h = KeptCalls.opens c host lo old new reply good h
  steps old new (Bind fd a) reply good is h =
      on_socket fd old new reply _ good (λ me e s g. KeptCalls.binds c host lo fd a me old new reply good is g) h
  steps old new (Connect fd a) reply good is h =
      on_socket fd old new reply _ good (λ me e s g. KeptCalls.connects c host lo fd a me old new reply good is s g) h
  steps old new (Send fd to bytes) reply good is h =
      on_socket fd old new reply _ good (λ me e s g. sends fd to bytes me old new reply good s g) h
  steps old new (Receive fd most) reply good is h =
      on_socket fd old new reply _ good
      (λ me e s g. KeptCalls.receives c host lo fd most me old new reply good e me.queue refl g) h
  steps old new (Close fd) reply good is h =
      on_socket fd old new reply _ good (λ me e s g. KeptCalls.closes c host lo fd old new reply good g) h
  steps old new (Set_option fd option on) reply good is h =
      on_socket fd old new reply _ good (λ me e s g. KeptCalls.sets c host lo fd option on old new reply good g) h
  steps old new (Set_limit fd limit) reply good is h =
      on_socket fd old new reply _ good (λ me e s g. KeptCalls.limits c host lo fd limit old new reply good is g) h
  steps old new (Comes packet) reply good is h = comes_in packet old new good h.1
  steps old new Transmit reply good is h = transmits old.output old new reply good refl h
  steps old new Tick reply good is h = subst (Good c 0) (sym h.1) (ticks old good)
  steps old new Ask_counters reply good is h = subst (Good c 0) (sym h.1) good
  steps old new Ask_usage reply good is h = subst (Good c 0) (sym h.3) good

  pub boots_good : Good c 0 (boot c)
  boots_good = record {
    config = refl;
    sockets = record { each = tt; few = omega arith; distinct = λ fd. omega arith };
    unfinished = record { each = tt; keys = λ k. omega arith };
    output = record { each = tt; short = omega arith };
    numbers = record { last_port = λ p e. absurd (none-some p e); next_id = boots.first_id };
    mbufs = omega arith;
  }

-- ---- the law

each_all_of : {X : Type 0} (P : ℕ → Type 0) (w : X → Weight) (xs : List X) → Each (λ x. Each P (w x).bag) xs
    → Each P (all_of w xs).bag
each_all_of P w [] h = tt
each_all_of P w (x ∷ xs) h = each-append P (w x).bag (all_of w xs).bag h.0 (each_all_of P w xs h.1)

module _ (c : Config) (s : State) where
  exists_in : Good c 0 s → Each (λ k. k < c.clusters) (weight_of_state s).bag
  exists_in good =
      each-append P _ _ (each-append P _ _ (each_all_of P weight_of_socket s.sockets (sockets s.sockets good.sockets.each))
      (each_all_of P weight_of_unfinished s.unfinished (waiting s.unfinished good.unfinished.each))) (each_all_of P
      weight_of_item s.output (output s.output good.output.each))
    where
      P : ℕ → Type 0
      P k = k < c.clusters

      queue : (ds : List Datagram) → Each (IsQueued c) ds
          → Each {X = Datagram} (λ d. Each (λ k. k < c.clusters) d.item.weight.bag) ds
      queue [] h = tt
      queue (d ∷ ds) h = (
        subst (λ (w : Weight). Each (λ k. k < c.clusters) w.bag) (sym h.0.with_address) h.0.carries.exist,
        queue ds h.1,
      )

      sockets : (xs : List Socket) → Each (IsSocket c) xs
          → Each {X = Socket} (λ x. Each (λ k. k < c.clusters) (weight_of_socket x).bag) xs
      sockets [] h = tt
      sockets (x ∷ xs) h = (
        each_all_of (λ k. k < c.clusters) (λ (d : Datagram). d.item.weight) x.queue (queue x.queue h.0.queue),
        sockets xs h.1,
      )

      waiting : (us : List Unfinished) → Each (IsWaiting c) us
          → Each {X = Unfinished} (λ u. Each (λ k. k < c.clusters) (weight_of_unfinished u).bag) us
      waiting [] h = tt
      waiting (u ∷ us) h = (
        pieces_bag u.bytes (λ k. k < c.clusters) (λ offset held e. (h.0.bytes offset held e).carries.exist),
        waiting us h.1,
      )

      output : (xs : List Item) → Each (IsOutput c) xs
          → Each {X = Item} (λ x. Each (λ k. k < c.clusters) x.weight.bag) xs
      output [] h = tt
      output (x ∷ xs) h = (h.0.carries.exist, output xs h.1)

  is_consistent : IsConfig c → Good c 0 s → IsConsistent s
  is_consistent boots good = record {
    config = subst IsConfig (sym good.config) boots;
    sockets = subst (λ (cc : Config). Each (IsSocket cc) s.sockets) (sym good.config) good.sockets.each;
    few = good.sockets.few;
    distinct = good.sockets.distinct;
    unfinished = subst (λ (cc : Config). Each (IsWaiting cc) s.unfinished) (sym good.config) good.unfinished.each;
    keys = good.unfinished.keys;
    output = subst (λ (cc : Config). Each (IsOutput cc) s.output) (sym good.config) good.output.each;
    short = good.output.short;
    last_port = good.numbers.last_port;
    next_id = good.numbers.next_id;
    mbufs = let total : s.config.mbufs ≡ c.mbufs = ap (λ (cc : Config). cc.mbufs) good.config in
        omega (arith, good.mbufs);
    clusters =
        subst (λ (cc : Config). Each (λ k. k < cc.clusters) (weight_of_state s).bag) (sym good.config) (exists_in good);
  }

pub is_good : (s : State) → IsConsistent s → Good s.config 0 s
is_good s is = record {
  config = refl;
  sockets = record { each = is.sockets; few = is.few; distinct = is.distinct };
  unfinished = record { each = is.unfinished; keys = is.keys };
  output = record { each = is.output; short = is.short };
  numbers = record { last_port = is.last_port; next_id = is.next_id };
  mbufs = omega (arith, is.mbufs);
}

pub boot_is_consistent : (c : Config) → IsConfig c → IsConsistent (boot c)
boot_is_consistent c boots = is_consistent c (boot c) boots (boots_good c boots)

pub step_is_consistent : (old new : State) (event : Event) (reply : Reply) → IsConsistent old → IsEvent event
    → Step old event reply new → IsConsistent new
step_is_consistent old new event reply is ranges h =
    is_consistent old.config new is.config (steps old.config is.config old new event reply (is_good old is) ranges h)

pub run_is_consistent : (old new : State) (turns : List Turn) → IsConsistent old → Leads exact_ledger old turns new
    → IsConsistent new
run_is_consistent old new [] is h = subst IsConsistent (sym h) is
run_is_consistent old new (turn ∷ turns) is (ranges, mid, step, later) =
    run_is_consistent mid new turns (step_is_consistent old mid turn.event turn.reply is ranges step) later
