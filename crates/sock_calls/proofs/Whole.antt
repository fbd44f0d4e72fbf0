-- A packet that carries a whole datagram and was read in place: it's stored for the one socket that matches it, or
-- dropped.
use Rattle.std.proofs.Common.{◌≡◌, ℕ, ◌+◌, ◌*◌, ◌<◌, ◌≤◌, Bool, true, false, cond, List, [], ◌∷◌, ◌++◌, length, take, drop, Option, Some, None, Result, Ok, Err, refl, sym, ap, ◌∙◌, subst, arith, inl}
use Rattle.std.specs.Prelude.{count_by, ◌==◌, ◌&&◌, option_to_list}
use Rattle.std.specs.List.{AllByRecursion as Each}
use Rattle.std.proofs.lemmas.Bool.{true≢false, false≢true, le-leb}
use Rattle.std.proofs.lemmas.Option.{none-some, same_Some}
use Rattle.std.proofs.lemmas.List.Elements.{All-from_recursion}
use Rattle.flat_model.specs.declared.address.Addr.{Addr}
use Rattle.flat_model.specs.declared.counters.Why.{Why}
use Rattle.flat_model.specs.declared.counters.Why.TheVariants.{NoProtocol, UdpFullSocket, UdpNoPort, UdpNoPortBroadcast}
use Rattle.flat_model.specs.Amounts.Weight.{Weight, Item, nothing, ◌⊕◌, times as bag_times}
use Rattle.flat_model.specs.Amounts.Layout as flat
use Rattle.flat_model.specs.Amounts.Layout.{Room, is_cluster, entries_on, wire}
use Rattle.flat_model.specs.Packets.Header.{head_of, u16_at, udp_fault}
use Rattle.flat_model.specs.Sockets.Fits.{fits, memory_of}
use Rattle.flat_model.specs.Sockets.Lookup.{best, receivers}
use Rattle.flat_model.specs.Machine.State.{State, Socket, Datagram, change_socket, ends}
use Rattle.flat_model.specs.Machine.Ledger as state
use Rattle.flat_model.specs.Machine.Ledger.{IsFree, exact_ledger, has_enough, need_mbufs}
use Rattle.flat_model.specs.Machine.Arrival.{AppendsAs, GoesToAs, Offered, WholeArrivesAs, matching_sockets, with_datagram}
use Rattle.flat_model.specs.Machine.Fate.{mark, nobody, reached_by, told_one, told_whole}
use Rattle.flat_model.specs.declared.fate.Reached.{Reached}
use Rattle.flat_model.proofs.Laws.{count_cons}
use Rattle.mbuf_chain.specs.Chain.{PoolView, references}
use Rattle.ledger.specs.Accounts.{IsAccounted}
use Rattle.pcb_table.specs.Found.{Finds}
use Rattle.pcb_table.specs.Table.{IsDescriptor, Queues, Table, block_at, machine, packet_key, socket_with, sockets_with}
use Rattle.pcb_table.proofs.Laws.{queue_changed}
use Rattle.sockbuf.specs.SockBuf.{SockBufView}
use Rattle.sockbuf.specs.Stored.{IsTaken, bag_of, stored_datagram}
use Rattle.ip_out.specs.Headed.{carried_of}
use Rattle.udp.specs.Checked.{IsChecked, datagram_fault, is_to_all}
use Rattle.sock_calls.specs.Sockets.{SocksView, IsSocks, StepsAt, queues_of, with_sockets}
use Rattle.sock_calls.specs.declared.taking.Taken.{Taken}
use Rattle.sock_calls.specs.declared.taking.Taken.TheVariants.{Stored, Full}
use Rattle.sock_calls.proofs.Delivered.{HasLimit, moved_accounts}
use Rattle.sock_calls.specs.Inside.Storing.{StoresAtEnd, data_memory}
use Rattle.sock_calls.specs.Whole.{ArrivesWhole, EndsWhole, HasOne, StoresWhole, TakesWhole, carried_item, got_by, lost_by, one_room}
use Rattle.sock_calls.proofs.Going.{free_each}

-- ---- the cluster that the packet takes

record IsBag (p : PoolView) (is_large : Bool) (o : Option ℕ) (n : ℕ) : Type 0 where
  number : length (bag_of o) ≡ count_by is_cluster (one_room is_large n ∷ [])
  need : count_by is_cluster (one_room is_large n ∷ []) ≡ cond is_large 1 0
  exist : Each (λ (c : ℕ). c < p.clusters) (bag_of o)
  free : Each (λ (c : ℕ). references p c ≡ 0) (bag_of o)
  once : (c : ℕ) → bag_times c (bag_of o) ≤ 1
  weight : flat.weight_of (entries_on (bag_of o) (one_room is_large n ∷ [])) ≡ record { mbufs = 1; bag = bag_of o }

bag : (p : PoolView) (is_large : Bool) (o : Option ℕ) (n : ℕ) → IsTaken p is_large o → IsBag p is_large o n
unfolding entries_on
bag p true None n h = absurd h
bag p true (Some c) n h = record {
  number = refl;
  need = refl;
  exist = (h.0, tt);
  free = (h.1, tt);
  once = λ k. omega (arith, count_cons (λ (j : ℕ). j == k) c [], most (c == k));
  weight = refl;
}
  where
    most : (b : Bool) → cond {A = ℕ} b 1 0 ≤ 1
    most true = omega arith
    most false = omega arith
bag p false None n h = record {
  number = refl;
  need = refl;
  exist = tt;
  free = tt;
  once = λ k. omega arith;
  weight = refl;
}
bag p false (Some c) n h = absurd h

-- ---- what happens to a checked packet

-- The packet arrives if its data are delivered, whichever buffers it takes.
pub arrives_as : (whole : Result Reached Why) (packet : List ℕ) (end : ℕ) (from to : Addr) (w : Weight)
    (old new : State) → IsChecked packet end
    from to
    → GoesToAs exact_ledger (told_whole whole) nothing from (record
    { bytes = drop 28 (take end packet); weight = w }) to.ip
    (matching_sockets old to.ip (packet_key to.ip to.port from)) old new
    → ArrivesWhole whole packet (record { bytes = carried_of packet; weight = w }) old new
arrives_as whole packet end from to w old new is one =
    let s : List ℕ = carried_of packet in
    let two = subst
    (λ (n : ℕ). GoesToAs exact_ledger (told_whole whole) nothing from
    (record { bytes = drop 28 (take end packet); weight = w })
    to.ip (matching_sockets old to.ip (packet_key to.ip n from)) old new) (sym is.port) one in
    let three = subst (λ (n : ℕ). GoesToAs exact_ledger (told_whole whole) nothing (record { ip = from.ip; port = n })
    (record { bytes = drop 28 (take end packet); weight = w }) to.ip
    (matching_sockets old to.ip (packet_key to.ip (u16_at 2 s) (record { ip = from.ip; port = n }))) old new)
    (sym is.source_port) two in
    let goes = subst (λ (xs : List ℕ). GoesToAs exact_ledger (told_whole whole) nothing
    (record { ip = from.ip; port = u16_at 0 s })
    (record { bytes = xs; weight = w }) to.ip
    (matching_sockets old to.ip (packet_key to.ip (u16_at 2 s) (record { ip = from.ip; port = u16_at 0 s }))) old new)
    (sym is.bytes) three in
    let here : WholeArrivesAs exact_ledger (told_whole whole) nothing from.ip to.ip 17
    (record { bytes = s; weight = w }) old new = record {
      yes = λ _. record { none = λ _. goes; some = λ why e. absurd (none-some why (sym is.faultless ∙ e)) };
      no = λ e. absurd (true≢false e);
    } in
    subst (λ (x : ℕ). WholeArrivesAs exact_ledger (told_whole whole) nothing x (head_of packet).destination
    (head_of packet).protocol
    (record { bytes = s; weight = w }) old new) (sym is.source)
    (subst (λ (x : ℕ). WholeArrivesAs exact_ledger (told_whole whole) nothing from.ip x (head_of packet).protocol
    (record { bytes = s; weight = w }) old new) (sym is.destination)
    (subst (λ (x : ℕ). WholeArrivesAs exact_ledger (told_whole whole) nothing from.ip to.ip x
    (record { bytes = s; weight = w }) old new)
    (sym is.protocol) here))

-- ---- it's dropped

-- the memory of a packet in one mbuf
one_memory : (is_large : Bool) (n : ℕ) (rooms : List Room) → rooms ≡ one_room is_large n ∷ []
    → 128 * length rooms + 2048 * count_by is_cluster rooms ≡ data_memory is_large
one_memory true n rooms e = ap (λ (l : List Room). 128 * length l + 2048 * count_by is_cluster l) e
one_memory false n rooms e = ap (λ (l : List Room). 128 * length l + 2048 * count_by is_cluster l) e

taken_memory : (p : PoolView) (is_large : Bool) (o : Option ℕ) → IsTaken p is_large o
    → memory_of (record { mbufs = 1; bag = bag_of o }) ≡ data_memory is_large
taken_memory p true None h = absurd h
taken_memory p true (Some c) h = refl
taken_memory p false None h = refl
taken_memory p false (Some c) h = absurd h

pub refused : (p : PoolView) (s : SocksView) (packet : List ℕ) (why : Why) → datagram_fault packet ≡ Some why
    → EndsWhole p s packet (Err why) why
refused p s packet why is = λ rest w weighs.
    let old : State = with_sockets p s rest in
    let x : Option Why = udp_fault (head_of packet).source (head_of packet).destination (carried_of packet) in
    let at : (b : Bool) → (head_of packet).protocol == 17 ≡ b → cond {A = Option Why} b x (Some NoProtocol) ≡ Some why =
    λ b e. sym (ap (λ (b : Bool). cond {A = Option Why} b x (Some NoProtocol)) e) ∙ is in
    let said : (y : Why) → why ≡ y → (why ≡ y) × (ends why old ≡ ends y old) =
    λ y e. (e, ap (λ (z : Why). ends z old) e) in
    record {
      yes = λ e. record {
        none = λ n. absurd (none-some why (sym n ∙ at true e));
        some = λ y e2. said y (same_Some why y (sym (at true e) ∙ e2));
      };
      no = λ e. said NoProtocol (same_Some why NoProtocol (sym (at false e)));
    }

module _ (p : PoolView) (t : Table) (bs : List SockBufView) (packet : List ℕ) (end : ℕ) (from to : Addr)
    (checked : IsChecked packet end from to) (one : is_to_all t to.ip ≡ false) where
  abbrev f : Queues
  f = queues_of p bs

  matching_are : (rest : State) → matching_sockets (machine rest f t) to.ip (packet_key to.ip to.port from)
      ≡ option_to_list (best (packet_key to.ip to.port from) (sockets_with f t))
  matching_are rest = λ i. cond (one i) (receivers (packet_key to.ip to.port from) (sockets_with f t))
      (option_to_list (best (packet_key to.ip to.port from) (sockets_with f t)))

  pub unmatched : Finds (best (packet_key to.ip to.port from)) t None
      → EndsWhole p (record { pcbs = t; queues = bs }) packet (Err UdpNoPort) UdpNoPort
  unmatched found = λ rest w weighs.
      let old : State = machine rest f t in
      let none : matching_sockets old to.ip (packet_key to.ip to.port from) ≡ [] =
      matching_are rest ∙ ap option_to_list (found f) in
      arrives_as (Err UdpNoPort) packet end from to w old (ends UdpNoPort old) checked
      (subst (λ (l : List Socket). GoesToAs exact_ledger (told_whole (Err UdpNoPort)) nothing from
      (record { bytes = drop 28 (take end packet); weight = w }) to.ip l old (ends UdpNoPort old)) (sym none) (
        ap (λ (b : Bool). cond b UdpNoPortBroadcast UdpNoPort) (sym one),
        ap (λ (b : Bool). ends (cond b UdpNoPortBroadcast UdpNoPort) old) (sym one),
      ))

  matched : {fd : ℕ} (rest : State) (found : Finds (best (packet_key to.ip to.port from)) t (Some fd))
      → matching_sockets (machine rest f t) to.ip (packet_key to.ip to.port from) ≡ socket_with f found.0 ∷ []
  matched rest found = matching_are rest ∙ ap option_to_list (found.3 f)

  pub full : {fd limit : ℕ} (is_large : Bool) → Finds (best (packet_key to.ip to.port from)) t (Some fd)
      → HasLimit fd t limit → HasOne p (length packet) is_large
      → fits limit (queues_of p bs fd) (length (drop 28 (take end packet))) (data_memory is_large) ≡ false
      → EndsWhole p (record { pcbs = t; queues = bs }) packet (Ok (lost_by fd)) UdpFullSocket
  full {fd = fd} {limit = limit} is_large found limited has over = λ rest w weighs.
      let old : State = machine rest f t in
      arrives_as (Ok (lost_by fd)) packet end from to w old (ends UdpFullSocket old) checked
      (subst (λ (l : List Socket). GoesToAs exact_ledger (told_whole (Ok (lost_by fd))) nothing from
      (record { bytes = drop 28 (take end packet); weight = w }) to.ip l old (ends UdpFullSocket old))
      (sym (matched rest found)) (record {
        yes = λ e. absurd (true≢false (sym e
            ∙ ap (λ (n : ℕ). fits n (f (found.0).fd) (length (drop 28 (take end packet))) (memory_of w))
            (limited found.0 found.2)
            ∙ ap (λ (k : ℕ). fits limit (f k) (length (drop 28 (take end packet))) (memory_of w)) found.1
            ∙ ap (fits limit (f fd) (length (drop 28 (take end packet))))
            (weighs ∙ one_memory is_large (length packet) (wire (length packet)) has.room) ∙ over));
        no = λ _. ((λ k. Some UdpFullSocket, ap lost_by (sym found.1), refl), refl);
      }))

-- ---- it's stored

-- the packet when it's stored, and the state after it
pub record IsStored (p : PoolView) (t : Table) (bs : List SockBufView) (packet : List ℕ) (end : ℕ) (from to : Addr)
    (fd : ℕ) (is_large : Bool) (q : PoolView) (cs : List SockBufView) : Type 0 where
  pub checked : IsChecked packet end from to
  pub socks : IsSocks p (record { pcbs = t; queues = bs })
  pub one : is_to_all t to.ip ≡ false
  pub found : Finds (best (packet_key to.ip to.port from)) t (Some fd)
  pub has : HasOne p (length packet) is_large
  pub cluster : Option ℕ
  pub taken : IsTaken p is_large cluster
  pub limit : ℕ
  pub limited : HasLimit fd t limit
  pub fits : fits limit (queues_of p bs fd) (length (drop 28 (take end packet))) (data_memory is_large) ≡ true
  pub steps : StepsAt p [] bs fd q [] cs
  pub here : queues_of q cs fd
      ≡ queues_of p bs fd ++ stored_datagram from (drop 28 (take end packet)) cluster ∷ []

module _ (p q : PoolView) (t : Table) (bs cs : List SockBufView) (packet : List ℕ) (end : ℕ) (from to : Addr) (fd : ℕ)
    (is_large : Bool) (is : IsStored p t bs packet end from to fd is_large q cs) (rest : State)
    (acc : IsAccounted p (with_sockets p (record { pcbs = t; queues = bs }) rest) nothing) where
  abbrev old : State
  old = machine rest (queues_of p bs) t

  abbrev new : State
  new = machine rest (queues_of q cs) t

  abbrev w : Weight
  w = record { mbufs = 1; bag = bag_of is.cluster }

  abbrev data_of : Item
  data_of = record { bytes = drop 28 (take end packet); weight = w }

  is_bag : IsBag p is_large is.cluster (length packet)
  is_bag = bag p is_large is.cluster (length packet) is.taken

  -- one more mbuf is free, for the sender's address
  one_more : has_enough old (nothing ⊕ w) (need_mbufs 1) ≡ true
  one_more =
      let some : 1 ≤ state.free_mbufs old (nothing ⊕ w) = omega (arith, acc.total, acc.mbufs, is.has.mbufs) in
      λ i. le-leb 1 (state.free_mbufs old (nothing ⊕ w)) some i
      && le-leb 0 (state.free_clusters old (nothing ⊕ w)) (omega arith) i

  put : new ≡ change_socket fd (with_datagram (stored_datagram from (drop 28 (take end packet)) is.cluster)) old
  put = queue_changed (queues_of p bs) (queues_of q cs) t rest fd
      (λ (ds : List Datagram). ds ++ stored_datagram from (drop 28 (take end packet)) is.cluster ∷ []) is.here
      is.steps.others

  appends : AppendsAs exact_ledger (λ lack. told_whole (Ok (got_by fd))
      (Offered ((is.found.0).fd ∷ []) (is.found.0).fd lack))
      nothing from data_of (socket_with (queues_of p bs) is.found.0) old new
  appends = record {
    yes = λ _. record {
      answer = true;
      mid = old;
      has_buffers = inl (sym one_more, refl);
      goes_on = record {
        yes = λ _. (
          (λ k. None, ap got_by (sym is.found.1), refl),
          put ∙ ap (λ (k : ℕ). change_socket k
              (with_datagram (stored_datagram from (drop 28 (take end packet)) is.cluster)) old) (sym is.found.1),
        );
        no = λ e. absurd (true≢false e);
      };
    };
    no = λ e. absurd (false≢true (sym e
        ∙ ap (λ (n : ℕ). fits n (queues_of p bs (is.found.0).fd) (length (drop 28 (take end packet))) (memory_of w))
        (is.limited is.found.0 is.found.2)
        ∙ ap (λ (k : ℕ). fits is.limit (queues_of p bs k) (length (drop 28 (take end packet))) (memory_of w)) is.found.1
        ∙ ap (fits is.limit (queues_of p bs fd) (length (drop 28 (take end packet))))
        (taken_memory p is_large is.cluster is.taken) ∙ is.fits));
  }

  arrives : ArrivesWhole (Ok (got_by fd)) packet (carried_item (bag_of is.cluster) packet) old new
  arrives =
      let weighs : flat.weight_of (entries_on (bag_of is.cluster) (wire (length packet))) ≡ w =
      ap (λ (rooms : List Room). flat.weight_of (entries_on (bag_of is.cluster) rooms)) is.has.room ∙ is_bag.weight in
      subst (λ (x : Weight). ArrivesWhole (Ok (got_by fd)) packet (record { bytes = carried_of packet; weight = x })
      old new)
      (sym weighs)
      (arrives_as (Ok (got_by fd)) packet end from to w old new is.checked
      (subst (λ (l : List Socket). GoesToAs exact_ledger (told_whole (Ok (got_by fd))) nothing from data_of to.ip l
      old new)
      (sym (matched p t bs packet end from to is.checked is.one rest is.found)) appends))

  pub comes : (clusters : List ℕ)
      × state.AreTaken exact_ledger old (flat.need_of (wire (length packet))).clusters clusters
      × ArrivesWhole (Ok (got_by fd)) packet (carried_item clusters packet) old new
  comes = (
    bag_of is.cluster,
    record {
      number = is_bag.number ∙ ap (count_by is_cluster) (sym is.has.room);
      distinct = is_bag.once;
      free = All-from_recursion (IsFree old nothing) (bag_of is.cluster)
          (free_each p old (bag_of is.cluster) acc is_bag.exist is_bag.free);
    },
    arrives,
  )

-- ---- the state after it's stored

pub stores_whole : {p q : PoolView} {t : Table} {bs cs : List SockBufView} {packet : List ℕ} {end : ℕ} {from to : Addr}
    {fd : ℕ} {is_large : Bool} → IsStored p t bs packet end from to fd is_large q cs
    → IsDescriptor fd → StoresWhole p (record { pcbs = t; queues = bs }) packet fd q (record { pcbs = t; queues = cs })
stores_whole {p} {q} {t} {bs} {cs} {packet} {end} {from} {to} {fd} {is_large} is descriptor = record {
  descriptor = descriptor;
  step = λ rest acc. comes p q t bs cs packet end from to fd is_large is rest acc;
  accounts = λ rest held acc. moved_accounts t bs cs rest [] [] is.socks stored is.steps.moves is.socks.owned
      (record { mbufs = refl; bag = λ k. refl }) acc;
  ready = stored;
  pcbs = refl;
  moves = is.steps.moves;
}
  where
    stored : IsSocks q (record { pcbs = t; queues = cs })
    stored = record {
      each = is.steps.each;
      owned = is.steps.owned;
      places = is.steps.len ∙ is.socks.places;
      apart = is.socks.apart;
      closed = λ k none. is.steps.others k (λ e. none-some is.found.0
          (sym none ∙ ap (λ (j : ℕ). block_at j t) e ∙ is.found.2)) ∙ is.socks.closed k none;
    }

-- ---- the result of the queue, as that of the packet

abbrev pub taken_as : ℕ → Result Unit Why → Taken
taken_as fd (Ok done) = Stored fd
taken_as fd (Err why) = Full fd

module _ (p : PoolView) (t : Table) (bs : List SockBufView) (packet : List ℕ) (end : ℕ) (from to : Addr) (fd : ℕ)
    (is_large : Bool) (checked : IsChecked packet end from to) (socks : IsSocks p (record { pcbs = t; queues = bs }))
    (one : is_to_all t to.ip ≡ false) (found : Finds (best (packet_key to.ip to.port from)) t (Some fd))
    (has : HasOne p (length packet) is_large) where
  pub takes : (bytes : List ℕ) (limit : ℕ) (q : PoolView) (cs : List SockBufView) (result : Result Unit Why)
      → HasLimit fd t limit → bytes ≡ drop 28 (take end packet) → IsDescriptor fd
      → StoresAtEnd limit p bs fd from is_large bytes q cs result
      → TakesWhole p (record { pcbs = t; queues = bs }) packet q (record { pcbs = t; queues = cs }) (taken_as fd result)
  takes bytes limit q cs (Ok done) limited same descriptor is = stores_whole (record {
    checked = checked;
    socks = socks;
    one = one;
    found = found;
    has = has;
    cluster = is.cluster;
    taken = is.taken;
    limit = limit;
    limited = limited;
    fits = ap (λ (xs : List ℕ). fits limit (queues_of p bs fd) (length xs) (data_memory is_large)) (sym same) ∙ is.fits;
    steps = is.steps;
    here = is.here ∙ ap (λ (xs : List ℕ). queues_of p bs fd ++ stored_datagram from xs is.cluster ∷ []) same;
  }) descriptor
  takes bytes limit q cs (Err why) limited same descriptor is = (
    is.pool,
    λ i. record { pcbs = t; queues = is.queues i },
    descriptor,
    full p t bs packet end from to checked one is_large found limited has
        (ap (λ (xs : List ℕ). fits limit (queues_of p bs fd) (length xs) (data_memory is_large)) (sym same)
        ∙ is.over),
  )
