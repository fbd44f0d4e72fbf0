-- A fragment from the wire that is stored directly, from the bytes of its packet: one step of the machine.
use Rattle.std.proofs.Common.{◌≡◌, ℕ, ◌-◌, ◌≤◌, Bool, true, false, cond, Result, List, [], ◌∷◌, ◌++◌, length, take, drop, refl, sym, ap, ◌∙◌, subst, arith, inl}
use Rattle.std.specs.Prelude.{All, count_by, ◌==◌, ◌&&◌, nat_le}
use Rattle.std.proofs.lemmas.Bool.{true≢false, le-leb, leb-true, leb-false}
use Rattle.std.proofs.lemmas.List.{take_all}
use Rattle.std.proofs.lemmas.List.Elements.{All-from_recursion}
use Rattle.flat_model.specs.Amounts.Choice.{Choice}
use Rattle.flat_model.specs.Amounts.Weight.{Weight, Item, nothing, ◌⊕◌, times as bag_times}
use Rattle.flat_model.specs.Amounts.Layout as flat
use Rattle.flat_model.specs.Amounts.Layout.{Room, Plain, Cluster, is_cluster, entries_on, need_of, wire}
use Rattle.flat_model.specs.Packets.Header.{total_of}
use Rattle.flat_model.specs.Machine.Count.{counts_more}
use Rattle.flat_model.specs.Machine.State.{State}
use Rattle.flat_model.specs.Machine.Ledger.{IsFree, exact_ledger, has_enough}
use Rattle.flat_model.specs.Machine.Step.{ComesInAs}
use Rattle.flat_model.specs.Machine.Fate.{told, told_whole}
use Rattle.flat_model.specs.declared.fate.Fate.{Fate}
use Rattle.flat_model.specs.declared.fate.Fate.TheVariants.{Completed}
use Rattle.flat_model.specs.declared.fate.Reached.{Reached}
use Rattle.flat_model.specs.declared.counters.Why.{Why}
use Rattle.flat_model.specs.Machine.Arrival.{By_wire, ArrivesAs, FragmentArrivesAs, WholeArrivesAs, carried, counts_packet, is_for_us, is_fragment}
use Rattle.flat_model.specs.declared.counter.Counter.TheVariants.{IpTotal}
use Rattle.flat_model.specs.declared.counters.Counters.{Counters}
use Rattle.flat_model.proofs.Laws.{count_cons}
use Rattle.mbuf_chain.specs.Chain.{PoolView, free_clusters, held_mbufs}
use Rattle.mbuf_chain.specs.Owners.{IsOwned, Moves}
use Rattle.chain_ops.proofs.Laws.Rooms.{one_cluster}
use Rattle.ledger.specs.Accounts.{IsAccounted, item_at, weight_owned}
use Rattle.ledger.proofs.Laws.{test_is}
use Rattle.pcb_table.specs.Table.{machine}
use Rattle.ip_out.specs.declared.head.IpHead.{IpHead}
use Rattle.ip_reass.specs.Arrivals as reass
use Rattle.ip_reass.specs.Arrivals.{GoesOn, flat_head, in_hand}
use Rattle.ip_reass.specs.AtOnce.{ArrivesAtOnce}
use Rattle.ip_reass.specs.Table.{TableView, held_all, unfinished}
use Rattle.ip_reass.specs.declared.arrival.Arrival.{Arrival}
use Rattle.ip_reass.specs.declared.arrival.Arrival.TheVariants.{Whole}
use Rattle.ip_reass.proofs.Laws.{Fits, stored_arrives, stored_weight}
use Rattle.sock_calls.specs.Sockets.{SocksView, IsSocks, queued_chains, with_net, with_sockets}
use Rattle.sock_calls.specs.Delivery.{NetView, IsInput, KeepsParts, net_state}
use Rattle.sock_calls.proofs.Laws.{free_each, keeps_trans, two_plain, two_weigh}
use Rattle.net_stack.specs.Inside.Arrivals.{HasCome}
use Rattle.net_stack.proofs.Aside.{BesideSocks, as_held, beside_socks, host_view}
use Rattle.net_stack.proofs.ArriveLemmas.{IsHeaded, passes}

-- a packet in one cluster
weighs : (k m : ℕ) → flat.weight_of (entries_on (k ∷ []) (Cluster m ∷ [])) ≡ record { mbufs = 1; bag = k ∷ [] }
unfolding entries_on
weighs k m = refl

-- a packet with header h is a fragment for the machine, and can be stored directly; it was counted
pub record IsCounted (p : PoolView) (s : SocksView) (r : TableView) (a c : Counters) (packet : List ℕ) (h : IpHead)
    : Type 0 where
  pub head : IsHeaded packet h
  pub part : is_fragment (flat_head h) ≡ true
  pub ours : (rest : State) → is_for_us (with_net p s (unfinished p r.datagrams) a rest).config h.dst ≡ true
  pub fits : Fits p h packet
  pub counts : c ≡ counts_more IpTotal 1 a

module _ (p : PoolView) (s : SocksView) (r : TableView) (a c : Counters) (packet : List ℕ) (h : IpHead)
    (i : IsCounted p s r a c packet h) where
  -- the machine before, and after the packet is counted
  abbrev old : State → State
  old rest = with_net p s (unfinished p r.datagrams) a rest

  abbrev mid : State → State
  mid rest = reass.with_waiting p r.datagrams c (with_sockets p s rest)

  mid_is : (rest : State) → mid rest ≡ counts_packet (old rest)
  mid_is rest = λ j. with_net p s (unfinished p r.datagrams) (i.counts j) rest

  mid_accounts : (rest : State) (held : Weight) → IsAccounted p (old rest) held → IsAccounted p (mid rest) held
  mid_accounts rest held acc =
      record { mbufs = acc.mbufs; clusters = acc.clusters; total = acc.total; references = acc.references }

  -- its buffers are free
  enough : (rest : State) (rooms : List Room) → IsAccounted p (old rest) nothing → wire (length packet) ≡ rooms
      → length rooms ≤ 2 → count_by is_cluster rooms ≤ 1
      → has_enough (old rest) nothing (need_of (wire (length packet))) ≡ true
  enough rest rooms acc are few most =
      ap (λ (rooms : List Room). has_enough (old rest) nothing (need_of rooms)) are
      ∙ test_is p (old rest) nothing (need_of rooms) acc
      ∙ (λ j. le-leb (length rooms) (p.mbufs - held_mbufs p) (omega (arith, i.fits.mbufs, few)) j
      && le-leb (count_by is_cluster rooms) (free_clusters p) (omega (arith, i.fits.clusters, most)) j)

  -- the packet arrives if its fragment arrives with the decoded header
  arrives : (fate : Fate) (rest new : State) (w : Weight)
      → FragmentArrivesAs exact_ledger (told fate) (By_wire (length packet)) nothing (flat_head h)
      (record { bytes = drop 20 packet; weight = w }) (counts_packet (old rest)) new
      → ArrivesAs exact_ledger (told fate) (By_wire (length packet)) nothing (record { bytes = packet; weight = w })
      (old rest) new
  arrives fate rest new w step =
      let total : total_of packet ≡ length packet = sym (ap (λ (x : IpHead). x.total) i.head.says) ∙ i.fits.total in
      let all : take (total_of packet) packet ≡ packet = take_all (total_of packet) packet (omega (arith, total)) in
      let item : carried (record { bytes = packet; weight = w }) ≡ record { bytes = drop 20 packet; weight = w } =
      λ j. record { bytes = drop 20 (all j); weight = w } in
      let now : FragmentArrivesAs exact_ledger (told fate) (By_wire (length packet)) nothing (flat_head h)
      (carried (record { bytes = packet; weight = w })) (counts_packet (old rest)) new =
      subst (λ (x : Item). FragmentArrivesAs exact_ledger (told fate) (By_wire (length packet)) nothing (flat_head h) x
      (counts_packet (old rest)) new) (sym item) step in
      passes fate packet (By_wire (length packet)) nothing w (old rest) new i.head.none (record {
        yes = λ e. subst (λ (x : IpHead). Choice (is_fragment (flat_head x))
            (FragmentArrivesAs exact_ledger (told fate) (By_wire (length packet)) nothing (flat_head x)
            (carried (record { bytes = packet; weight = w })) (counts_packet (old rest)) new)
            (WholeArrivesAs exact_ledger (told fate) nothing x.src x.dst x.proto
            (carried (record { bytes = packet; weight = w }))
            (counts_packet (old rest)) new)) i.head.says
            (record { yes = λ _. now; no = λ f. absurd (true≢false (sym i.part ∙ f)) });
        no = λ e. absurd (true≢false (sym (i.ours rest)
            ∙ ap (λ (x : IpHead). is_for_us (old rest).config x.dst) i.head.says ∙ e));
      })

  once : (k j : ℕ) → bag_times j (k ∷ []) ≤ 1
  once k j = omega (arith, count_cons (λ (x : ℕ). x == j) k [], most (k == j))
    where
      most : (b : Bool) → cond {A = ℕ} b 1 0 ≤ 1
      most true = omega arith
      most false = omega arith

  module _ (result : Arrival) (q : PoolView) (t : TableView) (b : Counters)
      (is : ArrivesAtOnce p r.datagrams c packet h result q t.datagrams b) where
    -- the packet is stored in mbufs of this layout, with these clusters
    comes_in : (fate : Fate) (rest new : State) (cs : List ℕ) (rooms : List Room) (w : Weight) → IsAccounted p
        (old rest) nothing
        → wire (length packet) ≡ rooms → length rooms ≤ 2 → count_by is_cluster rooms ≤ 1
        → length cs ≡ count_by is_cluster rooms
        → flat.weight_of (entries_on cs rooms) ≡ w → ((j : ℕ) → bag_times j cs ≤ 1) → All (IsFree (old rest) nothing) cs
        → FragmentArrivesAs exact_ledger (told fate) (By_wire (length packet)) nothing (flat_head h)
        (record { bytes = drop 20 packet; weight = w }) (counts_packet (old rest)) new
        → ComesInAs exact_ledger (told fate) packet (old rest) new
    comes_in fate rest new cs rooms w acc are few most number is once free fragment =
        let weight : flat.weight_of (entries_on cs (wire (length packet))) ≡ w =
        ap (λ (rooms : List Room). flat.weight_of (entries_on cs rooms)) are ∙ is in (
          true,
          old rest,
          inl (sym (enough rest rooms acc are few most), refl),
          record {
            yes = λ _. (
              cs,
              record { number = number ∙ sym (ap (count_by is_cluster) are); distinct = once; free = free },
              subst (λ (w : Weight). ArrivesAs exact_ledger (told fate) (By_wire (length packet)) nothing
                  (record { bytes = packet; weight = w }) (old rest) new) (sym weight)
                  (arrives fate rest new w fragment),
            );
            no = λ e. absurd (true≢false e);
          },
        )

    pub comes : (fate : Fate) (rest new : State) → IsAccounted p (old rest) nothing
        → GoesOn (told fate) nothing q result (reass.with_waiting q t.datagrams b (with_sockets p s rest)) new
        → ComesInAs exact_ledger (told fate) packet (old rest) new
    comes fate rest new acc goes =
        let chain = is.step fate (with_sockets p s rest) nothing new (mid_accounts rest nothing acc) goes in
        let w : Weight = stored_weight (nat_le 208 (length packet)) is.cluster in
        let fragment : FragmentArrivesAs exact_ledger (told fate) (By_wire (length packet)) nothing (flat_head h)
        (record { bytes = drop 20 packet; weight = w }) (counts_packet (old rest)) new =
        subst (λ (m : State). FragmentArrivesAs exact_ledger (told fate) (By_wire (length packet)) nothing (flat_head h)
        (record { bytes = drop 20 packet; weight = w }) m new) (mid_is rest)
        (stored_arrives fate nothing h packet is.cluster (mid rest) new i.fits.many i.fits.total chain) in
        by_size (nat_le 208 (length packet)) refl fragment
      where
        k : ℕ
        k = is.cluster

        by_size : (b : Bool) → nat_le 208 (length packet) ≡ b
            → FragmentArrivesAs exact_ledger (told fate) (By_wire (length packet)) nothing (flat_head h)
            (record { bytes = drop 20 packet; weight = stored_weight b is.cluster }) (counts_packet (old rest)) new
            → ComesInAs exact_ledger (told fate) packet (old rest) new
        by_size true large fragment =
            let many : 208 ≤ length packet = leb-true 208 (length packet) large in
            let free = is.free many in
            comes_in fate rest new (k ∷ []) (Cluster (length packet) ∷ []) (record { mbufs = 1; bag = k ∷ [] }) acc
            (one_cluster 0 (length packet) (omega arith) many (omega (arith, i.fits.few))) (omega arith) (omega arith)
            refl
            (weighs k (length packet)) (once k)
            (All-from_recursion (IsFree (old rest) nothing) (k ∷ [])
            (free_each p (old rest) (k ∷ []) acc (free.0, tt) (free.1, tt))) fragment
        by_size false small fragment =
            comes_in fate rest new [] (Plain 100 ∷ Plain (length packet - 100) ∷ [])
            (record { mbufs = 2; bag = [] }) acc
            (two_plain (length packet) i.fits.many (leb-false 208 (length packet) small)) (omega arith) (omega arith)
            refl
            (two_weigh 100 (length packet - 100)) (λ j. omega arith) (All-from_recursion (IsFree (old rest) nothing) [] tt)
            fragment

    module _ (socks : IsSocks p s) (owned : IsOwned p (held_all p r.datagrams ++ queued_chains p s.queues))
        (moves : Moves p (held_all p r.datagrams) q (in_hand result ++ held_all q t.datagrams))
        (accounts : (rest : State) (held : Weight) → IsAccounted p (reass.with_waiting p r.datagrams c rest) held
        → IsAccounted q (reass.with_waiting q t.datagrams b rest) (held ⊕ weight_owned q (in_hand result))) where
      beside : BesideSocks p s (held_all p r.datagrams) q (in_hand result) (held_all q t.datagrams)
      beside = beside_socks (held_all p r.datagrams) (in_hand result) (held_all q t.datagrams) owned socks moves

      abbrev then_net : State → State
      then_net rest = with_net q s (unfinished q t.datagrams) b rest

      now : (rest : State) → then_net rest ≡ reass.with_waiting q t.datagrams b (with_sockets p s rest)
      now rest =
          λ j. machine (record rest { unfinished = unfinished q t.datagrams; counters = b })
          (λ fd. beside.socks.shows fd j) s.pcbs

      -- the parts are kept
      pub placed : KeepsParts (host_view p s r a) [] (host_view q s t b) (in_hand result)
      placed = record {
        accounts = λ rest held acc. as_held held (in_hand result)
            (subst (λ (m : State). IsAccounted q m (held ⊕ weight_owned q (in_hand result))) (sym (now rest))
            (accounts (with_sockets p s rest) held (mid_accounts rest held acc)));
        ready = beside.socks.ready;
        pcbs = refl;
        moves = beside.moves;
      }

      -- it waits, or ended
      pub came_kept : (fate : Fate) → in_hand result ≡ []
          → ((x y : State) → y ≡ x → GoesOn (told fate) nothing q result x y)
          → HasCome (host_view p s r a) packet fate (host_view q s t b)
      came_kept fate none waits = record {
        step = λ rest acc. comes fate rest (then_net rest) acc (waits _ _ (now rest));
        parts = subst (λ (hand : List ℕ). KeepsParts (host_view p s r a) [] (host_view q s t b) hand) none placed;
      }

-- its datagram is complete, and was delivered to the sockets
pub came_whole : {p q : PoolView} {s : SocksView} (r t : TableView) {a b c : Counters} {packet : List ℕ} {h : IpHead}
    {d : ℕ} {whole : Result Reached Why} {u : NetView} (g : IpHead) → IsCounted p s r a c packet h
    → ArrivesAtOnce p r.datagrams c packet h (Whole d g) q t.datagrams b → IsSocks p s
    → IsOwned p (held_all p r.datagrams ++ queued_chains p s.queues)
    → Moves p (held_all p r.datagrams) q (d ∷ held_all q t.datagrams)
    → ((rest : State) (held : Weight) → IsAccounted p (reass.with_waiting p r.datagrams c rest) held
    → IsAccounted q (reass.with_waiting q t.datagrams b rest) (held ⊕ weight_owned q (d ∷ [])))
    → IsInput (host_view q s t b) d g.src g.dst g.proto whole u
    → HasCome (host_view p s r a) packet (Completed whole) u
came_whole {p} {q} {s} r t {a} {b} {c} {packet} {h} {d} {whole} {u} g i is socks owned moves accounts input =
    let kept : KeepsParts (host_view p s r a) [] (host_view q s t b) (d ∷ []) =
    placed p s r a c packet h i (Whole d g) q t b is socks owned moves accounts in
    let same : (rest : State) → with_net q s (unfinished q t.datagrams) b rest
    ≡ reass.with_waiting q t.datagrams b (with_sockets p s rest) =
    now p s r a c packet h i (Whole d g) q t b is socks owned moves accounts in
    record {
      step = λ rest acc.
          comes p s r a c packet h i (Whole d g) q t b is (Completed whole) rest (net_state u rest) acc
          (subst (λ (m : State). WholeArrivesAs exact_ledger (told_whole whole) nothing g.src g.dst g.proto
          (item_at q d) m
          (net_state u rest))
          (same rest) (input.step rest nothing (kept.accounts rest nothing acc)));
      parts = keeps_trans kept input.parts;
    }
