-- A packet from the wire: its layout in an mbuf chain, and its arrival.
use Rattle.std.proofs.Common.{◌≡◌, ◌⊎◌, ℕ, zero, suc, ◌-◌, ◌<◌, ◌≤◌, min, Bool, true, false, cond, List, [], ◌∷◌, ◌++◌, length, is_some, refl, sym, ap, ◌∙◌, subst, arith, inl, inr}
use Rattle.std.specs.Prelude.{count_by, nat_le, slice_index_or}
use Rattle.std.proofs.lemmas.Bool.{true≢false, cases_lt}
use Rattle.std.proofs.lemmas.List.{length-take}
use Rattle.std.proofs.lemmas.List.Elements.{All-from_recursion}
use Rattle.flat_model.specs.Amounts.Weight.{Item, nothing}
use Rattle.flat_model.specs.Amounts.Layout as flat
use Rattle.flat_model.specs.Amounts.Layout.{Need, Room, Plain, Cluster, filled, is_cluster, entries_on, need_of, next_room, size_of, wire}
use Rattle.flat_model.specs.Machine.Count.{counted}
use Rattle.flat_model.specs.Machine.State.{State, ends}
use Rattle.flat_model.specs.Machine.Ledger.{HasBuffers, IsFree, exact_ledger}
use Rattle.flat_model.specs.Machine.Arrival.{ArrivesAs, By_wire}
use Rattle.flat_model.specs.Machine.Fate.{told}
use Rattle.flat_model.specs.declared.fate.Fate.{Fate}
use Rattle.flat_model.specs.declared.fate.Fate.TheVariants.{Dropped}
use Rattle.flat_model.specs.declared.counters.Counters.{Counters}
use Rattle.flat_model.specs.declared.counters.Why.TheVariants.{NoBufs}
use Rattle.flat_model.proofs.Laws.{count_cons}
use Rattle.mbuf_chain.specs.Chain.{ChainView, Entry, PoolView, chain_of, entry_of, no_entry, string}
use Rattle.mbuf_chain.specs.Owners.{IsOwned}
use Rattle.mbuf_chain.proofs.Laws.Owners.{moves_adds, owned_after}
use Rattle.chain_ops.specs.Stored.{stored_first}
use Rattle.ledger.specs.Accounts.{item_at, entries_weight, IsAccounted}
use Rattle.ledger.specs.Reserve.{Reserves}
use Rattle.pcb_table.specs.Table.{machine}
use Rattle.ip_reass.specs.Arrivals.{CameByWire}
use Rattle.ip_reass.specs.Table.{TableView, IsReady, held_all, unfinished}
use Rattle.sock_calls.proofs.Laws.{keeps_trans, placed_weight, bag_of_times, free_each}
use Rattle.sock_calls.specs.Sockets.{SocksView, IsSocks, queued_chains, with_net}
use Rattle.sock_calls.specs.Delivery.{NetView, KeepsParts, net_state}
use Rattle.net_stack.specs.Inside.Arrivals.{HasCome, IsArrived, IsAsked, IsPacketStored}
use Rattle.net_stack.proofs.Aside.{Aside, aside, aside_keeps, counters_accounts, host_view, BesideSocks, beside_socks}

-- ---- the first mbuf shows how the packet came

first_room : (n : ℕ) → (rooms : List Room) × (wire n ≡ next_room 2048 100 n ∷ rooms)
unfolding filled
first_room zero = ([], refl)
first_room (suc n) = (filled n 2048 108 (suc n - size_of (next_room 2048 100 (suc n))), refl)

record IsFirst (n : ℕ) (e : Entry) : Type 0 where
  cluster : is_some e.cluster ≡ nat_le 208 n
  size : length e.bytes ≡ cond (nat_le 208 n) (min n 2048) (min n 100)

first_is : (n : ℕ) (cs : List ℕ) (rooms : List Room) (xs : List ℕ) → length xs ≡ n
    → length cs ≡ count_by is_cluster (next_room 2048 100 n ∷ rooms)
    → IsFirst n (slice_index_or (stored_first 0 false cs (next_room 2048 100 n ∷ rooms) xs) 0 no_entry)
first_is n cs rooms xs len number = let r = go (nat_le 208 n) cs number in record { cluster = r.0; size = r.1 }
  where
    go : (b : Bool) (cs : List ℕ) → length cs ≡ count_by is_cluster
        (cond b (Cluster (min n 2048)) (Plain (min n 100)) ∷ rooms)
        → (is_some (slice_index_or (stored_first 0 false cs (cond b (Cluster (min n 2048)) (Plain (min n 100)) ∷ rooms)
        xs) 0 no_entry).cluster ≡ b)
        × (length (slice_index_or (stored_first 0 false cs (cond b (Cluster (min n 2048)) (Plain (min n 100)) ∷ rooms)
        xs) 0 no_entry).bytes ≡ cond b (min n 2048) (min n 100))
    go true [] h = absurd (omega (arith, h, count_cons is_cluster (Cluster (min n 2048)) rooms))
    go true (c ∷ cs) h = (refl, omega (arith, len, length-take (min n 2048) xs))
    go false cs h = (refl, omega (arith, len, length-take (min n 100) xs))

pub came_by_wire : (v : ChainView) (cs xs : List ℕ) → v.entries ≡ stored_first 0 false cs (wire (length xs)) xs
    → length cs ≡ count_by is_cluster (wire (length xs)) → string v ≡ xs → CameByWire (length xs) v
came_by_wire v cs xs entries number bytes =
    let n : ℕ = length xs in
    let r = first_room n in
    let f : IsFirst n (entry_of v 0) = subst (λ (es : List Entry). IsFirst n (slice_index_or es 0 no_entry))
    (sym (entries ∙ ap (λ (rooms : List Room). stored_first 0 false cs rooms xs) r.1))
    (first_is n cs r.0 xs refl (number ∙ ap (count_by is_cluster) r.1)) in
    record { cluster = f.cluster; holds = go (nat_le 208 n) refl f.size (cases_lt 2048 n) (cases_lt 100 n) }
  where
    go : (b : Bool) → nat_le 208 (length xs) ≡ b
        → length (entry_of v 0).bytes ≡ cond b (min (length xs) 2048) (min (length xs) 100) → (2048 < length xs)
        ⊎ (length xs ≤ 2048) → (100 < length xs) ⊎ (length xs ≤ 100)
        → (length (string v) ≤ length (entry_of v 0).bytes) ⊎ (40 < length (entry_of v 0).bytes)
    go true e size (inl l) m = inr (omega (arith, size, l))
    go true e size (inr l) m = inl (omega (arith, size, l, ap (λ (ys : List ℕ). length ys) bytes))
    go false e size l (inl m) = inr (omega (arith, size, m))
    go false e size l (inr m) = inl (omega (arith, size, m, ap (λ (ys : List ℕ). length ys) bytes))

-- ---- the event

-- making room for the packet keeps the sockets
pub asked_socks : {p q : PoolView} {s : SocksView} {r t : TableView} {a b : Counters} {need : Need} {answer : Bool}
    → IsSocks p s → IsOwned p (held_all p r.datagrams ++ queued_chains p s.queues) → IsAsked p r a need answer q t b
    → BesideSocks p s (held_all p r.datagrams) q [] (held_all q t.datagrams)
asked_socks {p} {q} {s} {r} {t} socks owned is =
    beside_socks (held_all p r.datagrams) [] (held_all q t.datagrams) owned socks is.moves

-- and it keeps all parts, whatever was counted
pub asked_keeps : {p q : PoolView} {s : SocksView} {r t : TableView} {a b : Counters} {need : Need} {answer : Bool}
    (d : Counters) → IsSocks p s → IsOwned p (held_all p r.datagrams ++ queued_chains p s.queues)
    → IsAsked p r a need answer q t b → KeepsParts (host_view p s r a) [] (host_view q s t d) []
asked_keeps {p} {q} {s} {r} {t} {a} {b} d socks owned is =
    let beside = asked_socks socks owned is in
    let now : (rest : State) → with_net q s (unfinished q t.datagrams) d rest
    ≡ record (with_net p s (unfinished p r.datagrams) a rest) { unfinished = unfinished q t.datagrams; counters = d } =
    λ rest i. machine (record rest { unfinished = unfinished q t.datagrams; counters = d })
    (λ fd. beside.socks.shows fd i) s.pcbs in
    record {
      accounts = λ rest held acc. subst (λ (m : State). IsAccounted q m held) (sym (now rest))
          (counters_accounts d
          (is.reserves (with_net p s (unfinished p r.datagrams) a rest) held refl refl acc).accounted);
      ready = beside.socks.ready;
      pcbs = refl;
      moves = beside.moves;
    }

pub lost : {p q : PoolView} {s : SocksView} {r t : TableView} {a b d : Counters} {need : Need} {answer : Bool}
    (packet : List ℕ) → IsSocks p s → IsOwned p (held_all p r.datagrams ++ queued_chains p s.queues)
    → IsAsked p r a need answer q t b
    → need ≡ need_of (wire (length packet)) → answer ≡ false → d ≡ counted NoBufs b
    → HasCome (host_view p s r a) packet (Dropped NoBufs) (host_view q s t d)
lost {p} {q} {s} {r} {t} {a} {b} {d} {need} {answer} packet socks owned is is_need no_answer is_d =
    let beside = asked_socks socks owned is in
    let mid : State → State = λ rest. record (with_net p s (unfinished p r.datagrams) a rest)
    { unfinished = unfinished q t.datagrams; counters = b } in
    let now : (rest : State) → with_net q s (unfinished q t.datagrams) d rest ≡ ends NoBufs (mid rest) =
    λ rest i. machine (record rest { unfinished = unfinished q t.datagrams; counters = is_d i })
    (λ fd. beside.socks.shows fd i) s.pcbs in
    record {
      step = λ rest acc. (
        answer,
        mid rest,
        subst (λ (n : Need). HasBuffers exact_ledger (with_net p s (unfinished p r.datagrams) a rest) nothing n answer
            (mid rest)) is_need (is.reserves (with_net p s (unfinished p r.datagrams) a rest) nothing refl refl
            acc).has_buffers,
        record { yes = λ e. absurd (true≢false (sym e ∙ no_answer)); no = λ e. (refl, now rest) },
      );
      parts = asked_keeps d socks owned is;
    }

-- what the arrival of the packet in chain c requires
pub record IsReadyToArrive (q : PoolView) (s : SocksView) (t : TableView) (q1 : PoolView) (c : ℕ) : Type 0 where
  pub beside : Aside q t s [] q1 (c ∷ [])
  pub header : (chain_of q1 c).front.header ≡ true

pub stored_ready : {p q q1 : PoolView} {s : SocksView} {r t : TableView} {a b : Counters} {need : Need} {answer : Bool}
    {packet : List ℕ} {c : ℕ} → IsSocks p s → IsOwned p (held_all p r.datagrams ++ queued_chains p s.queues)
    → IsAsked p r a need answer q t b → IsReady q t → IsPacketStored q packet q1 c → IsReadyToArrive q s t q1 c
stored_ready {c = c} socks owned is ready placed =
    let beside = asked_socks socks owned is in
    record {
      beside = aside [] (c ∷ []) (owned_after beside.moves owned) ready beside.socks.ready
          (moves_adds placed.made.adds);
      header = ap (λ f. f.header) placed.made.front;
    }

pub came : {p q q1 : PoolView} {s : SocksView} {r t : TableView} {a b : Counters} {need : Need} {answer : Bool} {c : ℕ}
    {fate : Fate} {u : NetView} (packet : List ℕ) → IsSocks p s → IsOwned p
    (held_all p r.datagrams ++ queued_chains p s.queues)
    → IsAsked p r a need answer q t b → need ≡ need_of (wire (length packet)) → answer ≡ true → IsReady q t
    → IsPacketStored q packet q1 c
    → IsArrived (host_view q1 s t b) c fate u
    → HasCome (host_view p s r a) packet fate u
came {p} {q} {q1} {s} {r} {t} {a} {b} {need} {answer} {c} {fate} {u} packet socks owned is is_need yes_answer ready
    placed
    arrived =
    let beside = asked_socks socks owned is in
    let x : Aside q t s [] q1 (c ∷ []) = (stored_ready socks owned is ready placed).beside in
    let old : State → State = λ rest. with_net p s (unfinished p r.datagrams) a rest in
    let mid : State → State = λ rest. record (old rest) { unfinished = unfinished q t.datagrams; counters = b } in
    let now : (rest : State) → with_net q s (unfinished q t.datagrams) b rest ≡ mid rest =
    λ rest i. machine (record rest { unfinished = unfinished q t.datagrams; counters = b })
    (λ fd. beside.socks.shows fd i) s.pcbs in
    let asked : (rest : State) → IsAccounted p (old rest) nothing
    → Reserves (old rest) nothing need answer (mid rest) q =
    λ rest acc. is.reserves (old rest) nothing refl refl acc in
    let placed_out : KeepsParts (host_view p s r a) [] (host_view q1 s t b) (c ∷ []) =
    keeps_trans (asked_keeps b socks owned is) (aside_keeps b b x) in
    let item : item_at q1 c ≡ record {
      bytes = packet;
      weight = flat.weight_of (entries_on placed.clusters (wire (length packet)));
    } =
    λ i. record {
      bytes = placed.bytes_are i;
      weight = (ap entries_weight placed.made.entries ∙ sym (placed_weight _)
          ∙ ap flat.weight_of placed.layout) i;
    } in
    record {
      step = λ rest acc. (
        answer,
        mid rest,
        subst (λ (n : Need). HasBuffers exact_ledger (old rest) nothing n answer (mid rest)) is_need
            (asked rest acc).has_buffers,
        record {
          yes = λ e. (
            placed.clusters,
            record {
              number = placed.number;
              distinct = λ k. omega (arith, bag_of_times k placed.clusters, placed.free.once k);
              free = All-from_recursion (IsFree (mid rest) nothing) placed.clusters
                  (free_each q (mid rest) placed.clusters (asked rest acc).accounted placed.free.exist
                  placed.free.free);
            },
            subst (λ (i : Item). ArrivesAs exact_ledger (told fate) (By_wire (length packet)) nothing i (mid rest)
                (net_state u rest)) item
                (subst (λ (m : State). ArrivesAs exact_ledger (told fate) (By_wire (length packet)) nothing
                (item_at q1 c) m
                (net_state u rest)) (x.shows b rest ∙ now rest)
                (arrived.step rest nothing (By_wire (length packet))
                (came_by_wire (chain_of q1 c) placed.clusters packet placed.made.entries placed.number placed.bytes_are)
                (placed_out.accounts rest nothing acc))),
          );
          no = λ e. absurd (true≢false (sym yes_answer ∙ e));
        },
      );
      parts = keeps_trans placed_out arrived.parts;
    }
