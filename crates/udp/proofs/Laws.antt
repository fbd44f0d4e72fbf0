-- For the layers above: what happens to a datagram in the flat machine's arrival, and the weight of a chain after each
-- step.
use Rattle.std.proofs.Common.{◌≡◌, ℕ, ◌-◌, ◌<◌, true, false, ◌==◌, cond, List, [], ◌∷◌, map, length, filter_map, Option, Some, None, refl, sym, ap, ◌∙◌, subst, arith, inl, inr}
use Rattle.std.specs.Prelude.{◌⊎◌}
use Rattle.std.proofs.lemmas.List.{length-map}
use Rattle.std.proofs.lemmas.Option.{none-some, same_Some}
use Rattle.flat_model.specs.Amounts.Weight.{Item, Weight}
use Rattle.flat_model.specs.Amounts.Layout as flat
use Rattle.flat_model.specs.Packets.Header.{udp_bytes, udp_fault}
use Rattle.flat_model.specs.Machine.Ledger.{Ledger}
use Rattle.flat_model.specs.Machine.State.{State, Socket, ends}
use Rattle.flat_model.specs.Machine.Arrival.{DeliversAs, Ended, GoesToAs, Offered, Saying, WholeArrivesAs}
use Rattle.flat_model.specs.declared.address.Addr.{Addr}
use Rattle.flat_model.specs.declared.counters.Why.{Why}
use Rattle.flat_model.specs.declared.counters.Why.TheVariants.{NoProtocol}
use Rattle.mbuf_chain.specs.Chain.{ChainView, Entry, PoolView, chain_of, string}
use Rattle.chain_ops.specs.Trims.{only_first, without_first}
use Rattle.chain_ops.specs.Weights.{layout_entries}
use Rattle.ip_out.specs.declared.head.IpHead.{IpHead}
use Rattle.pcb_table.specs.declared.block.Block.{Block}
use Rattle.pcb_table.specs.Table.{Queues, Table, machine, socket_with}
use Rattle.udp.specs.Datagrams.{IsForSockets, IsDropped, IsUnmatched, fault_of, sender_of, without_header}

-- ---- the flat machine's arrival, for every rest of the machine

-- the fault of a datagram of protocol 17, and of one that isn't
tested : (h : IpHead) (s : List ℕ) (o : Option Why) → fault_of h s ≡ o → (h.proto == 17) ≡ true
    → udp_fault h.src h.dst s ≡ o
tested h s o e is17 = sym (ap (λ t. cond t (udp_fault h.src h.dst s) (Some NoProtocol)) is17) ∙ e

untested : (h : IpHead) (s : List ℕ) (o : Option Why) → fault_of h s ≡ o → (h.proto == 17) ≡ false → Some NoProtocol ≡ o
untested h s o e not17 = sym (ap (λ t. cond t (udp_fault h.src h.dst s) (Some NoProtocol)) not17) ∙ e

-- the descriptors of sockets
abbrev pub fds_of : List Socket → List ℕ
fds_of sockets = map (λ (socket : Socket). socket.fd) sockets

module _ (L : Ledger) (Says : Saying) (held : Weight) where
  some_match : (sender : Addr) (item : Item) (destination : ℕ) (sockets : List Socket) (old new : State)
      → 0 < length sockets → DeliversAs L (λ fd lack. Says (Offered (fds_of sockets) fd lack)) held sender item sockets
      old new
      → GoesToAs L Says held sender item destination sockets old new
  some_match sender item destination [] old new some delivers = absurd (omega arith)
  some_match sender item destination (to ∷ more) old new some delivers = delivers

  -- A datagram that is delivered arrives in the machine, whatever happens at its receivers. Its weight is arbitrary.
  pub delivered_arrives : (p q : PoolView) (c d : ℕ) (h : IpHead) (t : Table) (to : List ℕ) (from : Addr) (w : Weight)
      → (is : IsForSockets p c h t q to from d)
      → (rest new : State) (queues : Queues)
      → DeliversAs L (λ fd lack. Says (Offered (fds_of (map (socket_with queues) is.matched.found)) fd lack)) held from
      (record { bytes = udp_bytes (string (chain_of p c)); weight = w }) (map (socket_with queues) is.matched.found)
      (machine rest queues t) new
      → WholeArrivesAs L Says held h.src h.dst h.proto (record { bytes = string (chain_of p c); weight = w })
      (machine rest queues t) new
  delivered_arrives p q c d h t to from w is rest new queues delivers =
      let s : List ℕ = string (chain_of p c) in
      let old : State = machine rest queues t in
      let some : 0 < length (map (socket_with queues) is.matched.found) =
      omega (
        arith,
        is.some,
        ap (λ (xs : List ℕ). length xs) is.matched.named,
        length-map is.matched.found (λ (b : Block). b.fd),
        length-map is.matched.found (socket_with queues),
      ) in
      let goes : GoesToAs L Says held (sender_of h s) (record { bytes = udp_bytes s; weight = w }) h.dst
      (map (socket_with queues) is.matched.found) old new =
      some_match (sender_of h s) (record { bytes = udp_bytes s; weight = w }) h.dst
      (map (socket_with queues) is.matched.found) old new some
      (subst (λ (a : Addr). DeliversAs L (λ fd lack. Says (Offered
      (fds_of (map (socket_with queues) is.matched.found)) fd lack))
      held a (record { bytes = udp_bytes s; weight = w })
      (map (socket_with queues) is.matched.found) old new) is.sender delivers) in
      record {
        yes = λ is17. record {
          none =
              λ _. subst (λ (sockets : List Socket). GoesToAs L Says held (sender_of h s)
              (record { bytes = udp_bytes s; weight = w }) h.dst sockets old new) (sym
              (is.matched.sockets rest queues)) goes;
          some = λ why e. absurd (none-some why (sym (tested h s None is.faultless is17) ∙ e));
        };
        no = λ not17. absurd (none-some NoProtocol (sym (untested h s None is.faultless not17)));
      }

  -- a datagram that is dropped is counted
  pub dropped_arrives : (p q : PoolView) (c : ℕ) (h : IpHead) (t : Table) (why : Why) (w : Weight)
      → IsDropped p c h t q why
      → (rest new : State) (queues : Queues) → Says (Ended why) new (ends why (machine rest queues t))
      → WholeArrivesAs L Says held h.src h.dst h.proto (record { bytes = string (chain_of p c); weight = w })
      (machine rest queues t) new
  dropped_arrives p q c h t why w is rest new queues says = go is.cause
    where
      s : List ℕ
      s = string (chain_of p c)

      old : State
      old = machine rest queues t

      nobody : (found : List Block) → [] ≡ map (λ (b : Block). b.fd) found → map (socket_with queues) found ≡ []
      nobody [] e = refl
      nobody (b ∷ found) e = absurd (omega (arith, ap (λ (xs : List ℕ). length xs) e))

      said : (other : Why) → why ≡ other → Says (Ended other) new (ends other old)
      said other e = subst (λ (y : Why). Says (Ended y) new (ends y old)) e says

      go : (fault_of h s ≡ Some why) ⊎ IsUnmatched h t s why
          → WholeArrivesAs L Says held h.src h.dst h.proto (record { bytes = s; weight = w }) old new
      go (inl fault) = record {
        yes = λ is17. record {
          none = λ none. absurd (none-some why (sym none ∙ tested h s (Some why) fault is17));
          some =
              λ other e. said other (same_Some why other (sym (tested h s (Some why) fault is17) ∙ e));
        };
        no = λ not17. said NoProtocol (sym (same_Some NoProtocol why (untested h s (Some why) fault not17)));
      }
      go (inr unmatched) = record {
        yes = λ is17. record {
          none =
              λ _. subst (λ (sockets : List Socket). GoesToAs L Says held (sender_of h s)
              (record { bytes = udp_bytes s; weight = w }) h.dst sockets old new)
              (sym (unmatched.matched.sockets rest queues ∙ nobody unmatched.matched.found unmatched.matched.named))
              (said _ (unmatched.counted rest queues));
          some = λ other e. absurd (none-some other (sym (tested h s None unmatched.faultless is17) ∙ e));
        };
        no = λ not17. absurd (none-some NoProtocol (sym (untested h s None unmatched.faultless not17)));
      }

-- ---- weights

abbrev bag_of : List Entry → List ℕ
bag_of es = filter_map (λ (x : flat.LayoutEntry). x.cluster) (layout_entries es)

without_first_bag : (n : ℕ) (es : List Entry) → bag_of (without_first n es) ≡ bag_of es
without_first_bag n [] = refl
without_first_bag n (e ∷ es) = go e.cluster (without_first_bag (n - length e.bytes) es)
  where
    go : (o : Option ℕ) → bag_of (without_first (n - length e.bytes) es) ≡ bag_of es
        → bag_of (record e { cluster = o } ∷ without_first (n - length e.bytes) es)
        ≡ bag_of (record e { cluster = o } ∷ es)
    go None later = later
    go (Some k) later = ap (λ (ks : List ℕ). k ∷ ks) later

only_first_bag : (n : ℕ) (es : List Entry) → bag_of (only_first n es) ≡ bag_of es
only_first_bag n [] = refl
only_first_bag n (e ∷ es) = go e.cluster (only_first_bag (n - length e.bytes) es)
  where
    go : (o : Option ℕ) → bag_of (only_first (n - length e.bytes) es) ≡ bag_of es
        → bag_of (record e { cluster = o } ∷ only_first (n - length e.bytes) es)
        ≡ bag_of (record e { cluster = o } ∷ es)
    go None later = later
    go (Some k) later = ap (λ (ks : List ℕ). k ∷ ks) later

without_first_count : (n : ℕ) (es : List Entry) → length (without_first n es) ≡ length es
without_first_count n [] = refl
without_first_count n (e ∷ es) = let later = without_first_count (n - length e.bytes) es in omega arith

only_first_count : (n : ℕ) (es : List Entry) → length (only_first n es) ≡ length es
only_first_count n [] = refl
only_first_count n (e ∷ es) = let later = only_first_count (n - length e.bytes) es in omega arith

-- a delivered chain keeps its mbufs and clusters
pub data_weight : (n : ℕ) (v : ChainView)
    → flat.weight_of (layout_entries (without_header n v).entries) ≡ flat.weight_of (layout_entries v.entries)
data_weight n v = λ j. record { mbufs = mbufs j; bag = bag j }
  where
    cut : List Entry
    cut = only_first n v.entries

    placed_count : (es : List Entry) → length (layout_entries es) ≡ length es
    placed_count es = length-map es (λ (e : Entry). record { size = length e.bytes; cluster = e.cluster })

    mbufs : length (layout_entries (without_first 8 cut)) ≡ length (layout_entries v.entries)
    mbufs =
        omega (
          arith,
          placed_count (without_first 8 cut),
          placed_count v.entries,
          without_first_count 8 cut,
          only_first_count n v.entries,
        )

    bag : bag_of (without_first 8 cut) ≡ bag_of v.entries
    bag = without_first_bag 8 cut ∙ only_first_bag n v.entries
