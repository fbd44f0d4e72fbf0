-- A packet that was read in place: it's stored directly for the one socket that matches it, or dropped.
use Rattle.std.proofs.Common.{◌≡◌, ℕ, ◌-◌, Bool, true, false, None, Result, Ok, Err, List, [], ◌∷◌, ◌++◌, length, refl, sym, ap, ◌∙◌, subst, arith, inl, inr}
use Rattle.std.specs.Prelude.{count_by, ◌&&◌}
use Rattle.std.specs.List.{AllByRecursion as Each}
use Rattle.std.proofs.lemmas.Bool.{true≢false, false≢true, le-leb}
use Rattle.std.proofs.lemmas.List.Elements.{All-from_recursion, recursion_from_All}
use Rattle.flat_model.specs.Amounts.Weight.{Weight, nothing, ◌⊕◌}
use Rattle.flat_model.specs.Amounts.Layout as flat
use Rattle.flat_model.specs.Amounts.Layout.{is_cluster, entries_on, need_of, wire}
use Rattle.flat_model.specs.Packets.Header.{head_fault, head_of}
use Rattle.flat_model.specs.Machine.Count.{counted, counts_more}
use Rattle.flat_model.specs.Machine.Ledger as state
use Rattle.flat_model.specs.Machine.Ledger.{AreTaken, IsFree, exact_ledger, has_enough}
use Rattle.flat_model.specs.Machine.State.{State, Unfinished, ends}
use Rattle.flat_model.specs.Machine.Step.{ComesInAs}
use Rattle.flat_model.specs.Machine.Arrival.{By_wire, ArrivesAs, counts_packet, is_for_us, is_fragment}
use Rattle.flat_model.specs.Machine.Fate.{told}
use Rattle.flat_model.specs.declared.fate.Fate.{Fate}
use Rattle.flat_model.specs.declared.fate.Fate.TheVariants.{Delivered}
use Rattle.flat_model.specs.declared.fate.Reached.{Reached}
use Rattle.flat_model.specs.declared.counter.Counter.TheVariants.{IpTotal}
use Rattle.flat_model.specs.declared.counters.Counters.{Counters}
use Rattle.flat_model.specs.declared.counters.Why.{Why}
use Rattle.flat_model.proofs.Laws.{placed_memory}
use Rattle.mbuf_chain.specs.Chain.{PoolView, free_clusters, held_mbufs}
use Rattle.mbuf_chain.specs.Owners.{times_among, IsOwned}
use Rattle.mbuf_chain.proofs.Laws.Owners.{times-append, live_at_most, moves_beside, moves_none, same_beside}
use Rattle.chain_ops.specs.Stored.{Has}
use Rattle.ledger.specs.Accounts.{IsAccounted}
use Rattle.ledger.specs.Reserve.{are_free}
use Rattle.ledger.proofs.Laws.{some_free, test_is}
use Rattle.ip_out.specs.Headed.{carried_of}
use Rattle.ip_reass.specs.Table.{TableView, IsReady, held_all, unfinished}
use Rattle.sock_calls.specs.Sockets.{SocksView, IsSocks, queued_chains, with_net, with_sockets}
use Rattle.sock_calls.specs.Delivery.{NetView, net_state}
use Rattle.sock_calls.specs.Whole.{ArrivesWhole, DeliversWhole, EndsWhole, HasOne, StoresWhole, carried_item, got_by}
use Rattle.sock_calls.proofs.Laws.{keeps_trans}
use Rattle.net_stack.specs.Inside.Arrivals.{EndsFor, HasCome, IsAsked, fate_of}
use Rattle.net_stack.proofs.Aside.{Aside, aside, aside_keeps, counters_accounts, host_view}
use Rattle.net_stack.proofs.ArriveLemmas.{as_fate, passes}
use Rattle.net_stack.proofs.ReceiveLemmas.{asked_keeps, asked_socks}
use Rattle.net_stack.proofs.PartSteps.{ReassKept, reass_kept}
use Rattle.pcb_table.specs.Table.{machine}

-- clusters that are free in one state are free in another with the same reference counts
free_as : (x y : State) → y.config.clusters ≡ x.config.clusters
    → ((c : ℕ) → state.count_of y nothing c ≡ state.count_of x nothing c) → (xs : List ℕ)
    → Each (IsFree x nothing) xs → Each (IsFree y nothing) xs
free_as x y size same [] h = tt
free_as x y size same (c ∷ cs) h = (
  record { exists = omega (arith, size, h.0.exists); free = same c ∙ h.0.free },
  free_as x y size same cs h.1,
)

-- ---- its buffers are free

pub enough : {p : PoolView} {s : State} (n : ℕ) → IsAccounted p s nothing → Has p (wire n)
    → has_enough s nothing (need_of (wire n)) ≡ true
enough {p} {s} n acc has =
    test_is p s nothing (need_of (wire n)) acc
    ∙ (λ i. le-leb (length (wire n)) (p.mbufs - held_mbufs p) (omega (arith, has.0)) i
    && le-leb (count_by is_cluster (wire n)) (free_clusters p) has.1 i)

-- the buffers are available at once, and nothing was reclaimed
pub asked_now : (p : PoolView) (r : TableView) (a : Counters) (n : ℕ) → Has p (wire n)
    → IsAsked p r a (need_of (wire n)) true p r a
asked_now p r a n has = record {
  reserves = λ s held us cs acc.
      let same : record s { unfinished = unfinished p r.datagrams; counters = a } ≡ s =
      λ i. record s { unfinished = sym us i; counters = sym cs i } in
      let free : are_free p (length (wire n)) (count_by is_cluster (wire n)) ≡ true =
      λ i. le-leb (length (wire n)) (p.mbufs - held_mbufs p) (omega (arith, has.0)) i
      && le-leb (count_by is_cluster (wire n)) (free_clusters p) has.1 i in
      record {
        has_buffers = inl (sym (test_is p s held (need_of (wire n)) acc ∙ free), same);
        accounted = record {
          mbufs = acc.mbufs;
          clusters = acc.clusters;
          total = acc.total ∙ ap (λ (x : State). (state.weight_of_state x ⊕ held).mbufs) (sym same);
          references = λ c. acc.references c ∙ ap (λ (x : State). state.count_of x held c) (sym same);
        };
      };
  moves = moves_none p (held_all p r.datagrams);
}

-- A packet that arrives after its buffers were reserved also arrives in the state before: the same test passes again.
pub again : {p q : PoolView} {s : SocksView} {r t : TableView} {a b : Counters} {packet : List ℕ} {fate : Fate}
    {u : NetView} → IsSocks p s → IsOwned p (held_all p r.datagrams ++ queued_chains p s.queues)
    → IsAsked p r a (need_of (wire (length packet))) true q t b → Has q (wire (length packet))
    → HasCome (host_view q s t b) packet fate u → HasCome (host_view p s r a) packet fate u
again {p} {q} {s} {r} {t} {a} {b} {packet} {fate} {u} socks owned is has came =
    let beside = asked_socks socks owned is in
    let old : State → State = λ rest. with_net p s (unfinished p r.datagrams) a rest in
    let mid : State → State = λ rest. record (old rest) { unfinished = unfinished q t.datagrams; counters = b } in
    let now : (rest : State) → with_net q s (unfinished q t.datagrams) b rest ≡ mid rest =
    λ rest i. machine (record rest { unfinished = unfinished q t.datagrams; counters = b })
    (λ fd. beside.socks.shows fd i) s.pcbs in
    let keeps = asked_keeps b socks owned is in
    record {
      step = λ rest acc.
          let acc2 = keeps.accounts rest nothing acc in
          let one = came.step rest acc2 in
          let there : has_enough (net_state (host_view q s t b) rest) nothing (need_of (wire (length packet))) ≡ true =
          enough (length packet) acc2 has in (
            true,
            mid rest,
            (is.reserves (old rest) nothing refl refl acc).has_buffers,
            record {
              yes = λ _. subst (λ (m : State). (clusters : List ℕ)
                  × AreTaken exact_ledger m (need_of (wire (length packet))).clusters clusters
                  × ArrivesAs exact_ledger (told fate) (By_wire (length packet)) nothing
                  (record { bytes = packet; weight = flat.weight_of (entries_on clusters (wire (length packet))) }) m
                  (net_state u rest)) (now rest)
                  (goes fate (net_state (host_view q s t b) rest) (net_state u rest) packet there one);
              no = λ e. absurd (true≢false e);
            },
          );
      parts = keeps_trans keeps came.parts;
    }
  where
    -- if the buffers of a packet are free, the packet arrives in that state
    goes : (fate : Fate) (x y : State) (packet : List ℕ) → has_enough x nothing (need_of (wire (length packet))) ≡ true
        → ComesInAs exact_ledger (told fate) packet x y
        → (clusters : List ℕ) × AreTaken exact_ledger x (need_of (wire (length packet))).clusters clusters
        × ArrivesAs exact_ledger (told fate) (By_wire (length packet)) nothing
        (record { bytes = packet; weight = flat.weight_of (entries_on clusters (wire (length packet))) }) x y
    goes fate x y packet enough_there (true, m, inl h, c) =
        subst (λ (m : State). (clusters : List ℕ)
        × AreTaken exact_ledger m (need_of (wire (length packet))).clusters clusters
        × ArrivesAs exact_ledger (told fate) (By_wire (length packet)) nothing
        (record { bytes = packet; weight = flat.weight_of (entries_on clusters (wire (length packet))) }) m y) h.1
        (c.yes refl)
    goes fate x y packet enough_there (true, m, inr h, c) = absurd (false≢true (h.0 ∙ enough_there))
    goes fate x y packet enough_there (false, m, h, c) = absurd (false≢true (h.0 ∙ enough_there))

-- ---- a packet whose buffers are free, as an arrival

pub comes_in : {p : PoolView} {x y : State} (fate : Fate) (packet : List ℕ) → IsAccounted p x nothing → Has p
    (wire (length packet))
    → (clusters : List ℕ) × AreTaken exact_ledger x (need_of (wire (length packet))).clusters clusters
    × ArrivesAs exact_ledger (told fate) (By_wire (length packet)) nothing
    (record { bytes = packet; weight = flat.weight_of (entries_on clusters (wire (length packet))) }) x y
    → ComesInAs exact_ledger (told fate) packet x y
comes_in fate packet acc has then = (
  true,
  _,
  inl (sym (enough (length packet) acc has), refl),
  record { yes = λ _. then; no = λ e. absurd (true≢false e) },
)

-- the packet was dropped
pub ended : {p : PoolView} {s : SocksView} {r : TableView} {a b c : Counters} (fate : Fate) (packet : List ℕ)
    (why : Why)
    → IsSocks p s → IsReady p r → IsOwned p (held_all p r.datagrams ++ queued_chains p s.queues)
    → Has p (wire (length packet)) → EndsFor (host_view p s r a) packet fate why → b ≡ counts_more IpTotal 1 a
    → c ≡ counted why b → HasCome (host_view p s r a) packet fate (host_view p s r c)
ended {p} {s} {r} {a} {b} {c} fate packet why socks ready owned has is is_b is_c =
    let count : c ≡ counted why (counts_more IpTotal 1 a) = is_c ∙ ap (counted why) is_b in
    let keeps : Aside p r s [] p [] = aside [] [] owned ready socks (moves_none p []) in
    record {
      step = λ rest acc.
          let old : State = with_net p s (unfinished p r.datagrams) a rest in
          let free = some_free p old (need_of (wire (length packet))).clusters acc has.1 in
          comes_in fate packet acc has (
            free.0,
            free.1,
            subst (λ (new : State). ArrivesAs exact_ledger (told fate) (By_wire (length packet)) nothing
                (record { bytes = packet; weight = flat.weight_of (entries_on free.0 (wire (length packet))) }) old new)
                (λ i. with_net p s (unfinished p r.datagrams) (sym count i) rest)
                (is rest (flat.weight_of (entries_on free.0 (wire (length packet))))
                (placed_memory free.0 (wire (length packet)) free.1.number)),
          );
      parts = aside_keeps a c keeps;
    }

-- a packet for this machine that is no fragment
pub whole_passes : (whole : Result Reached Why) (v : NetView) (packet : List ℕ) (rest new : State) (w : Weight) →
    head_fault packet ≡ None
    → is_for_us (net_state v rest).config (head_of packet).destination ≡ true → is_fragment (head_of packet) ≡ false
    → ArrivesWhole whole packet (record { bytes = carried_of packet; weight = w })
    (counts_packet (net_state v rest)) new
    → ArrivesAs exact_ledger (told (fate_of whole)) (By_wire (length packet)) nothing
    (record { bytes = packet; weight = w }) (net_state v rest)
    new
whole_passes told_so v packet rest new w none ours whole arrives =
    passes (fate_of told_so) packet (By_wire (length packet)) nothing w (net_state v rest) new none (record {
      yes = λ _. record {
        yes = λ e. absurd (true≢false (sym e ∙ whole));
        no = λ _. as_fate told_so nothing (head_of packet).source
            (head_of packet).destination (head_of packet).protocol (record { bytes = carried_of packet; weight = w })
            (counts_packet (net_state v rest)) new arrives;
      };
      no = λ e. absurd (true≢false (sym ours ∙ e));
    })

pub whole_ends : (p : PoolView) (s : SocksView) (r : TableView) (a : Counters) (packet : List ℕ)
    (told_so : Result Reached Why) (why : Why) → head_fault packet ≡ None
    → ((rest : State) → is_for_us (with_net p s (unfinished p r.datagrams) a rest).config (head_of packet).destination
    ≡ true)
    → is_fragment (head_of packet) ≡ false → EndsWhole p s packet told_so why
    → EndsFor (host_view p s r a) packet (fate_of told_so) why
whole_ends p s r a packet told_so why none ours whole is = λ rest w weighs.
    whole_passes told_so (host_view p s r a) packet rest
    (ends why (counts_packet (with_net p s (unfinished p r.datagrams) a rest)))
    w none (ours rest) whole
    (is (record rest { unfinished = unfinished p r.datagrams; counters = counts_more IpTotal 1 a }) w weighs)

-- if one mbuf for the packet and one more are free, its buffers are free
pub has_one : {p : PoolView} {n : ℕ} (is_large : Bool) → HasOne p n is_large → Has p (wire n)
has_one {p} true h = subst (Has p) (sym h.room) (omega (arith, h.mbufs), omega (arith, h.clusters))
has_one {p} false h = subst (Has p) (sym h.room) (omega (arith, h.mbufs), omega arith)

-- the packet was stored
module _ {p q : PoolView} {s t : SocksView} {r : TableView} {packet : List ℕ} {fd : ℕ}
    (owned : IsOwned p (held_all p r.datagrams ++ queued_chains p s.queues)) (ready : IsReady p r)
    (is : StoresWhole p s packet fd q t) where
  -- the unfinished datagrams stay the same
  pub beside : ReassKept p q r
  beside =
      let xs : List ℕ = held_all p r.datagrams in
      let ys : List ℕ = queued_chains p s.queues in
      reass_kept p q r (same_beside xs is.moves (λ k. omega (arith, owned k, times-append k xs ys))
      (λ k some. omega (arith, some, owned k, times-append k xs ys, live_at_most p k))) ready

  pub came_whole : (a b : Counters) → b ≡ counts_more IpTotal 1 a → Has p (wire (length packet))
      → head_fault packet ≡ None
      → ((rest : State) → is_for_us (with_net p s (unfinished p r.datagrams) a rest).config
      (head_of packet).destination ≡ true)
      → is_fragment (head_of packet) ≡ false
      → HasCome (host_view p s r a) packet (Delivered (got_by fd)) (host_view q t r b)
  came_whole a b is_b has none ours whole = record {
    step = λ rest acc.
        let held : State = record rest { unfinished = unfinished p r.datagrams; counters = counts_more IpTotal 1 a } in
        let now : with_net q t (unfinished q r.datagrams) b rest ≡ with_sockets q t held =
        λ i. with_sockets q t (record rest { unfinished = beside.shows i; counters = is_b i }) in
        let done = is.step held (counters_accounts (counts_more IpTotal 1 a) acc) in
        comes_in (Delivered (got_by fd)) packet acc has (
          done.0,
          record {
            number = done.1.number;
            distinct = done.1.distinct;
            free = All-from_recursion (IsFree (with_net p s (unfinished p r.datagrams) a rest) nothing) done.0
                (free_as (with_sockets p s held) (with_net p s (unfinished p r.datagrams) a rest) refl (λ c. refl)
                done.0
                (recursion_from_All (IsFree (with_sockets p s held) nothing) done.0 done.1.free));
          },
          subst (λ (new : State). ArrivesAs exact_ledger (told (Delivered (got_by fd))) (By_wire (length packet))
              nothing
              (record { bytes = packet; weight = flat.weight_of (entries_on done.0 (wire (length packet))) })
              (with_net p s (unfinished p r.datagrams) a rest) new) (sym now)
              (whole_passes (Ok (got_by fd)) (host_view p s r a) packet rest (with_sockets q t held)
              (flat.weight_of (entries_on done.0 (wire (length packet)))) none (ours rest) whole done.2),
        );
    parts = record {
      accounts = λ rest held acc.
          subst (λ (us : List Unfinished). IsAccounted q (with_net q t us b rest) held) (sym beside.shows)
          (counters_accounts b
          (is.accounts (record rest { unfinished = unfinished p r.datagrams; counters = a }) held acc));
      ready = is.ready;
      pcbs = is.pcbs;
      moves = moves_beside (held_all p r.datagrams ++ queued_chains p s.queues)
          (held_all q r.datagrams ++ queued_chains q t.queues) (held_all p r.datagrams) is.moves
          (λ k. times-append k (held_all p r.datagrams) (queued_chains p s.queues))
          (λ k. omega (
            arith,
            times-append k (held_all q r.datagrams) (queued_chains q t.queues),
            ap (times_among k) beside.chains,
          ));
    };
  }

-- the packet was copied into a chain and delivered, or dropped
pub came_delivered : (p : PoolView) (s : SocksView) (r : TableView) (a : Counters) {b : Counters} {packet : List ℕ}
    {whole : Result Reached Why} {u : NetView}
    → b ≡ counts_more IpTotal 1 a → Has p (wire (length packet)) → head_fault packet ≡ None
    → ((rest : State) → is_for_us (with_net p s (unfinished p r.datagrams) a rest).config (head_of packet).destination
    ≡ true)
    → is_fragment (head_of packet) ≡ false → DeliversWhole (host_view p s r b) packet whole u
    → HasCome (host_view p s r a) packet (fate_of whole) u
came_delivered p s r a {b} {packet} {whole} {u} is_b has none ours no_part is = record {
  step = λ rest acc.
      let old : State = with_net p s (unfinished p r.datagrams) a rest in
      let counts : State = with_net p s (unfinished p r.datagrams) b rest in
      let same : counts ≡ counts_packet old = λ i. with_net p s (unfinished p r.datagrams) (is_b i) rest in
      let done = is.step rest (counters_accounts b acc) in
      comes_in (fate_of whole) packet acc has (
        done.0,
        record {
          number = done.1.number;
          distinct = done.1.distinct;
          free = All-from_recursion (IsFree old nothing) done.0
              (free_as counts old refl (λ c. refl) done.0
              (recursion_from_All (IsFree counts nothing) done.0 done.1.free));
        },
        whole_passes whole (host_view p s r a) packet rest (net_state u rest)
            (flat.weight_of (entries_on done.0 (wire (length packet)))) none (ours rest) no_part
            (subst (λ (m : State). ArrivesWhole whole packet (carried_item done.0 packet) m (net_state u rest)) same
            done.2),
      );
  parts = record {
    accounts = λ rest held acc. is.parts.accounts rest held (counters_accounts b acc);
    ready = is.parts.ready;
    pcbs = is.parts.pcbs;
    moves = is.parts.moves;
  };
}
