-- A fragment at its place in the table.
use Rattle.std.proofs.Common.{◌≡◌, ℕ, ◌*◌, ◌<◌, ◌≤◌, Bool, true, false, List, [], ◌∷◌, length, find, Option, Some, None, refl, sym, ap, ◌∙◌, subst, arith, inl, inr}
use Rattle.std.specs.Prelude.{count_by}
use Rattle.flat_model.specs.Machine.Fate.{told}
use Rattle.flat_model.specs.declared.fate.Fate.{Fate}
use Rattle.flat_model.specs.Amounts.Weight.{Weight, ◌⊕◌}
use Rattle.flat_model.specs.Machine.Arrival.{JoinsAs, InsertsAs, Ended}
use Rattle.flat_model.specs.Machine.Ledger.{exact_ledger, need_mbufs}
use Rattle.flat_model.specs.Machine.Count.{counted}
use Rattle.flat_model.specs.Machine.State.{State, Key, is_key}
use Rattle.flat_model.specs.declared.counters.Counters.{Counters}
use Rattle.flat_model.specs.declared.counters.Why.TheVariants.{FragmentDropped, NoBufs}
use Rattle.mbuf_chain.specs.Chain.{PoolView, chain_of, string, without}
use Rattle.mbuf_chain.specs.Owners.{IsOwned, Moves}
use Rattle.mbuf_chain.proofs.Laws.Owners.{moves_trans}
use Rattle.ledger.specs.Accounts.{IsAccounted, weight_at}
use Rattle.ledger.specs.Reserve.{Reserves, are_free}
use Rattle.ip_reass.specs.Arrivals.{with_waiting}
use Rattle.ip_reass.specs.Fragments.{fragment_of}
use Rattle.ip_reass.specs.Inside.Place.{RequestsMbuf, IsFirst, HasBegun, HasPlace}
use Rattle.ip_reass.specs.Inside.Steps.{datagram_at}
use Rattle.ip_reass.specs.Inside.Walks.{arrived}
use Rattle.ip_reass.specs.Layouts.{HasCause, HasLayout, LeavesAt, WaitOrNone, cause_among, queues, under}
use Rattle.ip_reass.specs.Same.{distinct_same}
use Rattle.ip_reass.specs.Table.{TableView, IsReady, IsTable, has_key, held_all, new_datagram, unfinished, unfinished_of}
use Rattle.ip_reass.specs.declared.arrival.Arrival.{Arrival}
use Rattle.ip_reass.specs.declared.datagram.Datagram.{Datagram}
use Rattle.ip_reass.proofs.ArriveLemmas.{joins_found, joins_none, none_by_key}
use Rattle.ip_reass.proofs.IndexAfter.{length_more}
use Rattle.ip_reass.proofs.Queues.{begins_cause, begins_layout, found_cause, found_layout, none_reserved, wait_reserved, wait_then}
use Rattle.ip_reass.proofs.Reserve.{Began, Freed, Stays, began, begins_here, freed, lacking, stays}

-- an mbuf is requested
pub asks : (p q : PoolView) (r s : TableView) (c d : Counters) (answer : Bool) → ((x : State) (held : Weight)
    → x.unfinished ≡ unfinished p r.datagrams → x.counters ≡ c → IsAccounted p x held
    → Reserves x held (need_mbufs 1) answer (record x { unfinished = unfinished q s.datagrams; counters = d }) q)
    → Moves p (held_all p r.datagrams) q (held_all q s.datagrams) → IsReady q s → answer ≡ are_free q 1 0
    → (are_free p 1 0 ≡ true → (q ≡ p) × (s ≡ r) × (d ≡ c)) → (are_free p 1 0 ≡ false → length s.datagrams ≡ 0)
    → RequestsMbuf p r c answer q s d
asks p q r s c d answer reserves moves ready is kept none = record {
  has_buffers = λ rest held acc. (reserves (with_waiting p r.datagrams c rest) held refl refl acc).has_buffers;
  waits = wait_reserved p q r s c d (are_free p 1 0) kept none;
  none = λ refused. none_reserved p q r s c d answer kept none is refused;
  ready = ready;
  moves = moves;
}

-- The caller holds chain n. To put it at place i of s is a step from r in which it joins the datagram of key k.
pub record Placed (p : PoolView) (r : TableView) (c : Counters) (k : Key) (n i : ℕ) (q : PoolView) (s : TableView)
    (d : Counters) : Type 0 where
  pub within : i < length s.datagrams
  pub table : IsTable q s.datagrams
  pub stays : Stays p r.datagrams n q s.datagrams
  pub room : q.mbufs ≤ 2 * s.room
  pub step : (fate : Fate) (rest : State) (held : Weight) (new : State) (offset : ℕ) (more : Bool)
      → IsAccounted p (with_waiting p r.datagrams c rest) (held ⊕ weight_at p n)
      → (is_key k (unfinished_of q (datagram_at s.datagrams i)) ≡ true
      → count_by (is_key k) (unfinished q s.datagrams) ≤ 1
      → InsertsAs exact_ledger (told fate) held k (fragment_of (arrived q n offset more))
      (unfinished_of q (datagram_at s.datagrams i))
      (with_waiting q s.datagrams d rest) new)
      → JoinsAs exact_ledger (told fate) held k (fragment_of (arrived p n offset more))
      (with_waiting p r.datagrams c rest) new
  pub layout : (offset : ℕ) (more : Bool) (result : Arrival) (t : PoolView) (ts : List Datagram)
      → LeavesAt i (arrived q n offset more) (queues q s.datagrams) t result (queues t ts)
      → HasLayout p r.datagrams k (arrived p n offset more) result t ts
  pub cause : (offset : ℕ) (more : Bool) (result : Arrival) (t : PoolView) (ts : List Datagram)
      → LeavesAt i (arrived q n offset more) (queues q s.datagrams) t result (queues t ts)
      → HasCause FragmentDropped result
      → HasCause (cause_among (under k (queues t ts)) (arrived p n offset more)) result

module _ (p : PoolView) (r : TableView) (c : Counters) (k : Key) (n i : ℕ) (ready : IsReady p r)
    (owns : IsOwned p (n ∷ held_all p r.datagrams)) (some : 0 < length (string (chain_of p n))) where
  here : IsFirst k r.datagrams i → Placed p r c k n i p r c
  here first = record {
    within = first.within;
    table = ready.table;
    stays =
        stays p p r.datagrams r.datagrams n owns
        (record { mbufs = refl; clusters = refl; others = λ k l t. refl; owned = λ k. refl });
    room = ready.room;
    step = λ fate rest held new offset more acc inserts.
        joins_found fate rest held new k (fragment_of (arrived p n offset more)) p r.datagrams c i first ready.distinct
        inserts;
    layout = λ offset more result t ts leaves.
        found_layout p t r.datagrams ts k (arrived p n offset more) i result first leaves;
    cause = λ offset more result t ts leaves why.
        found_cause p t r.datagrams ts k (arrived p n offset more) i result first leaves why;
  }

  new : (q : PoolView) (s : TableView) (d : Counters) → find (has_key k) r.datagrams ≡ None
      → HasBegun p r c k i q s d → Placed p r c k n i q s d
  new q s d fresh b =
      let st : Stays p r.datagrams n b.mid b.left.datagrams =
      stays p b.mid r.datagrams b.left.datagrams n owns b.asked.moves in
      let bg : Began b.mid b.left.datagrams n k q s.datagrams i =
      began b.mid q b.left.datagrams s.datagrams n b.holder i k b.asked.ready.table st.owned b.adds b.change b.place in
      let chain : chain_of q n ≡ chain_of p n = bg.stays.chain ∙ st.chain in
      record {
        within =
            omega (
              arith,
              b.place,
              ap (λ (ds : List Datagram). length ds) b.change,
              length_more b.left.datagrams (new_datagram k b.holder),
            );
        table = bg.table;
        stays = record {
          owned = bg.stays.owned;
          chain = chain;
          live = bg.stays.live;
          moves = moves_trans st.moves bg.stays.moves;
        };
        room = omega (arith, bg.stays.moves.mbufs, b.room, b.asked.ready.room);
        step = λ fate rest held new offset more acc inserts.
            joins_none fate rest held new k (fragment_of (arrived p n offset more)) p r.datagrams c
            (none_by_key p k r.datagrams fresh)
            (begins_here fate rest held new k p b.mid q r.datagrams b.left.datagrams s.datagrams c d n i offset more
            (none_by_key p k r.datagrams fresh) (b.asked.has_buffers rest (held ⊕ weight_at p n) acc) chain bg inserts);
        layout = λ offset more result t ts leaves.
            begins_layout p b.mid q t r.datagrams b.left.datagrams s.datagrams ts k n i offset more result b.asked.waits
            fresh some chain bg.rows b.place leaves;
        cause = λ offset more result t ts leaves why.
            begins_cause (cause_among (under k (queues t ts)) (arrived p n offset more)) p b.mid q t b.left.datagrams
            s.datagrams ts k n i offset more result some chain bg.rows b.place leaves;
      }

  -- **in both cases**
  pub placed : (q : PoolView) (s : TableView) (d : Counters) → HasPlace p r c k (Some i) q s d
      → Placed p r c k n i q s d
  placed q s d (inl a) =
      subst (λ e. Placed p r c k n i q s e) (sym a.3)
      (subst (λ t. Placed p r c k n i q t c) (sym a.2)
      (subst (λ o. Placed p r c k n i o r c) (sym a.1) (here a.0)))
  placed q s d (inr a) = new q s d a.0 a.1

-- **the same in the caller's terms**
pub placed_in : (p : PoolView) (r : TableView) (c : Counters) (k k' : Key) (n i : ℕ) → IsReady p r
    → IsOwned p (n ∷ held_all p r.datagrams) → 0 < length (string (chain_of p n)) → (q : PoolView)
    (s s' : TableView) (d : Counters) (o : Option ℕ) → k' ≡ k → s' ≡ s → o ≡ Some i → HasPlace p r c k' o q s d
    → Placed p r c k n i q s' d
placed_in p r c k k' n i ready owns some q s s' d o key same is place =
    placed p r c k n i ready owns some q s' d
    (subst (λ j. HasPlace p r c j (Some i) q s' d) key
    (subst (λ t. HasPlace p r c k' (Some i) q t d) (sym same) (subst (λ m. HasPlace p r c k' m q s d) is place)))

-- The caller held chain n, no mbuf was free for its key, and it was freed.
pub record Lacks (p : PoolView) (r : TableView) (c : Counters) (k : Key) (n : ℕ) (t : PoolView) (s : TableView)
    (d : Counters) : Type 0 where
  pub ready : IsReady t s
  pub moves : Moves p (n ∷ held_all p r.datagrams) t (held_all t s.datagrams)
  pub waits : WaitOrNone (queues p r.datagrams) (queues t s.datagrams)
  pub none : queues t s.datagrams ≡ []
  pub step : (fate : Fate) (rest : State) (held : Weight) (new : State) (offset : ℕ) (more : Bool) (e : Counters)
      → IsAccounted p (with_waiting p r.datagrams c rest) (held ⊕ weight_at p n) → e ≡ counted NoBufs d
      → told fate (Ended NoBufs) new (with_waiting t s.datagrams e rest)
      → JoinsAs exact_ledger (told fate) held k (fragment_of (arrived p n offset more))
      (with_waiting p r.datagrams c rest) new

pub lacks_in : (p : PoolView) (r : TableView) (c : Counters) (k k' : Key) (n : ℕ)
    → IsOwned p (n ∷ held_all p r.datagrams) → (q t : PoolView) (s : TableView) (d : Counters) (o : Option ℕ) → k' ≡ k
    → o ≡ None → HasPlace p r c k' o q s d → t ≡ without q n → Lacks p r c k n t s d
lacks_in p r c k k' n owns q t s d o key is place gone =
    let here : HasPlace p r c k None q s d =
    subst (λ j. HasPlace p r c j None q s d) key (subst (λ m. HasPlace p r c k' m q s d) is place) in
    let asked : RequestsMbuf p r c false q s d = here.1 in
    let fr : Freed p r.datagrams n q t s.datagrams =
    freed p q t r.datagrams s.datagrams n (stays p q r.datagrams s.datagrams n owns asked.moves) asked.ready.table
    gone in
    record {
      ready = record {
        table = fr.table;
        fragments = asked.ready.fragments;
        room = omega (arith, asked.ready.room, ap (λ (x : PoolView). x.mbufs) gone);
        distinct = distinct_same q t s.datagrams s.datagrams fr.shows asked.ready.distinct;
      };
      moves = fr.moves;
      waits = wait_then (queues p r.datagrams) (queues q s.datagrams) (queues t s.datagrams) asked.waits fr.rows;
      none = fr.rows ∙ asked.none refl;
      step = λ fate rest held new offset more e acc counts now.
          joins_none fate rest held new k (fragment_of (arrived p n offset more)) p r.datagrams c
          (none_by_key p k r.datagrams here.0)
          (lacking fate rest held new k (fragment_of (arrived p n offset more)) p q t r.datagrams s.datagrams c d e
          (asked.has_buffers rest (held ⊕ weight_at p n) acc) fr.shows counts now);
    }
