-- A fragment that is queued directly: its mbufs are those of its packet after `pull_up` and `trim_front`, and the step
-- is that of the packet's chain.
use Rattle.std.proofs.Common.{◌≡◌, ℕ, ◌+◌, ◌-◌, ◌<◌, ◌≤◌, min, Bool, true, false, not, List, [], ◌∷◌, ◌++◌, length, take, drop, None, Some, refl, sym, ap, ◌∙◌, subst, arith, inl, length-append, length-drop}
use Rattle.std.specs.Prelude.{◌&&◌, nat_le}
use Rattle.std.proofs.lemmas.Bool.{false≢true, true≢false, le-leb, leb-true, ltb-true, eqb-true, cond-false}
use Rattle.std.proofs.lemmas.List.{append-nil, drop-take, length-take, take-append-drop, take_all}
use Rattle.flat_model.specs.Machine.Fate.{told}
use Rattle.flat_model.specs.declared.fate.Fate.{Fate}
use Rattle.flat_model.specs.Amounts.Weight.{Weight, nothing, ◌⊕◌}
use Rattle.flat_model.specs.Machine.State.{State}
use Rattle.flat_model.specs.Machine.Count.{counts_more}
use Rattle.flat_model.specs.Machine.Ledger as state
use Rattle.flat_model.specs.Machine.Ledger.{exact_ledger, has_enough, need_mbufs}
use Rattle.flat_model.specs.Machine.Arrival.{counts_fragment, is_bad_fragment, JoinsAs}
use Rattle.flat_model.specs.declared.counters.Counters.{Counters}
use Rattle.flat_model.specs.declared.counter.Counter.TheVariants.{IpFragments}
use Rattle.flat_model.specs.declared.counters.Why.{Why}
use Rattle.flat_model.specs.declared.counters.Why.TheVariants.{BadFragment}
use Rattle.flat_model.proofs.Laws.{both-nothing}
use Rattle.mbuf_chain.specs.Chain.{Entry, ChainView, PoolView, Adds, alone, chain_of, flat_bytes, free_clusters, held_mbufs, without}
use Rattle.mbuf_chain.specs.Owners.{IsOwned, Moves, times_among}
use Rattle.mbuf_chain.specs.Frames.{SameAt}
use Rattle.mbuf_chain.specs.Steps.{joined, narrowed, one_mbuf, empty_entry}
use Rattle.mbuf_chain.proofs.Laws.Owners.{moves_adds, moves_beside, moves_trans, owned_after, same_adds, shown_adds}
use Rattle.mbuf_chain.proofs.Laws.Steps.{adds_undone}
use Rattle.chain_ops.specs.Makes.{Makes}
use Rattle.chain_ops.specs.Pulls.{moved, pulled_len}
use Rattle.chain_ops.specs.Trims.{without_first}
use Rattle.chain_ops.proofs.Laws.Makes.{makes_as, makes_new}
use Rattle.ledger.specs.Accounts.{IsAccounted, weight_at, entries_weight, weight_owned}
use Rattle.ip_out.specs.declared.head.IpHead.{IpHead}
use Rattle.ip_reass.specs.Arrivals.{GoesOn, carried_entries, flat_head, in_hand, key_in, with_waiting}
use Rattle.ip_reass.specs.AtOnce.{ArrivesAtOnce, TakesFree, as_stored, fits_at_once, in_cluster, in_mbufs, stored_by}
use Rattle.ip_reass.specs.Fragments.{QueuedFragment, fragment_of}
use Rattle.ip_reass.specs.Layouts.{ChainArrives, HasCause, HasLayout, KeyedQueue, Leaves, WaitOrNone, cause_among, fragment_carried, queues, under}
use Rattle.ip_reass.specs.Same.{held_all_same, queues_same, ready_same, unfinished_same}
use Rattle.ip_reass.specs.Table.{IsReady, TableView, held_all, unfinished}
use Rattle.ip_reass.specs.Inside.Walks.{arrived}
use Rattle.ip_reass.specs.declared.arrival.Arrival.{Arrival}
use Rattle.ip_reass.specs.declared.datagram.Datagram.{Datagram}
use Rattle.ip_reass.proofs.ArriveLemmas.{accounts, arrives_cluster, arrives_plain, carried_bytes, one_weighs, same_weight}
use Rattle.ip_reass.proofs.Origins.{moved_part}

-- ---- the mbufs

module _ (packet : List ℕ) (k : ℕ) (many : 40 < length packet) where
  abbrev whole : Entry
  whole = record { bytes = packet; start = 0; cluster = Some k }

  abbrev left : Entry
  left = record { bytes = [] ++ take 40 packet; start = 28; cluster = None }

  abbrev right : Entry
  right = narrowed whole 40 (length packet - 40)

  abbrev pub first_entry : Entry
  first_entry = record { bytes = take 20 (drop 20 packet); start = 48; cluster = None }

  abbrev pub second_entry : Entry
  second_entry = record { bytes = take (length packet - 40) (drop 40 packet); start = 40; cluster = Some k }

  pulled : moved (pulled_len 20 (whole ∷ [])) (empty_entry 28 None) (whole ∷ []) ≡ left ∷ right ∷ []
  pulled =
      let most : pulled_len 20 (whole ∷ []) ≡ 40 = omega (arith, length-append packet []) in
      ap (λ (m : ℕ). moved m (empty_entry 28 None) (whole ∷ [])) most
      ∙ moved_part (empty_entry 28 None) whole [] 40 (omega arith) many

  cut_left : narrowed left 20 20 ≡ first_entry
  cut_left =
      λ i. record {
        bytes = (ap (take 20) (drop-take 20 20 packet)
            ∙ take_all 20 (take 20 (drop 20 packet))
            (omega (arith, length-take 20 (drop 20 packet)))) i;
        start = 48;
        cluster = None;
      }

  cut_right : (n : ℕ) → n ≡ 0 → narrowed right n (length right.bytes - n) ≡ second_entry
  cut_right n z =
      let all : take (length right.bytes - 0) right.bytes ≡ right.bytes =
      take_all (length right.bytes - 0) right.bytes (omega arith) in
      ap (λ (m : ℕ). narrowed right m (length right.bytes - m)) z
      ∙ (λ i. record { bytes = all i; start = 40; cluster = Some k })

  trimmed : without_first 20 (left ∷ right ∷ []) ≡ first_entry ∷ second_entry ∷ []
  trimmed =
      let long : length left.bytes ≡ 40 = omega (arith, length-take 40 packet) in
      (λ i. narrowed left (min 20 (long i)) (long i - min 20 (long i))
      ∷ narrowed right (min (20 - long i) (length right.bytes))
      (length right.bytes - min (20 - long i) (length right.bytes)) ∷ [])
      ∙ (λ i. cut_left i ∷ cut_right (min (20 - 40) (length right.bytes)) (omega arith) i ∷ [])

  pub carried_are : first_entry ∷ second_entry ∷ [] ≡ carried_entries (in_cluster packet k)
  carried_are = sym (ap (without_first 20) pulled ∙ trimmed)

module _ (packet : List ℕ) (many : 100 < length packet) where
  abbrev first : Entry
  first = record { bytes = take 100 packet; start = 28; cluster = None }

  abbrev second : Entry
  second = record { bytes = drop 100 packet; start = 20; cluster = None }

  abbrev pub first_left : Entry
  first_left = record { bytes = take 80 (drop 20 packet); start = 48; cluster = None }

  abbrev pub second_left : Entry
  second_left = record { bytes = take (length packet - 100) (drop 100 packet); start = 20; cluster = None }

  cut_first : narrowed first 20 80 ≡ first_left
  cut_first =
      λ i. record {
        bytes = (ap (take 80) (drop-take 20 80 packet)
            ∙ take_all 80 (take 80 (drop 20 packet))
            (omega (arith, length-take 80 (drop 20 packet)))) i;
        start = 48;
        cluster = None;
      }

  cut_second : (n : ℕ) → n ≡ 0 → narrowed second n (length second.bytes - n) ≡ second_left
  cut_second n z =
      let all : length second.bytes - 0 ≡ length packet - 100 = omega (arith, length-drop 100 packet) in
      ap (λ (m : ℕ). narrowed second m (length second.bytes - m)) z
      ∙ (λ i. record { bytes = take (all i) (drop 100 packet); start = 20; cluster = None })

  both_trimmed : without_first 20 (first ∷ second ∷ []) ≡ first_left ∷ second_left ∷ []
  both_trimmed =
      let long : length first.bytes ≡ 100 = omega (arith, length-take 100 packet) in
      (λ i. narrowed first (min 20 (long i)) (long i - min 20 (long i))
      ∷ narrowed second (min (20 - long i) (length second.bytes))
      (length second.bytes - min (20 - long i) (length second.bytes)) ∷ [])
      ∙ (λ i. cut_first i ∷ cut_second (min (20 - 100) (length second.bytes)) (omega arith) i ∷ [])

  pub left_are : first_left ∷ second_left ∷ [] ≡ carried_entries (in_mbufs packet)
  left_are = sym both_trimmed

-- the bytes of a stored packet are those of the packet
pub stored_bytes : (packet : List ℕ) (k : ℕ) → flat_bytes (as_stored packet k).entries ≡ packet
stored_bytes packet k = go (nat_le 208 (length packet))
  where
    go : (b : Bool) → flat_bytes (stored_by b packet k).entries ≡ packet
    go true = append-nil packet
    go false = ap (λ (xs : List ℕ). take 100 packet ++ xs) (append-nil (drop 100 packet)) ∙ take-append-drop 100 packet

pub inserted_len : {p m : PoolView} {n : ℕ} (packet : List ℕ) (k : ℕ) → 100 < length packet
    → Makes p m n (alone true) (carried_entries (as_stored packet k))
    → length (flat_bytes (chain_of m n).entries) ≡ length packet - 20
inserted_len packet k many made =
    ap (λ (es : List Entry). length (flat_bytes es)) made.entries
    ∙ ap (λ (xs : List ℕ). length xs) (carried_bytes (as_stored packet k))
    ∙ ap (λ (xs : List ℕ). length (drop 20 xs)) (stored_bytes packet k)
    ∙ omega (arith, length-drop 20 packet)

-- an mbuf before a new chain of one mbuf
pub put_before : (p q r : PoolView) (c d : ℕ) (e f : Entry) → Adds p q d (one_mbuf false f d)
    → Adds (without q d) r c (joined (one_mbuf true e c) (chain_of q d)) → Makes p r c (alone true) (e ∷ f ∷ [])
put_before p q r c d e f first second =
    let a : Adds p r c (joined (one_mbuf true e c) (chain_of q d)) =
    subst (λ (o : PoolView). Adds o r c (joined (one_mbuf true e c) (chain_of q d)))
    (adds_undone (without q d) first refl) second in
    makes_as p (alone true) (e ∷ f ∷ []) (makes_new a) refl refl
    (ap (λ (v : ChainView). e ∷ v.entries) (shown_adds first))

-- ---- what is unchanged while the chain is made

pub record Stored (p : PoolView) (r : TableView) (m : PoolView) (c : ℕ) : Type 0 where
  pub ready : IsReady m r
  pub owned : IsOwned m (c ∷ held_all m r.datagrams)
  pub shows : unfinished m r.datagrams ≡ unfinished p r.datagrams
  pub rows : queues m r.datagrams ≡ queues p r.datagrams
  pub moves : Moves p (held_all p r.datagrams) m (c ∷ held_all m r.datagrams)

pub stored : {p m : PoolView} {c : ℕ} {v : ChainView} (r : TableView) → IsReady p r → Adds p m c v → Stored p r m c
stored {p} {m} {c} {v} r is adds =
    let ds : List Datagram = r.datagrams in
    let same : SameAt p m (held_all p ds) = same_adds (held_all p ds) adds is.table.owned in
    let all : held_all m ds ≡ held_all p ds = held_all_same p m ds same in
    let moves : Moves p (held_all p ds) m (c ∷ held_all m ds) =
    moves_beside (held_all p ds) (c ∷ held_all m ds) (held_all p ds) (moves_adds adds) (λ k. omega arith)
    (λ k. omega (arith, ap (times_among k) all)) in
    record {
      ready = ready_same p m r same is;
      owned = owned_after moves is.table.owned;
      shows = unfinished_same p m ds same;
      rows = queues_same p m ds same;
      moves = moves;
    }

-- ---- the test

both : (x y : Bool) → (x && y) ≡ true → (x ≡ true) × (y ≡ true)
both true y e = (refl, e)
both false y e = absurd (false≢true e)

not_bad : (x : Bool) → not x ≡ true → x ≡ false
not_bad true e = absurd (false≢true e)
not_bad false e = refl

pub record Fits (p : PoolView) (h : IpHead) (packet : List ℕ) : Type 0 where
  pub many : 100 < length packet
  pub few : length packet ≤ 2048
  pub total : h.total ≡ length packet
  pub good : is_bad_fragment (flat_head h) (h.total - 20) ≡ false
  pub mbufs : held_mbufs p + 2 ≤ p.mbufs
  pub clusters : 0 < free_clusters p

pub fits_is : (p : PoolView) (h : IpHead) (packet : List ℕ) → fits_at_once p h packet ≡ true → Fits p h packet
fits_is p h packet e =
    let a = both _ _ e in
    let b = both _ _ a.0 in
    let c = both _ _ b.1 in
    let d = both _ _ b.0 in
    let f = both _ _ a.1 in
    let total : h.total ≡ length packet = eqb-true h.total (length packet) c.0 in
    record {
      many = ltb-true 100 (length packet) d.0;
      few = leb-true (length packet) 2048 d.1;
      total = total;
      good = ap (λ (n : ℕ). is_bad_fragment (flat_head h) (n - 20)) total ∙ not_bad _ c.1;
      mbufs = omega (arith, leb-true 2 (p.mbufs - held_mbufs p) f.0);
      clusters = leb-true 1 (free_clusters p) f.1;
    }

-- ---- the step

module _ (p m : PoolView) (r : TableView) (c : Counters) (d : Counters) (packet : List ℕ) (h : IpHead) (k n : ℕ)
    (result : Arrival) (q : PoolView) (t : TableView) (b : Counters)
    (ready : IsReady p r) (fits : Fits p h packet)
    (made : Makes p m n (alone true) (carried_entries (as_stored packet k)))
    (counts : d ≡ counts_more IpFragments 1 c) where
  st : Stored p r m n
  st = stored r ready made.adds

  pub mid_accounts : (rest : State) (held : Weight) → IsAccounted p (with_waiting p r.datagrams c rest) held
      → IsAccounted m (with_waiting m r.datagrams d rest) (held ⊕ weight_at m n)
  mid_accounts rest held acc =
      accounts p m [] (n ∷ []) rest held nothing (weight_at m n) r.datagrams r.datagrams c d
      (subst (λ (w : Weight). IsAccounted p (with_waiting p r.datagrams c rest) w) (sym (both-nothing held)) acc)
      st.moves
      ready.table.owned ready.table st.ready.table (same_weight nothing) (one_weighs m n)

  pub end_accounts : IsReady q t → Moves m (n ∷ held_all m r.datagrams) q (in_hand result ++ held_all q t.datagrams)
      → (rest : State) (held : Weight) → IsAccounted p (with_waiting p r.datagrams c rest) held
      → IsAccounted q (with_waiting q t.datagrams b rest) (held ⊕ weight_owned q (in_hand result))
  end_accounts then_ready moves rest held acc =
      accounts p q [] (in_hand result) rest held nothing (weight_owned q (in_hand result)) r.datagrams t.datagrams c b
      (subst (λ (w : Weight). IsAccounted p (with_waiting p r.datagrams c rest) w) (sym (both-nothing held)) acc)
      (moves_trans st.moves moves) ready.table.owned ready.table then_ready.table (same_weight nothing)
      (same_weight (weight_owned q (in_hand result)))

  carried : arrived m n h.offset h.more ≡ fragment_carried (as_stored packet k) h
  carried =
      ap (λ (es : List Entry). let f : QueuedFragment = record { offset = h.offset; more = h.more; entries = es } in f)
      made.entries

  module _ (fate : Fate) (rest : State) (held : Weight) (new : State)
      (acc : IsAccounted p (with_waiting p r.datagrams c rest) held)
      (joins : JoinsAs exact_ledger (told fate) held (key_in h) (fragment_of (arrived m n h.offset h.more))
      (with_waiting m r.datagrams d rest) new) where
    abbrev old : State
    old = counts_fragment (with_waiting p r.datagrams c rest)

    abbrev w : Weight
    w = entries_weight (in_cluster packet k).entries

    one_more : has_enough old (held ⊕ w) (need_mbufs 1) ≡ true
    one_more =
        let some : 1 ≤ state.free_mbufs old (held ⊕ w) = omega (arith, acc.total, acc.mbufs, fits.mbufs) in
        λ i. le-leb 1 (state.free_mbufs old (held ⊕ w)) some i
        && le-leb 0 (state.free_clusters old (held ⊕ w)) (omega arith) i

    joins_now : JoinsAs exact_ledger (told fate) held (key_in h)
        (fragment_of (fragment_carried (as_stored packet k) h)) old new
    joins_now =
        subst (λ (f : QueuedFragment). JoinsAs exact_ledger (told fate) held (key_in h) (fragment_of f) old new) carried
        (subst (λ (s : State). JoinsAs exact_ledger (told fate) held (key_in h)
        (fragment_of (arrived m n h.offset h.more)) s new)
        (λ i. record rest { unfinished = st.shows i; counters = counts i }) joins)

    by_size : (is_large : Bool) → JoinsAs exact_ledger (told fate) held (key_in h)
        (fragment_of (fragment_carried (stored_by is_large packet k) h)) old new
        → ChainArrives (told fate) held h (stored_by is_large packet k) (with_waiting p r.datagrams c rest) new
    by_size true joined_now =
        arrives_cluster fate held (with_waiting p r.datagrams c rest) new h (in_cluster packet k) fits.good refl
        (record {
          answer = true;
          mid = old;
          has_buffers = inl (sym one_more, refl);
          goes_on = record { yes = λ _. joined_now; no = λ e. absurd (true≢false e) };
        })
    by_size false joined_now =
        arrives_plain fate held (with_waiting p r.datagrams c rest) new h (in_mbufs packet) fits.good refl joined_now

    arrives : ChainArrives (told fate) held h (as_stored packet k) (with_waiting p r.datagrams c rest) new
    arrives = by_size (nat_le 208 (length packet)) joins_now

  pub at_once : TakesFree p packet k
      → ((fate : Fate) (rest : State) (held : Weight) (new : State)
      → IsAccounted m (with_waiting m r.datagrams d rest) (held ⊕ weight_at m n)
      → GoesOn (told fate) held q result (with_waiting q t.datagrams b rest) new
      → JoinsAs exact_ledger (told fate) held (key_in h) (fragment_of (arrived m n h.offset h.more))
      (with_waiting m r.datagrams d rest)
      new)
      → HasLayout m r.datagrams (key_in h) (arrived m n h.offset h.more) result q t.datagrams
      → HasCause (cause_among (under (key_in h) (queues q t.datagrams)) (arrived m n h.offset h.more)) result
      → ArrivesAtOnce p r.datagrams c packet h result q t.datagrams b
  at_once free step layout cause = record {
    cluster = k;
    free = free;
    step = λ fate rest held new acc goes. arrives fate rest held new acc
        (step fate rest held new (mid_accounts rest held acc) goes);
    layout = record {
      waited = layout.waited;
      before = subst (λ (qs : List KeyedQueue). WaitOrNone qs layout.waited) st.rows layout.before;
      leaves =
          subst (λ (f : QueuedFragment). Leaves (key_in h) f layout.waited q result (queues q t.datagrams)) carried
          layout.leaves;
    };
    cause = subst (λ (why : Why). HasCause why result) (sym (cond-false {A = Why} _ BadFragment _ fits.good))
        (subst (λ (f : QueuedFragment). HasCause (cause_among (under (key_in h) (queues q t.datagrams)) f) result)
        carried cause);
  }
