-- A fragment that was put into a datagram, as a step of the flat machine.
use Rattle.std.proofs.Common.{◌≡◌, ℕ, zero, suc, ◌<◌, ◌≤◌, Bool, true, not, cond, List, [], ◌∷◌, ◌++◌, length, map, filter, count_by, get_or, set, take, drop, remove, refl, sym, ap, ◌∙◌, subst, arith, inl, inr}
use Rattle.std.proofs.lemmas.Bool.{false≢true}
use Rattle.std.proofs.lemmas.List.{get_or-map, get_or-set_same, length-map, length-set}
use Rattle.flat_model.specs.Machine.Fate.{told}
use Rattle.flat_model.specs.declared.fate.Fate.{Fate}
use Rattle.flat_model.specs.Amounts.Weight.{Weight, Item}
use Rattle.flat_model.specs.Fragments.Overlay.{Map, overlay}
use Rattle.flat_model.specs.Fragments.Whole.{IsWhole, bytes_below, weight_of_pieces}
use Rattle.flat_model.specs.Machine.State.{State, Key, Unfinished, is_key, end_unfinished}
use Rattle.flat_model.specs.Machine.Count.{counts_more}
use Rattle.flat_model.specs.Machine.Ledger.{exact_ledger}
use Rattle.flat_model.specs.Machine.Arrival as arrival
use Rattle.flat_model.specs.Machine.Arrival.{IsJoin, counts_reassembled, InsertsAs, SettlesAs, WholeArrivesAs, Stored}
use Rattle.flat_model.specs.declared.counters.Counters.{Counters}
use Rattle.flat_model.specs.declared.counter.Counter.TheVariants.{IpReassembled}
use Rattle.mbuf_chain.specs.Chain.{Entry, PoolView, chain_of, flat_bytes, string}
use Rattle.mbuf_chain.specs.Train.{TrainView}
use Rattle.ledger.specs.Accounts.{item_of, item_at, entries_weight}
use Rattle.ip_reass.specs.Fragments.{QueuedFragment, fragment_of, fragments, map_of, queued, inserted_into, joined_fragments, IsQueue}
use Rattle.ip_reass.specs.Layouts.{KeyedQueue, queue_of, queues, no_queue, keyed_queue_at}
use Rattle.ip_reass.specs.Table.{unfinished, unfinished_of}
use Rattle.ip_reass.specs.Inside.Steps.{datagram_at, no_datagram, InsertsIn, TakesOut}
use Rattle.ip_reass.specs.Arrivals.{with_waiting}
use Rattle.ip_reass.specs.declared.datagram.Datagram.{Datagram}
use Rattle.mbuf_chain.specs.Owners.{Moves}
use Rattle.mbuf_chain.specs.Frames.{IsBounded}
use Rattle.mbuf_chain.proofs.Laws.Owners.{moves_trans}
use Rattle.ip_reass.specs.Table.{IsUnfinished, held_all}
use Rattle.ip_reass.proofs.Aging.{lent_back}
use Rattle.ip_reass.proofs.Fitting.{all_fit, all_some}
use Rattle.ip_reass.proofs.Joined.{join_is, joined_bytes, joined_len}
use Rattle.ip_reass.proofs.Places.{each_at, map_one, filter_one}
use Rattle.ip_reass.proofs.Whole.{whole_most}

pub remove-set : {X : Type 0} (xs : List X) (i : ℕ) (y : X) → remove (set xs i y) i ≡ remove xs i
remove-set [] zero y = refl
remove-set [] (suc i) y = refl
remove-set (x ∷ xs) zero y = refl
remove-set (x ∷ xs) (suc i) y = ap (λ zs. x ∷ zs) (remove-set xs i y)

-- only the datagram at place i has the key
module _ (k : Key) (p : PoolView) (ds : List Datagram) (i : ℕ) (l : i < length ds)
    (here : is_key k (unfinished_of p (datagram_at ds i)) ≡ true) (most : count_by (is_key k) (unfinished p ds) ≤ 1)
  where
    at_i : get_or (unfinished p ds) i (unfinished_of p no_datagram) ≡ unfinished_of p (datagram_at ds i)
    at_i = get_or-map (unfinished_of p) ds i no_datagram (unfinished_of p no_datagram) l

    within : i < length (unfinished p ds)
    within = omega (arith, length-map ds (unfinished_of p))

    -- the datagrams after `set_bytes`
    pub bytes_set : (bytes : Map) → map (λ (u : Unfinished). cond (is_key k u) (record u { bytes = bytes }) u)
        (unfinished p ds) ≡ set (unfinished p ds) i (record (unfinished_of p (datagram_at ds i)) { bytes = bytes })
    bytes_set bytes =
        map_one (is_key k) (λ (u : Unfinished). record u { bytes = bytes }) (unfinished p ds) i
        (unfinished_of p no_datagram) within (ap (is_key k) at_i ∙ here) most
        ∙ ap (λ (u : Unfinished). set (unfinished p ds) i (record u { bytes = bytes })) at_i

    pub ended : filter (λ (u : Unfinished). not (is_key k u)) (unfinished p ds) ≡ remove (unfinished p ds) i
    ended =
        filter_one (is_key k) (unfinished p ds) i (unfinished_of p no_datagram) within (ap (is_key k) at_i ∙ here) most

-- the datagram waits
pub settles_kept : (fate : Fate) (rest : State) (held : Weight) (k : Key) (p q : PoolView) (ds es : List Datagram)
    (c : Counters)
    (i n : ℕ) (f : QueuedFragment) (new : State) → i < length ds
    → is_key k (unfinished_of p (datagram_at ds i)) ≡ true → count_by (is_key k) (unfinished p ds) ≤ 1
    → (la : InsertsIn p ds i n f true q es) → ((m : ℕ) → ¬ IsWhole (map_of (fragments q la.train)) m)
    → told fate Stored new (with_waiting q es c rest) → InsertsAs exact_ledger (told fate) held k (fragment_of f)
    (unfinished_of p (datagram_at ds i))
    (with_waiting p ds c rest) new
settles_kept fate rest held k p q ds es c i n f new l here most la waits is = record {
  yes = λ e. absurd (false≢true (sym la.covered ∙ e));
  no = λ e. inr (
    λ m w. waits m (subst (λ (bytes : Map). IsWhole bytes m) (sym la.map) w),
    (
      is.0,
      is.1 ∙ (λ j. record rest {
        unfinished = (la.shows
            ∙ sym (bytes_set k p ds i l here most
            (overlay (map_of (fragments p (datagram_at ds i).fragments)) (fragment_of f)))) j;
        counters = c;
      }),
    ),
  );
}

-- the datagram is whole
pub settles_whole : (fate : Fate) (rest : State) (held : Weight) (k : Key) (p q r : PoolView) (ds es hs : List Datagram)
    (c d : Counters) (i n out m : ℕ) (f : QueuedFragment) (new : State) → i < length ds
    → is_key k (unfinished_of p (datagram_at ds i)) ≡ true → count_by (is_key k) (unfinished p ds) ≤ 1
    → (la : InsertsIn p ds i n f true q es) → (ta : TakesOut q es i out r hs)
    → IsWhole (map_of (fragments q la.train)) m
    → IsJoin (weight_of_pieces (map_of (fragments q la.train))) (entries_weight (joined_fragments (queued q la.train)))
    m
    → bytes_below (map_of (fragments q la.train)) m ≡ flat_bytes (joined_fragments (queued q la.train))
    → (chain_of r out).entries ≡ joined_fragments (queued q la.train) → d ≡ counts_more IpReassembled 1 c
    → WholeArrivesAs exact_ledger (λ end. told fate (arrival.Reassembled end)) held k.source k.destination
    k.protocol (item_at r out) (with_waiting r hs d rest) new
    → InsertsAs exact_ledger (told fate) held k (fragment_of f) (unfinished_of p (datagram_at ds i))
    (with_waiting p ds c rest) new
settles_whole fate rest held k p q r ds es hs c d i n out m f new l here most la ta whole join bytes entries counts
    goes =
    let bs : Map = overlay (map_of (fragments p (datagram_at ds i).fragments)) (fragment_of f) in
    let item : item_at r out ≡ record {
      bytes = bytes_below (map_of (fragments q la.train)) m;
      weight = entries_weight (joined_fragments (queued q la.train));
    } =
    ap item_of entries ∙ ap (λ (xs : List ℕ). record
    { bytes = xs; weight = entries_weight (joined_fragments (queued q la.train)) })
    (sym bytes) in
    let left : unfinished r hs ≡ filter (λ (u : Unfinished). not (is_key k u)) (unfinished p ds) =
    ta.shows ∙ (ap (λ (us : List Unfinished). remove us i) la.shows
    ∙ (remove-set (unfinished p ds) i _ ∙ sym (ended k p ds i l here most))) in
    let now : with_waiting r hs d rest ≡ counts_reassembled (end_unfinished k (with_waiting p ds c rest)) =
    λ j. record rest { unfinished = left j; counters = counts j } in
    let arrives : WholeArrivesAs exact_ledger (λ end. told fate (arrival.Reassembled end)) held k.source
    k.destination k.protocol
    (record {
      bytes = bytes_below (map_of (fragments q la.train)) m;
      weight =
          entries_weight (joined_fragments (queued q la.train));
    }) (counts_reassembled (end_unfinished k (with_waiting p ds c rest))) new =
    subst (λ (s : State). WholeArrivesAs exact_ledger (λ end. told fate (arrival.Reassembled end)) held k.source
    k.destination k.protocol
    (record {
      bytes = bytes_below (map_of (fragments q la.train)) m;
      weight = entries_weight (joined_fragments (queued q la.train));
    }) s new) now
    (subst (λ (x : Item). WholeArrivesAs exact_ledger (λ end. told fate (arrival.Reassembled end)) held k.source
    k.destination k.protocol x (with_waiting r hs d rest)
    new)
    item goes) in
    let settled : SettlesAs exact_ledger (told fate) held k (map_of (fragments q la.train))
    (with_waiting p ds c rest) new =
    inl (m, whole, entries_weight (joined_fragments (queued q la.train)), join, arrives) in
    record {
      yes = λ e. absurd (false≢true (sym la.covered ∙ e));
      no = λ e. subst (λ (b : Map). SettlesAs exact_ledger (told fate) held k b (with_waiting p ds c rest) new)
          la.map settled;
    }

-- ---- the same for a table that was lent as a slice
pub record Lent (p : PoolView) (ds : List Datagram) (i c : ℕ) (f : QueuedFragment) (q : PoolView)
    (es back : List Datagram) : Type 0 where
  pub inserts : InsertsIn p ds i c f true q es
  pub back_is : back ≡ es
  pub train_is : (datagram_at es i).fragments ≡ inserts.train
  pub queue : IsQueue q inserts.train

pub lent_table : {p q : PoolView} {ds slice es : List Datagram} {i c : ℕ} (n : ℕ) {f : QueuedFragment} {answer : Bool}
    {back : List Datagram} → i < length ds → length slice ≡ n → slice ≡ ds → answer ≡ true
    → InsertsIn p slice i c f answer q es → back ≡ take n (es ++ drop (length es) ds) → Lent p ds i c f q es back
lent_table {p} {q} {ds} {slice} {es} {i} {c} n {f} {answer} {back} l size was agrees la back_is =
    let here : InsertsIn p ds i c f true q es =
    subst (λ (zs : List Datagram). InsertsIn p zs i c f true q es) was
    (subst (λ (b : Bool). InsertsIn p slice i c f b q es) agrees la) in
    let put : Datagram = record (datagram_at ds i) { fragments = here.train; bytes = here.bytes } in
    let within : i < length es =
    omega (arith, ap (λ (zs : List Datagram). length zs) here.change, length-set ds i put) in
    let one : IsUnfinished q (datagram_at es i) = (each_at q es i no_datagram within here.table.each).0 in
    let at : (datagram_at es i).fragments ≡ here.train =
    ap (λ (zs : List Datagram). (get_or zs i no_datagram).fragments) here.change
    ∙ ap (λ (d : Datagram). d.fragments) (get_or-set_same ds i put no_datagram l) in
    record {
      inserts = here;
      back_is = back_is ∙ lent_back n ds slice es i put size was here.change;
      train_is = at;
      queue = subst (IsQueue q) at one.queue;
    }

-- the datagram was whole, m bytes: from p, its fragments went to chain out of r
pub record Reassembled (p : PoolView) (ds : List Datagram) (i n : ℕ) (f : QueuedFragment) (r : PoolView)
    (hs : List Datagram) (out m : ℕ) : Type 0 where
  pub step : (fate : Fate) (rest : State) (held : Weight) (k : Key) (c d : Counters) (new : State)
      → is_key k (unfinished_of p (datagram_at ds i)) ≡ true → count_by (is_key k) (unfinished p ds) ≤ 1
      → d ≡ counts_more IpReassembled 1 c
      → WholeArrivesAs exact_ledger (λ end. told fate (arrival.Reassembled end)) held k.source k.destination
      k.protocol (item_at r out) (with_waiting r hs d rest) new
      → InsertsAs exact_ledger (told fate) held k (fragment_of f) (unfinished_of p (datagram_at ds i))
      (with_waiting p ds c rest) new
  pub leaves : ((chain_of r out).entries
      ≡ joined_fragments (inserted_into f (keyed_queue_at (queues p ds) i).fragments))
      × (queues r hs ≡ remove (queues p ds) i)
  pub len : m ≡ length (string (chain_of r out))
  pub moves : Moves p (n ∷ held_all p ds) r (out ∷ held_all r hs)

module _ {p q : PoolView} {ds es back : List Datagram} {i n : ℕ} {f : QueuedFragment} (e : Lent p ds i n f q es back)
  where
    -- the datagram waits
    pub lent_kept : (fate : Fate) (rest : State) (held : Weight) (k : Key) (c : Counters) (new : State) → i < length ds
        → is_key k (unfinished_of p (datagram_at ds i)) ≡ true → count_by (is_key k) (unfinished p ds) ≤ 1
        → ((m : ℕ) → ¬ IsWhole (map_of (fragments q (datagram_at es i).fragments)) m) → told fate Stored new
        (with_waiting q back c rest)
        → InsertsAs exact_ledger (told fate) held k (fragment_of f) (unfinished_of p (datagram_at ds i))
        (with_waiting p ds c rest)
        new
    lent_kept fate rest held k c new l here most waits is =
        settles_kept fate rest held k p q ds es c i n f new l here most e.inserts
        (λ m w. waits m (subst (λ (t : TrainView). IsWhole (map_of (fragments q t)) m) (sym e.train_is) w))
        (is.0, is.1 ∙ ap (λ (zs : List Datagram). with_waiting q zs c rest) e.back_is)

    whole_here : (m : ℕ) → IsWhole (map_of (fragments q (datagram_at es i).fragments)) m
        → IsWhole (map_of (fragments q e.inserts.train)) m
    whole_here m w = subst (λ (t : TrainView). IsWhole (map_of (fragments q t)) m) e.train_is w

    -- a whole datagram has at most 65,515 bytes, and at least one fragment
    pub whole_short : (m : ℕ) → IsWhole (map_of (fragments q (datagram_at es i).fragments)) m → m ≤ 65515
    whole_short m w = whole_most (fragments q e.inserts.train) m e.queue.apart e.queue.small (whole_here m w)

    -- the datagram is whole
    pub reassembled : i < length ds → {r : PoolView} {hs : List Datagram} {out m : ℕ} → IsBounded q
        → IsWhole (map_of (fragments q (datagram_at es i).fragments)) m → TakesOut q back i out r hs
        → Reassembled p ds i n f r hs out m
    reassembled l {r} {hs} {out} {m} bounded w takes =
        let taken : TakesOut q es i out r hs = subst (λ (zs : List Datagram). TakesOut q zs i out r hs) e.back_is takes in
        let whole : IsWhole (map_of (fragments q e.inserts.train)) m = whole_here m w in
        let entries : (chain_of r out).entries ≡ joined_fragments (queued q e.inserts.train) =
        taken.entries ∙ ap (λ (t : TrainView). joined_fragments (queued q t)) e.train_is in
        let here : keyed_queue_at (queues p ds) i ≡ queue_of p (datagram_at ds i) =
        get_or-map (queue_of p) ds i no_datagram no_queue l in
        record {
          step = λ fate rest held k c d new key most counts goes.
              settles_whole fate rest held k p q r ds es hs c d i n out m f new l key most e.inserts taken whole
              (join_is q e.inserts.train m e.queue (all_some q e.inserts.train bounded e.queue.held)
              (all_fit q e.inserts.train bounded e.queue.held) whole)
              (joined_bytes q e.inserts.train m e.queue whole) entries counts goes;
          leaves = (
            entries ∙ (ap joined_fragments e.inserts.queue
                ∙ ap (λ (y : KeyedQueue). joined_fragments (inserted_into f y.fragments)) (sym here)),
            taken.rows ∙ (ap (λ (ys : List KeyedQueue). remove ys i) e.inserts.rows ∙ remove-set (queues p ds) i _),
          );
          len =
              joined_len q e.inserts.train m e.queue whole
              ∙ ap (λ (xs : List Entry). length (flat_bytes xs)) (sym entries);
          moves = moves_trans e.inserts.moves taken.moves;
        }
