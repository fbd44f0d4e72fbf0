-- The index after an arrival and after a tick has the first rows of the table.
use Rattle.std.proofs.Common.{◌≡◌, ℕ, zero, suc, ◌+◌, ◌-◌, ◌<◌, ◌≤◌, Bool, true, false, cond, List, [], ◌∷◌, ◌++◌, map, take, get_or, length, set, refl, sym, ap, ◌∙◌, arith}
use Rattle.std.specs.Prelude.{remove, nat_lt, count_by}
use Rattle.std.proofs.lemmas.List.{append_assoc, length-map, take-map}
use Rattle.flat_model.specs.Machine.State.{Key, is_key}
use Rattle.flat_model.proofs.Laws.{count_cons}
use Rattle.mbuf_chain.specs.Chain.{PoolView}
use Rattle.ip_reass.specs.Fragments.{QueuedFragment}
use Rattle.ip_reass.specs.Inside.Index.{AreFirst, bucket_of, buckets_of, rows_left}
use Rattle.ip_reass.specs.Layouts.{KeyedQueue, LeavesAt, keyed_queue_at, queue_of, queues, with_inserted}
use Rattle.ip_reass.specs.Table.{aged, has_key, unfinished, unfinished_of}
use Rattle.ip_reass.specs.declared.arrival.Arrival.{Arrival}
use Rattle.ip_reass.specs.declared.arrival.Arrival.TheVariants.{Kept, Whole, Dropped}
use Rattle.ip_reass.specs.declared.datagram.Datagram.{Datagram}
use Rattle.ip_out.specs.declared.head.IpHead.{IpHead}

-- how often a key occurs
pub once_held : (p : PoolView) (k : Key) (ds : List Datagram)
    → count_by (has_key k) ds ≡ count_by (is_key k) (unfinished p ds)
once_held p k [] = refl
once_held p k (d ∷ ds) =
    omega (
      arith,
      once_held p k ds,
      count_cons (has_key k) d ds,
      count_cons (is_key k) (unfinished_of p d) (unfinished p ds),
    )

-- ---- the first rows

pub none_first : (cs : List ℕ) → AreFirst [] cs
none_first cs = record { rest = cs; are = refl }

pub first_same : (bs cs ds : List ℕ) → AreFirst bs cs → cs ≡ ds → AreFirst bs ds
first_same bs cs ds first e = record { rest = first.rest; are = sym e ∙ first.are }

-- a row that isn't among them is removed
pub first_past : (bs cs : List ℕ) (i : ℕ) → AreFirst bs cs → length bs ≤ i → AreFirst bs (remove cs i)
first_past bs cs i first le =
    first_same bs (remove (bs ++ first.rest) i) (remove cs i) (go bs i le) (ap (λ xs. remove xs i) (sym first.are))
  where
    go : (xs : List ℕ) (j : ℕ) → length xs ≤ j → AreFirst xs (remove (xs ++ first.rest) j)
    go [] j le = none_first (remove first.rest j)
    go (x ∷ xs) zero le = absurd (omega arith)
    go (x ∷ xs) (suc j) le =
        let rest = go xs j (omega arith) in
        record { rest = rest.rest; are = ap (λ ys. x ∷ ys) rest.are }

-- they are those of the first datagrams
pub first_taken : (n j : ℕ) (bs : List ℕ) (ds : List Datagram) → AreFirst bs (buckets_of n ds) → j ≡ length bs
    → bs ≡ buckets_of n (take j ds)
first_taken n j bs ds first e =
    sym (go bs) ∙ ap (take (length bs)) (sym first.are) ∙ ap (λ k. take k (buckets_of n ds)) (sym e)
    ∙ take-map (λ (d : Datagram). bucket_of n d.key) j ds
  where
    go : (xs : List ℕ) → take (length xs) (xs ++ first.rest) ≡ xs
    go [] = refl
    go (x ∷ xs) = ap (λ ys. x ∷ ys) (go xs)

-- ---- a datagram begins

buckets_more : (n : ℕ) (ds : List Datagram) (d : Datagram)
    → buckets_of n (ds ++ d ∷ []) ≡ buckets_of n ds ++ bucket_of n d.key ∷ []
buckets_more n [] d = refl
buckets_more n (x ∷ ds) d = ap (λ bs. bucket_of n x.key ∷ bs) (buckets_more n ds d)

pub begun : (n : ℕ) (bs : List ℕ) (ds es : List Datagram) (d : Datagram) → AreFirst bs (buckets_of n ds)
    → es ≡ ds ++ d ∷ [] → AreFirst bs (buckets_of n es)
begun n bs ds es d first more = record {
  rest = first.rest ++ bucket_of n d.key ∷ [];
  are = ap (buckets_of n) more ∙ buckets_more n ds d ∙ (λ i. first.are i ++ bucket_of n d.key ∷ [])
      ∙ append_assoc bs first.rest (bucket_of n d.key ∷ []);
}

pub length_more : (ds : List Datagram) (d : Datagram) → length (ds ++ d ∷ []) ≡ length ds + 1
length_more [] d = omega arith
length_more (x ∷ ds) d = omega (arith, length_more ds d)

-- one more row of a table
pub renewed : (n b : ℕ) (bs : List ℕ) (ds : List Datagram) (k : ℕ) (x : Datagram) → bs ≡ buckets_of n (take k ds)
    → k < length ds → b ≡ bucket_of n (get_or ds k x).key → bs ++ b ∷ [] ≡ buckets_of n (take (k + 1) ds)
renewed n b bs ds k x same lt is =
    let one : k + 1 ≡ suc k = omega arith in
    (λ i. same i ++ is i ∷ []) ∙ sym (more ds k lt) ∙ ap (λ j. buckets_of n (take j ds)) (sym one)
  where
    more : (es : List Datagram) (j : ℕ) → j < length es
        → buckets_of n (take (suc j) es) ≡ buckets_of n (take j es) ++ bucket_of n (get_or es j x).key ∷ []
    more [] j lt = absurd (omega arith)
    more (e ∷ es) zero lt = refl
    more (e ∷ es) (suc j) lt = ap (λ cs. bucket_of n e.key ∷ cs) (more es j (omega arith))

pub other_left : (a : Arrival) (i : ℕ) (bs : List ℕ) → ((c : ℕ) (h : IpHead) → ¬ (a ≡ Whole c h))
    → rows_left a i bs ≡ bs
other_left Kept i bs other = refl
other_left (Whole c h) i bs other = absurd (other c h refl)
other_left (Dropped why) i bs other = refl

-- ---- a fragment is inserted at a place

-- the buckets of the queues' keys, which are those of the datagrams
abbrev by_queues : ℕ → List KeyedQueue → List ℕ
by_queues n qs = map (λ (q : KeyedQueue). bucket_of n q.key) qs

by_queues-are : (n : ℕ) (p : PoolView) (ds : List Datagram) → buckets_of n ds ≡ by_queues n (queues p ds)
by_queues-are n p [] = refl
by_queues-are n p (d ∷ ds) = ap (λ bs. bucket_of n d.key ∷ bs) (by_queues-are n p ds)

by_remove : (n i : ℕ) (qs : List KeyedQueue) → remove (by_queues n qs) i ≡ by_queues n (remove qs i)
by_remove n zero [] = refl
by_remove n (suc i) [] = refl
by_remove n zero (q ∷ qs) = refl
by_remove n (suc i) (q ∷ qs) = ap (λ bs. bucket_of n q.key ∷ bs) (by_remove n i qs)

same_set : (n i : ℕ) (f : QueuedFragment) (qs : List KeyedQueue) → i < length qs
    → by_queues n (set qs i (with_inserted f (keyed_queue_at qs i))) ≡ by_queues n qs
same_set n i f [] lt = absurd (omega arith)
same_set n zero f (q ∷ qs) lt = refl
same_set n (suc i) f (q ∷ qs) lt = ap (λ bs. bucket_of n q.key ∷ bs) (same_set n i f qs (omega arith))

queues_long : (p : PoolView) (ds : List Datagram) → length (queues p ds) ≡ length ds
queues_long p ds = length-map ds (queue_of p)

-- the row at the place is removed exactly if the datagram is whole
pub buckets_after : (n i : ℕ) (f : QueuedFragment) (p q : PoolView) (ds es : List Datagram) (result : Arrival)
    → i < length ds → LeavesAt i f (queues p ds) q result (queues q es)
    → rows_left result i (buckets_of n ds) ≡ buckets_of n es
buckets_after n i f p q ds es result lt left = go result left
  where
    go : (r : Arrival) → LeavesAt i f (queues p ds) q r (queues q es)
        → rows_left r i (buckets_of n ds) ≡ buckets_of n es
    go Kept l =
        by_queues-are n p ds
        ∙ sym (ap (by_queues n) l ∙ same_set n i f (queues p ds) (omega (arith, lt, queues_long p ds)))
        ∙ sym (by_queues-are n q es)
    go (Whole c h) l =
        ap (λ xs. remove xs i) (by_queues-are n p ds) ∙ by_remove n i (queues p ds) ∙ ap (by_queues n) (sym l.1)
        ∙ sym (by_queues-are n q es)
    go (Dropped why) l = by_queues-are n p ds ∙ ap (by_queues n) (sym l.0) ∙ sym (by_queues-are n q es)

-- ---- a tick

pub aged_few : (ds : List Datagram) → length (aged ds) ≤ length ds
aged_few [] = omega arith
aged_few (d ∷ ds) = go (nat_lt 1 d.ticks) (aged_few ds)
  where
    go : (t : Bool) → length (aged ds) ≤ length ds
        → length (cond t (record d { ticks = d.ticks - 1 } ∷ aged ds) (aged ds)) ≤ length (d ∷ ds)
    go true le = omega (arith, le)
    go false le = omega (arith, le)

pub aged_same : (n : ℕ) (ds : List Datagram) → length ds ≡ length (aged ds) → buckets_of n ds ≡ buckets_of n (aged ds)
aged_same n [] e = refl
aged_same n (d ∷ ds) e = go (nat_lt 1 d.ticks) e (aged_same n ds) (aged_few ds)
  where
    go : (t : Bool) → length (d ∷ ds) ≡ length (cond t (record d { ticks = d.ticks - 1 } ∷ aged ds) (aged ds))
        → (length ds ≡ length (aged ds) → buckets_of n ds ≡ buckets_of n (aged ds)) → length (aged ds) ≤ length ds
        → buckets_of n (d ∷ ds) ≡ buckets_of n (cond t (record d { ticks = d.ticks - 1 } ∷ aged ds) (aged ds))
    go true e rest few = ap (λ bs. bucket_of n d.key ∷ bs) (rest (omega arith))
    go false e rest few = absurd (omega (arith, e, few))
