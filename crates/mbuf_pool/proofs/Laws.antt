-- What callers can use of a store.
use Rattle.std.proofs.Common.{◌≡◌, ℕ, zero, suc, ◌+◌, ◌<◌, Bool, true, IsTrue, cond, if◌then◌else◌, ◌-◌, Option, None, Some, is_some, is_none, List, [], ◌∷◌, length, count_by, slice_index_or, unwrap_or, refl, sym, ap, ◌∙◌, subst, arith, inl, inr, ◌≤◌, get_or, ext_get_or, slice_get, slice_set}
use Rattle.std.proofs.lemmas.Bool.{cases_eq, cases_lt, eq-eqb, ne_eqb, false≢true}
use Rattle.std.proofs.lemmas.Option.{slice_get_within, none-some, same_Some}
use Rattle.std.proofs.lemmas.List.{get_or-set_same, get_or_past}
use Rattle.std.proofs.lemmas.List.Sums.{sum_by-cons}
use Rattle.raw_cells.specs.Over.{over}
use Rattle.raw_cells.specs.Cells.{head_size}
use Rattle.raw_cells.specs.declared.head.Head.{Head}
pub use Rattle.raw_cells.proofs.Laws.{over_below, over_above, over_in, length_over}
use Rattle.raw_cells.proofs.Laws.{head_size_le}
use Rattle.mbuf_pool.proofs.Reading.{some_or_none}
use Rattle.mbuf_pool.specs.Store.{MbufView, ClusterView, StoreView, no_mbuf, free_cluster, is_out, mbuf_of, mbuf_head, cluster_of, cluster_count, free_mbufs, mbufs_out, held_once_more, released, with_mbuf, with_cluster, IsStore, TakesCluster, SetsHead}

-- ---- another value for one mbuf, or for one cluster
pub mbuf_here : (s : StoreView) (i : ℕ) (m : Option MbufView) → i < length s.mbufs
    → slice_index_or (with_mbuf s i m).mbufs i None ≡ m
mbuf_here s i m lt = get_or-set_same s.mbufs i m None lt

pub cluster_here : (s : StoreView) (c : ℕ) (v : ClusterView) → c < length s.clusters
    → cluster_of (with_cluster s c v) c ≡ v
cluster_here s c v lt = get_or-set_same s.clusters c v free_cluster lt

-- ---- an mbuf or cluster in use is one of the store's
pub out_within : (s : StoreView) (i : ℕ) → IsTrue (is_out s i) → i < length s.mbufs
out_within s i out = elim (cases_lt i (length s.mbufs)) [
  | inl lt ↦ lt
  | inr ge ↦ absurd (false≢true (ap is_some (sym (get_or_past s.mbufs i None ge)) ∙ out))
]

pub counted_within : (s : StoreView) (c : ℕ) → 0 < cluster_count s c → c < length s.clusters
counted_within s c counted = elim (cases_lt c (length s.clusters)) [
  | inl lt ↦ lt
  | inr ge ↦ absurd (omega (arith, ap (λ (v : ClusterView). v.count) (get_or_past s.clusters c free_cluster ge)))
]

-- ---- a cluster that was just handed out
set_back : (vs : List ClusterView) (c : ℕ) (v w : ClusterView) → slice_get vs c ≡ Some w
    → slice_set (slice_set vs c v) c w ≡ vs
set_back [] c v w is = absurd (none-some w is)
set_back (x ∷ xs) zero v w is = ap (λ (y : ClusterView). y ∷ xs) (sym (same_Some x w is))
set_back (x ∷ xs) (suc c) v w is = ap (λ (l : List ClusterView). x ∷ l) (set_back xs c v w is)

-- releasing it restores the store
pub taken_back : (old new : StoreView) (c : ℕ) → TakesCluster old new c
    → with_cluster new c (released (cluster_of new c)) ≡ old
taken_back old new c h =
    let v : ClusterView = record { count = 1; bytes = h.bytes } in
    let there : cluster_of new c ≡ v =
    ap (λ (s : StoreView). cluster_of s c) h.change
    ∙ cluster_here old c v (slice_get_within old.clusters c free_cluster h.was_free) in
    (λ j. with_cluster (h.change j) c (released (there j)))
    ∙ (λ j. record old { clusters = set_back old.clusters c v free_cluster h.was_free j })

-- ---- counts
pub count_held : (s : StoreView) (c : ℕ) → 0 < cluster_count s c
    → cluster_count (with_cluster s c (held_once_more (cluster_of s c))) c ≡ cluster_count s c + 1
count_held s c counted =
    ap (λ (v : ClusterView). v.count) (cluster_here s c (held_once_more (cluster_of s c)) (counted_within s c counted))

pub count_released : (s : StoreView) (c : ℕ) → 0 < cluster_count s c
    → cluster_count (with_cluster s c (released (cluster_of s c))) c + 1 ≡ cluster_count s c
count_released s c counted =
    let one_less : (released (cluster_of s c)).count + 1 ≡ cluster_count s c = elim (cases_eq (cluster_count s c) 1) [
      | inl e ↦ ap (λ (b : Bool). (if b then free_cluster
          else record (cluster_of s c) { count = cluster_count s c - 1 }).count + 1) (eq-eqb (cluster_count s
          c) 1 e) ∙ sym e
      | inr ne ↦ ap (λ (b : Bool). (if b then free_cluster
          else record (cluster_of s c) { count = cluster_count s c - 1 }).count + 1) (ne_eqb (cluster_count s
          c) 1 ne) ∙ omega arith
    ] in
    ap (λ (v : ClusterView). v.count + 1) (cluster_here s c (released (cluster_of s c)) (counted_within s c counted))
    ∙ one_less

-- ---- no mbuf, or no cluster, is free
pub free_or_out : (s : StoreView) → free_mbufs s + mbufs_out s ≡ length s.mbufs
free_or_out s = some_or_none s.mbufs

none_left : (ms : List (Option MbufView)) (i : ℕ) → count_by is_none ms ≡ 0 → i < length ms
    → is_some (slice_index_or ms i None) ≡ true
none_left [] i e lt = absurd (omega arith)
none_left (None ∷ ms) i e lt = absurd (omega (arith, sum_by-cons (λ x. cond {A = ℕ} (is_none x) 1 0) None ms))
none_left (Some m ∷ ms) zero e lt = refl
none_left (Some m ∷ ms) (suc i) e lt =
    none_left ms i (omega (arith, sum_by-cons (λ x. cond {A = ℕ} (is_none x) 1 0) (Some m) ms)) (omega arith)

pub all_out : (s : StoreView) (i : ℕ) → free_mbufs s ≡ 0 → i < length s.mbufs → IsTrue (is_out s i)
all_out s i e lt = none_left s.mbufs i e lt

-- ---- one head after another
over_over : (xs a b : List ℕ) → length a ≤ length b → length b ≤ length xs → over (over xs 0 a) 0 b ≡ over xs 0 b
over_over xs a b less fits =
    let long : length (over xs 0 a) ≡ length xs = length_over xs 0 a (omega arith) in
    ext_get_or 0 (over (over xs 0 a) 0 b) (over xs 0 b)
    (length_over (over xs 0 a) 0 b (omega arith) ∙ long ∙ sym (length_over xs 0 b (omega arith)))
    (λ k lt. elim (cases_lt k (length b)) [
      | inl within ↦
          let here : 0 + k ≡ k = omega arith in
          subst (λ (j : ℕ). get_or (over (over xs 0 a) 0 b) j 0 ≡ get_or (over xs 0 b) j 0) here
          (over_in (over xs 0 a) 0 b (omega arith) k 0 within ∙ sym (over_in xs 0 b (omega arith) k 0 within))
      | inr after ↦
          over_above (over xs 0 a) 0 b (omega arith) k 0 (omega arith)
          ∙ over_above xs 0 a (omega arith) k 0 (omega arith)
          ∙ sym (over_above xs 0 b (omega arith) k 0 (omega arith))
    ])

set_twice : (ms : List (Option MbufView)) (i : ℕ) (a b : Option MbufView)
    → slice_set (slice_set ms i a) i b ≡ slice_set ms i b
set_twice [] i a b = refl
set_twice (m ∷ ms) zero a b = refl
set_twice (m ∷ ms) (suc i) a b = ap (λ (l : List (Option MbufView)). m ∷ l) (set_twice ms i a b)

pub sets_out : (s t : StoreView) (i : ℕ) (h : Head) → IsTrue (is_out s i) → SetsHead s t i h → IsTrue (is_out t i)
sets_out s t i h out sets =
    ap (λ (w : StoreView). is_out w i) sets.2
    ∙ ap is_some (mbuf_here s i (Some (record { head = h; bytes = over (mbuf_of s i).bytes 0 sets.0 }))
    (out_within s i out))

pub sets_head : (s t : StoreView) (i : ℕ) (h : Head) → IsTrue (is_out s i) → SetsHead s t i h → mbuf_head t i ≡ h
sets_head s t i h out sets =
    ap (λ (w : StoreView). mbuf_head w i) sets.2
    ∙ ap (λ (m : Option MbufView). (unwrap_or m no_mbuf).head)
    (mbuf_here s i (Some (record { head = h; bytes = over (mbuf_of s i).bytes 0 sets.0 })) (out_within s i out))

-- if the second of two new heads isn't shorter, the result is the same as without the first
pub sets_twice : (s t u : StoreView) (i : ℕ) (h g : Head) → IsTrue (is_out s i) → IsStore s → head_size h ≤ head_size g
    → SetsHead s t i h → SetsHead t u i g → SetsHead s u i g
sets_twice s t u i h g out store more first later =
    let m : MbufView = record { head = h; bytes = over (mbuf_of s i).bytes 0 first.0 } in
    let there : mbuf_of t i ≡ m =
    ap (λ (w : StoreView). mbuf_of w i) first.2
    ∙ ap (λ (o : Option MbufView). unwrap_or o no_mbuf) (mbuf_here s i (Some m) (out_within s i out)) in
    let bytes : over (mbuf_of t i).bytes 0 later.0 ≡ over (mbuf_of s i).bytes 0 later.0 =
    ap (λ (v : MbufView). over v.bytes 0 later.0) there
    ∙ over_over (mbuf_of s i).bytes first.0 later.0 (omega (arith, first.1, later.1))
    (omega (arith, later.1, head_size_le g, store.mbuf_bytes i out)) in (
      later.0,
      later.1,
      later.2 ∙ (λ j. with_mbuf (first.2 j) i (Some (record { head = g; bytes = bytes j })))
          ∙ (λ j. record s {
            mbufs = set_twice s.mbufs i (Some m)
                (Some (record { head = g; bytes = over (mbuf_of s i).bytes 0 later.0 })) j;
          }),
    )
