-- The view of each mbuf and cluster of a store.
use Rattle.std.proofs.Common.{◌≡◌, ◌≢◌, ℕ, zero, suc, ◌+◌, ◌*◌, ◌<◌, ◌≤◌, ◌==◌, IsTrue, cond, if◌then◌else◌, Option, None, Some, is_some, is_none, List, [], ◌∷◌, length, map, slice_index, slice_index_or, slice_set, get_or, refl, sym, ap, ◌∙◌, subst, arith, inl, inr}
use Rattle.std.specs.List.{range_with_len}
use Rattle.std.proofs.lemmas.Bool.{cases_eq, cases_lt, eq-eqb, ne_eqb, false≢true}
use Rattle.std.proofs.lemmas.List.{get_or_past, get_or-set_same, get_or-set_other, length-set}
use Rattle.std.proofs.lemmas.List.FromFn.{length-map-range_with_len, get_or-map-range_with_len, fill_by_all}
use Rattle.raw_cells.specs.Cells as cells
use Rattle.raw_cells.specs.Cells.{Cells}
use Rattle.mbuf_pool.specs.Inside.FreeList.{times_listed}
use Rattle.mbuf_pool.specs.Store.{MbufView, ClusterView, is_out, mbuf_of, cluster_of, cluster_count, free_cluster, no_mbuf, free_mbufs, free_clusters, IsStore}
use Rattle.mbuf_pool.specs.Inside.Fields.{mbuf_bytes, cluster_bytes, next_mbuf, next_cluster, mbuf_seen, cluster_seen, store_with, seen_in, IsSound}
use Rattle.mbuf_pool.proofs.FreeList.{walk_is, few_free, count_free}
use Rattle.mbuf_pool.proofs.Blocks.{length_block}

-- ---- lists with one element for each place
module _ {X : Type 0} (n : ℕ) (f g : ℕ → X) where
  -- one place differs
  pub places_set : (i : ℕ) (x : X) → i < n → g i ≡ x → ((k : ℕ) → k < n → k ≢ i → g k ≡ f k)
      → map g (range_with_len 0 n) ≡ slice_set (map f (range_with_len 0 n)) i x
  places_set i x lt here others =
      let xs = map f (range_with_len 0 n) in
      let long : length xs ≡ n = length-map-range_with_len f 0 n in
      sym (fill_by_all g (slice_set xs i x) n x (length-set xs i x ∙ long) (λ k below. elim (cases_eq k i) [
        | inl e ↦ subst (λ (j : ℕ). get_or (slice_set xs i x) j x ≡ g j) (sym e)
            (get_or-set_same xs i x x (omega arith) ∙ sym here)
        | inr ne ↦ get_or-set_other xs i k x x ne ∙ get_or-map-range_with_len f 0 n k k x below (omega arith)
            ∙ sym (others k below ne)
      ]))

  -- no place differs
  pub places_same : ((k : ℕ) → k < n → g k ≡ f k) → map g (range_with_len 0 n) ≡ map f (range_with_len 0 n)
  places_same same = go 0 n (λ k lt. same k (omega arith))
    where
      go : (a m : ℕ) → ((k : ℕ) → k < a + m → g k ≡ f k) → map g (range_with_len a m) ≡ map f (range_with_len a m)
      go a zero h = refl
      go a (suc m) h = λ i. h a (omega arith) i ∷ go (a + 1) m (λ k lt. h k (omega arith)) i

-- ---- tests
pub yes_zero : {X : Type 0} (n : ℕ) (x y : X) → n ≡ 0 → (if n == 0 then x else y) ≡ x
yes_zero n x y e = ap (λ b. if b then x else y) (eq-eqb n 0 e)

pub not_zero : {X : Type 0} (n : ℕ) (x y : X) → 0 < n → (if n == 0 then x else y) ≡ y
not_zero n x y lt = ap (λ b. if b then x else y) (ne_eqb n 0 (λ e. absurd (omega arith)))

-- ---- one mbuf, one cluster
module _ (r : Cells) (counts free : List ℕ) where
  pub mbuf_at : (i : ℕ) → i < length r.heads
      → slice_index_or (store_with r counts free).mbufs i None ≡ mbuf_seen r free i
  mbuf_at i lt = get_or-map-range_with_len (mbuf_seen r free) 0 (length r.heads) i i None lt (omega arith)

  pub mbuf_past : (i : ℕ) → length r.heads ≤ i → slice_index_or (store_with r counts free).mbufs i None ≡ None
  mbuf_past i le =
      get_or_past (store_with r counts free).mbufs i None
      (omega (arith, length-map-range_with_len (mbuf_seen r free) 0 (length r.heads)))

  pub cluster_at : (c : ℕ) → c < r.clusters → cluster_of (store_with r counts free) c ≡ cluster_seen r counts c
  cluster_at c lt = get_or-map-range_with_len (cluster_seen r counts) 0 r.clusters c c free_cluster lt (omega arith)

  pub cluster_past : (c : ℕ) → r.clusters ≤ c → cluster_of (store_with r counts free) c ≡ free_cluster
  cluster_past c le =
      get_or_past (store_with r counts free).clusters c free_cluster
      (omega (arith, length-map-range_with_len (cluster_seen r counts) 0 r.clusters))

  -- an mbuf that isn't in the free list is in use
  pub mbuf_out : (i : ℕ) → i < length r.heads → times_listed i free ≡ 0
      → slice_index_or (store_with r counts free).mbufs i None
      ≡ Some (record { head = cells.cell_head r i; bytes = mbuf_bytes r i })
  mbuf_out i lt e =
      mbuf_at i lt ∙ yes_zero (times_listed i free)
      (Some (record { head = cells.cell_head r i; bytes = mbuf_bytes r i })) None e

  pub mbuf_free : (i : ℕ) → i < length r.heads → 0 < times_listed i free
      → slice_index_or (store_with r counts free).mbufs i None ≡ None
  mbuf_free i lt h =
      mbuf_at i lt ∙ not_zero (times_listed i free)
      (Some (record { head = cells.cell_head r i; bytes = mbuf_bytes r i })) None h

  pub out_within : (i : ℕ) → IsTrue (is_out (store_with r counts free) i) → i < length r.heads
  out_within i out = elim (cases_lt i (length r.heads)) [
    | inl lt ↦ lt
    | inr ge ↦ absurd (false≢true (ap is_some (sym (mbuf_past i ge)) ∙ out))
  ]

  pub out_once : (i : ℕ) → IsTrue (is_out (store_with r counts free) i) → times_listed i free ≡ 0
  out_once i out = elim (cases_lt 0 (times_listed i free)) [
    | inl some ↦ absurd (false≢true (ap is_some (sym (mbuf_free i (out_within i out) some)) ∙ out))
    | inr none ↦ omega arith
  ]

  -- the head and bytes of an mbuf that is out
  pub out_mbuf : (i : ℕ) → IsTrue (is_out (store_with r counts free) i)
      → mbuf_of (store_with r counts free) i ≡ record { head = cells.cell_head r i; bytes = mbuf_bytes r i }
  out_mbuf i out =
      ap (λ (m : Option MbufView). Rattle.std.specs.Prelude.unwrap_or m no_mbuf)
      (mbuf_out i (out_within i out) (out_once i out))

  -- the count of a cluster
  pub count_at : (c : ℕ) → c < r.clusters → cluster_count (store_with r counts free) c ≡ slice_index counts c
  count_at c lt = ap (λ (v : ClusterView). v.count) (cluster_at c lt)

  pub counted_within : (c : ℕ) → 0 < cluster_count (store_with r counts free) c → c < r.clusters
  counted_within c h = elim (cases_lt c r.clusters) [
    | inl lt ↦ lt
    | inr ge ↦ absurd (omega (arith, ap (λ (v : ClusterView). v.count) (cluster_past c ge)))
  ]

  -- the count and the bytes of a cluster in use
  pub counted_cluster : (c : ℕ) → 0 < cluster_count (store_with r counts free) c
      → cluster_of (store_with r counts free) c ≡ record { count = slice_index counts c; bytes = cluster_bytes r c }
  counted_cluster c h =
      let lt = counted_within c h in
      cluster_at c lt
      ∙ ap (λ (bs : List ℕ). record { count = slice_index counts c; bytes = bs })
      (not_zero (slice_index counts c) [] (cluster_bytes r c) (omega (arith, count_at c lt)))

-- ---- a store that is sound
module _ (r : Cells) (counts : List ℕ) (f : Option ℕ) (m : ℕ) (cf : Option ℕ) (cm : ℕ) (free cfree : List ℕ)
    (ok : IsSound r counts f m cf cm free cfree) where
  -- the view by the links is the view by the list of free mbufs
  pub seen_is : seen_in r counts f ≡ store_with r counts free
  seen_is =
      ap (store_with r counts) (walk_is (next_mbuf r) (length r.heads) (length r.heads) f free ok.mbuf_list.linked
      (few_free (next_mbuf r) (length r.heads) f free ok.mbuf_list.linked ok.mbuf_list.once))

  pub mbufs_long : length (store_with r counts free).mbufs ≡ length r.heads
  mbufs_long = length-map-range_with_len (mbuf_seen r free) 0 (length r.heads)

  pub clusters_long : length (store_with r counts free).clusters ≡ r.clusters
  clusters_long = length-map-range_with_len (cluster_seen r counts) 0 r.clusters

  pub is_store : IsStore (store_with r counts free)
  is_store = record {
    mbufs = (omega (arith, mbufs_long, ok.sized.mbufs.0), omega (arith, mbufs_long, ok.sized.mbufs.1));
    clusters = omega (arith, clusters_long, ok.sized.clusters);
    mbuf_bytes = λ i out.
        let lt = out_within r counts free i out in
        ap (λ (v : MbufView). length v.bytes) (out_mbuf r counts free i out)
        ∙ length_block r.bytes (128 * i) 128 (omega (arith, ok.sized.block, lt));
    cluster_bytes = λ c h.
        let lt = counted_within r counts free c h in
        ap (λ (v : ClusterView). length v.bytes) (counted_cluster r counts free c h)
        ∙ length_block r.bytes (128 * length r.heads + 2048 * c) 2048 (omega (arith, ok.sized.block, lt));
  }

  free_test : (i : ℕ) → i < length r.heads → cond {A = ℕ} (is_none (mbuf_seen r free i)) 1 0 ≡ times_listed i free
  free_test i lt = elim (cases_lt 0 (times_listed i free)) [
    | inl some ↦
        ap (λ (v : Option MbufView). cond {A = ℕ} (is_none v) 1 0)
        (not_zero (times_listed i free) (Some (record { head = cells.cell_head r i; bytes = mbuf_bytes r i })) None
        some)
        ∙ omega (arith, ok.mbuf_list.once i)
    | inr none ↦
        let e : times_listed i free ≡ 0 = omega arith in
        ap (λ (v : Option MbufView). cond {A = ℕ} (is_none v) 1 0)
        (yes_zero (times_listed i free) (Some (record { head = cells.cell_head r i; bytes = mbuf_bytes r i })) None e)
        ∙ sym e
  ]

  pub mbufs_free : free_mbufs (store_with r counts free) ≡ m
  mbufs_free =
      count_free is_none (mbuf_seen r free) (next_mbuf r) (length r.heads) f free ok.mbuf_list.linked free_test
      ∙ sym ok.mbuf_list.size

  pub clusters_free : free_clusters (store_with r counts free) ≡ cm
  clusters_free =
      count_free (λ (v : ClusterView). v.count == 0) (cluster_seen r counts) (next_cluster r) r.clusters cf cfree
      ok.cluster_list.linked (λ c lt. sym (ok.uncounted c lt))
      ∙ sym ok.cluster_list.size
