-- Booting a store: everything is in use at first, and is then freed.
use Rattle.std.proofs.Common.{◌≡◌, ℕ, ◌<◌, ◌≤◌, ◌==◌, IsTrue, cond, None, is_some, List, [], length, replicate, slice_index, slice_index_or, refl, sym, ap, ◌∙◌, subst, arith, ext_get_or}
use Rattle.std.proofs.lemmas.List.{length-replicate, get_or-replicate}
use Rattle.raw_cells.specs.Cells.{Cells, zero_cells, zero_head}
use Rattle.raw_cells.proofs.Laws.{sized_zero}
use Rattle.mbuf_pool.specs.declared.sizes.Sizes.{Sizes}
use Rattle.mbuf_pool.specs.Store.{StoreView, is_out, cluster_of, cluster_count, free_cluster, free_store}
use Rattle.mbuf_pool.specs.Inside.AllOut.{IsAllOut}
use Rattle.mbuf_pool.specs.Inside.Fields.{store_with, IsSound}
use Rattle.mbuf_pool.proofs.Shown.{mbuf_out, count_at, mbufs_long, clusters_long}

module _ (z : Sizes) (r : Cells) (counts : List ℕ) (some : 0 < z.mbufs) (most : z.mbufs ≤ 65535)
    (few : z.clusters ≤ 4096) (made : r ≡ zero_cells z.mbufs z.clusters) (ones : counts ≡ replicate z.clusters 1) where
  pub heads_are : length r.heads ≡ z.mbufs
  heads_are = ap (λ (x : Cells). length x.heads) made ∙ length-replicate z.mbufs zero_head

  clusters_are : r.clusters ≡ z.clusters
  clusters_are = ap (λ (x : Cells). x.clusters) made

  one_at : (c : ℕ) → c < z.clusters → slice_index counts c ≡ 1
  one_at c lt = ap (λ xs. slice_index xs c) ones ∙ get_or-replicate z.clusters c 1 0 lt

  pub out_sound : IsSound r counts None 0 None 0 [] []
  out_sound = record {
    sized = subst Rattle.raw_cells.specs.Cells.IsSized (sym made) (sized_zero z.mbufs z.clusters some most few);
    mbuf_list = record { linked = refl; once = λ k. omega arith; size = refl };
    cluster_list = record { linked = refl; once = λ k. omega arith; size = refl };
    counts_long = ap length ones ∙ length-replicate z.clusters 1 ∙ sym clusters_are;
    uncounted = λ c lt. ap (λ (n : ℕ). cond {A = ℕ} (n == 0) 1 0) (sym (one_at c (omega (arith, clusters_are))));
  }

  pub all_out : IsAllOut (store_with r counts []) z
  all_out = record {
    mbufs = mbufs_long r counts None 0 None 0 [] [] out_sound ∙ heads_are;
    mbufs_out = λ i lt. ap is_some (mbuf_out r counts [] i (omega (arith, heads_are)) refl);
    clusters = clusters_long r counts None 0 None 0 [] [] out_sound ∙ clusters_are;
    counted = λ c lt. count_at r counts [] c (omega (arith, clusters_are)) ∙ one_at c lt;
  }

-- the mbufs below k are still in use, and each cluster has one reference
pub record MbufsLeft (z : Sizes) (s : StoreView) (k : ℕ) : Type 0 where
  pub mbufs : length s.mbufs ≡ z.mbufs
  pub below : (i : ℕ) → i < k → IsTrue (is_out s i)
  pub above : (i : ℕ) → k ≤ i → slice_index_or s.mbufs i None ≡ None
  pub clusters : length s.clusters ≡ z.clusters
  pub counted : (c : ℕ) → c < z.clusters → cluster_count s c ≡ 1

-- all mbufs are free, and the clusters below k still have one reference
pub record ClustersLeft (z : Sizes) (s : StoreView) (k : ℕ) : Type 0 where
  pub mbufs : s.mbufs ≡ replicate z.mbufs None
  pub clusters : length s.clusters ≡ z.clusters
  pub below : (c : ℕ) → c < k → cluster_count s c ≡ 1
  pub above : (c : ℕ) → k ≤ c → cluster_of s c ≡ free_cluster

pub clusters_first : (z : Sizes) (s : StoreView) → MbufsLeft z s 0 → ClustersLeft z s z.clusters
clusters_first z s h = record {
  mbufs =
      ext_get_or None s.mbufs (replicate z.mbufs None) (h.mbufs ∙ sym (length-replicate z.mbufs None))
      (λ i lt. h.above i (omega arith) ∙ sym (get_or-replicate z.mbufs i None None (omega (arith, h.mbufs))));
  clusters = h.clusters;
  below = h.counted;
  above = λ c le. Rattle.std.proofs.lemmas.List.get_or_past s.clusters c free_cluster (omega (arith, h.clusters));
}

pub all_free : (z : Sizes) (s : StoreView) → ClustersLeft z s 0 → s ≡ free_store z
all_free z s h =
    let clusters : s.clusters ≡ replicate z.clusters free_cluster =
    ext_get_or free_cluster s.clusters (replicate z.clusters free_cluster)
    (h.clusters ∙ sym (length-replicate z.clusters free_cluster))
    (λ c lt. h.above c (omega arith)
    ∙ sym (get_or-replicate z.clusters c free_cluster free_cluster (omega (arith, h.clusters)))) in
    λ j. record { mbufs = h.mbufs j; clusters = clusters j }
