-- The results of the calls that change nothing.
use Rattle.std.proofs.Common.{◌≡◌, ℕ, ◌+◌, ◌*◌, ◌<◌, ◌≤◌, IsTrue, cond, Option, None, Some, is_some, is_none, List, [], ◌∷◌, length, take, drop, count_by, slice_index, slice_index_or, refl, sym, ap, ◌∙◌, subst, arith}
use Rattle.std.proofs.lemmas.Grind.{get_or_default_zero}
use Rattle.std.proofs.lemmas.List.Sums.{sum_by-cons}
use Rattle.raw_cells.specs.Cells as cells
use Rattle.raw_cells.specs.declared.head.Head.{Head}
use Rattle.raw_cells.specs.declared.part.Buffer.{Buffer}
use Rattle.raw_cells.specs.declared.part.Buffer.TheVariants.{Mbuf, Cluster}
use Rattle.mbuf_pool.specs.Store.{MbufView, ClusterView, StoreView, is_out, mbuf_of, mbuf_head, bytes_in, cluster_of, cluster_count, free_mbufs, mbufs_out, free_clusters, IsRoom, IsStore}
use Rattle.mbuf_pool.specs.Inside.Fields.{mbuf_bytes, cluster_bytes, next_mbuf, next_cluster, store_with, store_of, IsInside}
use Rattle.mbuf_pool.specs.declared.store.Store.TheInside.{Inside}
use Rattle.mbuf_pool.specs.Inside.FreeList.{IsFreeList}
use Rattle.mbuf_pool.proofs.FreeList.{first_free, few_free}
use Rattle.mbuf_pool.proofs.Blocks.{block_part}
use Rattle.mbuf_pool.proofs.Shown.{seen_is, mbufs_long, clusters_long, is_store, mbufs_free, clusters_free, out_within, out_mbuf, counted_within, counted_cluster, count_at}

-- each entry is `None` or `Some`
pub some_or_none : {X : Type 0} (xs : List (Option X)) → count_by is_none xs + count_by is_some xs ≡ length xs
some_or_none [] = refl
some_or_none (None ∷ xs) =
    omega (
      arith,
      some_or_none xs,
      sum_by-cons (λ x. cond {A = ℕ} (is_none x) 1 0) None xs,
      sum_by-cons (λ x. cond {A = ℕ} (is_some x) 1 0) None xs,
    )
some_or_none (Some x ∷ xs) =
    omega (
      arith,
      some_or_none xs,
      sum_by-cons (λ x. cond {A = ℕ} (is_none x) 1 0) (Some x) xs,
      sum_by-cons (λ x. cond {A = ℕ} (is_some x) 1 0) (Some x) xs,
    )

module _ (s : Inside) (v : StoreView) (a : IsInside s) (e : store_of s ≡ v) where
  pub shown_as : store_with s.region s.counts.items a.1.0 ≡ v
  shown_as =
      sym (seen_is s.region s.counts.items s.first_mbuf s.free_mbufs s.first_cluster s.free_clusters a.1.0 a.1.1 a.1.2)
      ∙ e

  pub store_is : IsStore v
  store_is =
      subst IsStore shown_as (is_store s.region s.counts.items s.first_mbuf s.free_mbufs s.first_cluster s.free_clusters
      a.1.0 a.1.1 a.1.2)

  pub heads_are : length s.region.heads ≡ length v.mbufs
  heads_are =
      sym (mbufs_long s.region s.counts.items s.first_mbuf s.free_mbufs s.first_cluster s.free_clusters a.1.0 a.1.1
      a.1.2) ∙ ap (λ (w : StoreView). length w.mbufs) shown_as

  pub counts_are : length s.counts.items ≡ length v.clusters
  counts_are =
      a.1.2.counts_long ∙ sym (clusters_long s.region s.counts.items s.first_mbuf s.free_mbufs s.first_cluster
      s.free_clusters a.1.0 a.1.1 a.1.2) ∙ ap (λ (w : StoreView). length w.clusters) shown_as

  pub free_mbufs_are : s.free_mbufs ≡ free_mbufs v
  free_mbufs_are =
      sym (mbufs_free s.region s.counts.items s.first_mbuf s.free_mbufs s.first_cluster s.free_clusters a.1.0 a.1.1
      a.1.2) ∙ ap free_mbufs shown_as

  pub rest_are : s.free_mbufs + mbufs_out v ≡ length v.mbufs
  rest_are = ap (λ n. n + mbufs_out v) free_mbufs_are ∙ some_or_none v.mbufs

  pub free_clusters_are : s.free_clusters ≡ free_clusters v
  free_clusters_are =
      sym (clusters_free s.region s.counts.items s.first_mbuf s.free_mbufs s.first_cluster s.free_clusters a.1.0 a.1.1
      a.1.2) ∙ ap free_clusters shown_as

  pub count_is : (c : ℕ) → c < length v.clusters → slice_index s.counts.items c ≡ cluster_count v c
  count_is c lt =
      sym (count_at s.region s.counts.items a.1.0 c (omega (arith, counts_are, a.1.2.counts_long)))
      ∙ ap (λ (w : StoreView). cluster_count w c) shown_as

  pub out_here : (i : ℕ) → IsTrue (is_out v i) → IsTrue (is_out (store_with s.region s.counts.items a.1.0) i)
  out_here i out = subst (λ (w : StoreView). IsTrue (is_out w i)) (sym shown_as) out

  pub index_is : (i : ℕ) → IsTrue (is_out v i) → i < length s.region.heads
  index_is i out = out_within s.region s.counts.items a.1.0 i (out_here i out)

  pub mbuf_is : (i : ℕ) → IsTrue (is_out v i)
      → mbuf_of v i ≡ record { head = cells.cell_head s.region i; bytes = mbuf_bytes s.region i }
  mbuf_is i out =
      ap (λ (w : StoreView). mbuf_of w i) (sym shown_as) ∙ out_mbuf s.region s.counts.items a.1.0 i (out_here i out)

  pub head_is : (i : ℕ) → IsTrue (is_out v i) → cells.cell_head s.region i ≡ mbuf_head v i
  head_is i out = ap (λ (m : MbufView). m.head) (sym (mbuf_is i out))

  pub counted_here : (c : ℕ) → 0 < cluster_count v c → 0 < cluster_count (store_with s.region s.counts.items a.1.0) c
  counted_here c h = subst (λ (w : StoreView). 0 < cluster_count w c) (sym shown_as) h

  pub cluster_index_is : (c : ℕ) → 0 < cluster_count v c → c < s.region.clusters
  cluster_index_is c h = counted_within s.region s.counts.items a.1.0 c (counted_here c h)

  pub cluster_is : (c : ℕ) → 0 < cluster_count v c
      → cluster_of v c ≡ record { count = slice_index s.counts.items c; bytes = cluster_bytes s.region c }
  cluster_is c h =
      ap (λ (w : StoreView). cluster_of w c) (sym shown_as)
      ∙ counted_cluster s.region s.counts.items a.1.0 c (counted_here c h)

  -- a room of the store is a room of the region
  pub room_is : (b : Buffer) (at n : ℕ) → IsRoom v b at n → cells.IsCellRoom s.region b at n
  room_is (Mbuf i) at n h =
      let same = sym (head_is i h.0) in (
        index_is i h.0,
        subst (λ (x : Head). x.cluster ≡ None) same h.1,
        subst (λ (x : Head). cells.head_size x ≤ at) same h.2,
        h.3,
      )
  room_is (Cluster c) at n h = (cluster_index_is c h.0, h.1)

  -- it has the same bytes in both
  pub read_is : (b : Buffer) (at n : ℕ) → IsRoom v b at n
      → take n (drop (cells.origin s.region b + at) s.region.bytes) ≡ take n (drop at (bytes_in v b))
  read_is (Mbuf i) at n h =
      let lt = index_is i h.0 in
      sym (block_part s.region.bytes (128 * i) 128 at n (omega (arith, a.1.2.sized.block)) h.3)
      ∙ ap (λ (m : MbufView). take n (drop at m.bytes)) (sym (mbuf_is i h.0))
  read_is (Cluster c) at n h =
      let lt = cluster_index_is c h.0 in
      sym (block_part s.region.bytes (128 * length s.region.heads + 2048 * c) 2048 at n
      (omega (arith, a.1.2.sized.block)) h.1)
      ∙ ap (λ (x : ClusterView). take n (drop at x.bytes)) (sym (cluster_is c h.0))

  -- a cluster in use has an entry in the list of counts
  pub counted_index : (c : ℕ) → 0 < cluster_count v c → c < length s.counts.items
  counted_index c h = omega (arith, cluster_index_is c h, a.1.2.counts_long)

  pub count_read : (c d : ℕ) → 0 < cluster_count v c → slice_index_or s.counts.items c d ≡ cluster_count v c
  count_read c d h =
      get_or_default_zero s.counts.items c d (counted_index c h)
      ∙ count_is c (omega (arith, counted_index c h, counts_are))

module _ (s : Inside) (a : IsInside s) where
  -- a link to the first free mbuf can be stored
  pub first_links : cells.IsLink s.first_mbuf
  first_links = go s.first_mbuf a.1.2.mbuf_list
    where
      go : (f : Option ℕ) → IsFreeList (next_mbuf s.region) (length s.region.heads) f s.free_mbufs a.1.0
          → cells.IsLink f
      go None h = tt
      go (Some x) h = let found = first_free (next_mbuf s.region) (length s.region.heads) x s.free_mbufs a.1.0 h in
          omega (arith, found.2, a.1.2.sized.mbufs.1)

  pub few_mbufs : s.free_mbufs ≤ 65535
  few_mbufs =
      omega (
        arith,
        a.1.2.mbuf_list.size,
        few_free (next_mbuf s.region) (length s.region.heads) s.first_mbuf a.1.0 a.1.2.mbuf_list.linked
            a.1.2.mbuf_list.once,
        a.1.2.sized.mbufs.1,
      )

  pub few_clusters : s.free_clusters ≤ 4096
  few_clusters =
      omega (
        arith,
        a.1.2.cluster_list.size,
        few_free (next_cluster s.region) s.region.clusters s.first_cluster a.1.1 a.1.2.cluster_list.linked
            a.1.2.cluster_list.once,
        a.1.2.sized.clusters,
      )
