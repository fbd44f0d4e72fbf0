-- Each mbuf and cluster after a change of the region, and the view of the store then.
use Rattle.std.proofs.Common.{◌≡◌, ◌≢◌, ℕ, ◌+◌, ◌*◌, ◌<◌, ◌≤◌, List, length, take, drop, refl, sym, ap, ◌∙◌, arith, inl, inr}
use Rattle.std.proofs.lemmas.Bool.{cases_lt}
use Rattle.std.proofs.lemmas.List.{length-set, get_or-set_same, get_or-set_other}
use Rattle.raw_cells.specs.Over.{over}
use Rattle.raw_cells.specs.Cells as cells
use Rattle.raw_cells.specs.Cells.{Cells, IsSized, with_head, head_size, zero_head}
use Rattle.raw_cells.specs.declared.head.Head.{Head}
use Rattle.raw_cells.proofs.Laws.{head_size_le, length_over}
use Rattle.mbuf_pool.specs.Inside.Link.{link_in}
use Rattle.mbuf_pool.specs.Inside.Fields.{mbuf_bytes, cluster_bytes, next_cluster}
use Rattle.mbuf_pool.proofs.Blocks.{block, block_apart, block_written}

-- ---- two regions that differ in one mbuf or in one cluster
-- every mbuf except i, and every cluster, is the same
pub record SameButMbuf (r t : Cells) (i : ℕ) : Type 0 where
  pub count : length t.heads ≡ length r.heads
  pub clusters : t.clusters ≡ r.clusters
  pub heads : (k : ℕ) → k ≢ i → cells.cell_head t k ≡ cells.cell_head r k
  pub mbufs : (k : ℕ) → k < length r.heads → k ≢ i → mbuf_bytes t k ≡ mbuf_bytes r k
  pub all_clusters : (c : ℕ) → c < r.clusters → cluster_bytes t c ≡ cluster_bytes r c
  pub links : (c : ℕ) → c < r.clusters → next_cluster t c ≡ next_cluster r c

-- every mbuf, and every cluster except c, is the same
pub record SameButCluster (r t : Cells) (c : ℕ) : Type 0 where
  pub heads : t.heads ≡ r.heads
  pub clusters : t.clusters ≡ r.clusters
  pub mbufs : (k : ℕ) → k < length r.heads → mbuf_bytes t k ≡ mbuf_bytes r k
  pub others : (d : ℕ) → d < r.clusters → d ≢ c → cluster_bytes t d ≡ cluster_bytes r d
  pub links : (d : ℕ) → d < r.clusters → d ≢ c → next_cluster t d ≡ next_cluster r d

-- ---- blocks of the region's bytes
module _ (r : Cells) (sized : IsSized r) where
  -- a write inside the mbuf i
  module _ (i s : ℕ) (ws : List ℕ) (lt : i < length r.heads) (fits : s + length ws ≤ 128) where
    abbrev pub mbuf_new : List ℕ
    mbuf_new = over r.bytes (128 * i + s) ws

    pub mbuf_new_long : length mbuf_new ≡ length r.bytes
    mbuf_new_long = length_over r.bytes (128 * i + s) ws (omega (arith, sized.block))

    pub mbuf_here : block mbuf_new (128 * i) 128 ≡ over (mbuf_bytes r i) s ws
    mbuf_here = block_written r.bytes (128 * i) 128 s ws (omega (arith, sized.block)) fits

    pub mbuf_other : (k : ℕ) → k < length r.heads → k ≢ i → block mbuf_new (128 * k) 128 ≡ mbuf_bytes r k
    mbuf_other k below ne =
        block_apart r.bytes (128 * i + s) ws (128 * k) 128 (omega (arith, sized.block)) (omega (arith, sized.block))
        (elim (cases_lt i k) [
          | inl before ↦ inl (omega arith)
          | inr after ↦ let less : k < i = omega arith in inr (omega arith)
        ])

    pub mbuf_cluster : (c n : ℕ) → c < r.clusters → n ≤ 2048
        → block mbuf_new (128 * length r.heads + 2048 * c) n ≡ block r.bytes (128 * length r.heads + 2048 * c) n
    mbuf_cluster c n below few =
        block_apart r.bytes (128 * i + s) ws (128 * length r.heads + 2048 * c) n (omega (arith, sized.block))
        (omega (arith, sized.block)) (inl (omega arith))

  -- a write inside the cluster c
  module _ (c s : ℕ) (ws : List ℕ) (lt : c < r.clusters) (fits : s + length ws ≤ 2048) where
    abbrev pub cluster_new : List ℕ
    cluster_new = over r.bytes (128 * length r.heads + 2048 * c + s) ws

    pub cluster_new_long : length cluster_new ≡ length r.bytes
    cluster_new_long = length_over r.bytes (128 * length r.heads + 2048 * c + s) ws (omega (arith, sized.block))

    pub cluster_here : block cluster_new (128 * length r.heads + 2048 * c) 2048 ≡ over (cluster_bytes r c) s ws
    cluster_here = block_written r.bytes (128 * length r.heads + 2048 * c) 2048 s ws (omega (arith, sized.block)) fits

    pub cluster_other : (d n : ℕ) → d < r.clusters → n ≤ 2048 → d ≢ c
        → block cluster_new (128 * length r.heads + 2048 * d) n ≡ block r.bytes (128 * length r.heads + 2048 * d) n
    cluster_other d n below few ne =
        block_apart r.bytes (128 * length r.heads + 2048 * c + s) ws (128 * length r.heads + 2048 * d) n
        (omega (arith, sized.block)) (omega (arith, sized.block)) (elim (cases_lt c d) [
          | inl before ↦ inl (omega arith)
          | inr after ↦ let less : d < c = omega arith in inr (omega arith)
        ])

    pub cluster_mbuf : (k : ℕ) → k < length r.heads → block cluster_new (128 * k) 128 ≡ mbuf_bytes r k
    cluster_mbuf k below =
        block_apart r.bytes (128 * length r.heads + 2048 * c + s) ws (128 * k) 128 (omega (arith, sized.block))
        (omega (arith, sized.block)) (inr (omega arith))

  -- ---- the three changes
  at_start : (a n : ℕ) (xs : List ℕ) → take n (drop (a + 0) xs) ≡ block xs a n
  at_start a n xs = let same : a + 0 ≡ a = omega arith in ap (λ m. take n (drop m xs)) same

  -- a new head
  pub head_changed : (i : ℕ) (h : Head) (b : List ℕ) → i < length r.heads → length b ≡ head_size h
      → SameButMbuf r (with_head r i h b) i × (cells.cell_head (with_head r i h b) i ≡ h)
      × (mbuf_bytes (with_head r i h b) i ≡ over (mbuf_bytes r i) 0 b) × IsSized (with_head r i h b)
  head_changed i h b lt long =
      let t = with_head r i h b in
      let count : length t.heads ≡ length r.heads = length-set r.heads i h in
      let fits : 0 + length b ≤ 128 = omega (arith, head_size_le h) in
      let zero_at : 128 * i ≡ 128 * i + 0 = omega arith in
      let bytes : t.bytes ≡ over r.bytes (128 * i + 0) b = ap (λ m. over r.bytes m b) zero_at in (
        record {
          count = count;
          clusters = refl;
          heads = λ k ne. get_or-set_other r.heads i k h zero_head ne;
          mbufs = λ k below ne. ap (λ xs. block xs (128 * k) 128) bytes ∙ mbuf_other i 0 b lt fits k below ne;
          all_clusters =
              λ c below. ap (λ n. block t.bytes (128 * n + 2048 * c) 2048) count
              ∙ ap (λ xs. block xs (128 * length r.heads + 2048 * c) 2048) bytes
              ∙ mbuf_cluster i 0 b lt fits c 2048 below (omega arith);
          links = λ c below. ap link_in (
              at_start (128 * length t.heads + 2048 * c) 4 t.bytes
              ∙ ap (λ n. block t.bytes (128 * n + 2048 * c) 4) count
              ∙ ap (λ xs. block xs (128 * length r.heads + 2048 * c) 4) bytes
              ∙ mbuf_cluster i 0 b lt fits c 4 below (omega arith)
              ∙ sym (at_start (128 * length r.heads + 2048 * c) 4 r.bytes));
        },
        get_or-set_same r.heads i h zero_head lt,
        ap (λ xs. block xs (128 * i) 128) bytes ∙ mbuf_here i 0 b lt fits,
        record {
          block =
              ap length bytes ∙ mbuf_new_long i 0 b lt fits ∙ sized.block
              ∙ ap (λ n. cells.region_size n r.clusters) (sym count);
          mbufs = (omega (arith, count, sized.mbufs.0), omega (arith, count, sized.mbufs.1));
          clusters = sized.clusters;
        },
      )

  -- bytes of an mbuf
  pub mbuf_changed : (i s : ℕ) (ws : List ℕ) → i < length r.heads → s + length ws ≤ 128
      → let t : Cells = record r { bytes = over r.bytes (128 * i + s) ws } in
      SameButMbuf r t i × (cells.cell_head t i ≡ cells.cell_head r i) × (mbuf_bytes t i ≡ over (mbuf_bytes r i) s ws)
      × IsSized t
  mbuf_changed i s ws lt fits = (
    record {
      count = refl;
      clusters = refl;
      heads = λ k ne. refl;
      mbufs = λ k below ne. mbuf_other i s ws lt fits k below ne;
      all_clusters = λ c below. mbuf_cluster i s ws lt fits c 2048 below (omega arith);
      links = λ c below. ap link_in (
          at_start (128 * length r.heads + 2048 * c) 4 (over r.bytes (128 * i + s) ws)
          ∙ mbuf_cluster i s ws lt fits c 4 below (omega arith)
          ∙ sym (at_start (128 * length r.heads + 2048 * c) 4 r.bytes));
    },
    refl,
    mbuf_here i s ws lt fits,
    record { block = mbuf_new_long i s ws lt fits ∙ sized.block; mbufs = sized.mbufs; clusters = sized.clusters },
  )

  -- bytes of a cluster
  pub cluster_changed : (c s : ℕ) (ws : List ℕ) → c < r.clusters → s + length ws ≤ 2048
      → let t : Cells = record r { bytes = over r.bytes (128 * length r.heads + 2048 * c + s) ws } in
      SameButCluster r t c × (cluster_bytes t c ≡ over (cluster_bytes r c) s ws) × IsSized t
  cluster_changed c s ws lt fits = (
    record {
      heads = refl;
      clusters = refl;
      mbufs = λ k below. cluster_mbuf c s ws lt fits k below;
      others = λ d below ne. cluster_other c s ws lt fits d 2048 below (omega arith) ne;
      links = λ d below ne. ap link_in (
          at_start (128 * length r.heads + 2048 * d) 4 (over r.bytes (128 * length r.heads + 2048 * c + s) ws)
          ∙ cluster_other c s ws lt fits d 4 below (omega arith) ne
          ∙ sym (at_start (128 * length r.heads + 2048 * d) 4 r.bytes));
    },
    cluster_here c s ws lt fits,
    record { block = cluster_new_long c s ws lt fits ∙ sized.block; mbufs = sized.mbufs; clusters = sized.clusters },
  )
