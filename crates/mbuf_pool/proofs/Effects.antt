-- The store after each call that changes it.
use Rattle.std.proofs.Common.{◌≡◌, ℕ, zero, suc, ◌+◌, ◌-◌, ◌*◌, ◌<◌, ◌≤◌, ◌==◌, IsTrue, cond, if◌then◌else◌, Option, None, Some, List, [], ◌∷◌, length, take, drop, slice_index, slice_set, slice_get, refl, sym, ap, ◌∙◌, subst, arith, take_all}
use Rattle.std.proofs.lemmas.Bool.{eq-eqb, ne_eqb}
use Rattle.std.proofs.lemmas.List.{length-set, length-take, get_or-set_same, set-get_or}
use Rattle.std.proofs.lemmas.Option.{slice_get-get_or}
use Rattle.raw_cells.specs.Over.{over}
use Rattle.raw_cells.specs.Cells as cells
use Rattle.raw_cells.specs.Cells.{Cells, IsSized, IsLink, with_head, head_size, origin}
use Rattle.raw_cells.specs.declared.head.Head.{Head}
use Rattle.raw_cells.specs.declared.part.Part.{Part}
use Rattle.raw_cells.specs.declared.part.Buffer.{Buffer}
use Rattle.raw_cells.specs.declared.part.Buffer.TheVariants.{Mbuf, Cluster}
use Rattle.raw_cells.proofs.Laws.{length_over, over_all}
use Rattle.mbuf_pool.specs.Inside.FreeList.{times_listed, IsFreeList}
use Rattle.mbuf_pool.specs.Inside.Link.{link_in, link_bytes, link_part}
use Rattle.mbuf_pool.specs.Store.{MbufView, ClusterView, StoreView, with_mbuf, with_cluster, with_bytes, bytes_in, is_out, mbuf_of, mbuf_head, cluster_of, cluster_count, free_cluster, held_once_more, released, TakesWith, TakesCluster, IsRoom, IsPart, stored_part, write, IsStore}
use Rattle.mbuf_pool.specs.Inside.Fields.{mbuf_bytes, cluster_bytes, next_mbuf, next_cluster, mbuf_seen, store_with, seen_in, store_of, IsSound, IsInside}
use Rattle.mbuf_pool.specs.declared.store.Store.TheInside.{Inside}
use Rattle.mbuf_pool.proofs.FreeList.{list_kept, list_put, list_taken, first_free, none_free, times-here, times-there}
use Rattle.mbuf_pool.proofs.Blocks.{block, length_block, block_written}
use Rattle.mbuf_pool.proofs.Shown.{yes_zero, not_zero, out_once, seen_is, is_store, mbuf_free, cluster_at, mbufs_long, clusters_long}
use Rattle.mbuf_pool.proofs.Changes.{SameButCluster, head_changed, mbuf_changed, cluster_changed}
use Rattle.mbuf_pool.proofs.Steps.{Leaves, mbuf_step, cluster_step}
use Rattle.mbuf_pool.proofs.Links.{length-link_bytes, link_back}
use Rattle.mbuf_pool.proofs.Reading.{shown_as, index_is, out_here, mbuf_is, head_is, cluster_is, cluster_index_is, count_is, counts_are, read_is}

-- the view after a step satisfies `IsStore`
pub leaves_store : {r : Cells} {counts : List ℕ} {f : Option ℕ} {m : ℕ} {cf : Option ℕ} {cm : ℕ} {v : StoreView}
    → Leaves r counts f m cf cm v → IsStore (seen_in r counts f)
leaves_store {r} {counts} {f} {m} {cf} {cm} {v} h =
    let a =
    h.account in subst IsStore (sym (seen_is r counts f m cf cm a.0 a.1 a.2))
    (is_store r counts f m cf cm a.0 a.1 a.2)

-- the same for an equal first free mbuf
pub first_is : {r : Cells} {counts : List ℕ} {f g : Option ℕ} {m : ℕ} {cf : Option ℕ} {cm : ℕ} {v : StoreView} → g ≡ f
    → Leaves r counts f m cf cm v → Leaves r counts g m cf cm v
first_is {r} {counts} {f} {g} {m} {cf} {cm} {v} is = subst (λ (x : Option ℕ). Leaves r counts x m cf cm v) (sym is)

pub first_cluster_is : {r : Cells} {counts : List ℕ} {f : Option ℕ} {m : ℕ} {cf cg : Option ℕ} {cm : ℕ} {v : StoreView}
    → cg ≡ cf → Leaves r counts f m cf cm v → Leaves r counts f m cg cm v
first_cluster_is {r} {counts} {f} {m} {cf} {cg} {cm} {v} is =
    subst (λ (x : Option ℕ). Leaves r counts f m x cm v) (sym is)

-- a new head leaves the number of mbufs unchanged
pub head_count : (r t : Cells) (i : ℕ) (h : Head) → cells.SetsCellHead r t i h → length t.heads ≡ length r.heads
head_count r t i h sets = ap (λ (x : Cells). length x.heads) sets.2 ∙ length-set r.heads i h

seen_out : (r : Cells) (free : List ℕ) (i : ℕ) → times_listed i free ≡ 0
    → mbuf_seen r free i ≡ Some (record { head = cells.cell_head r i; bytes = mbuf_bytes r i })
seen_out r free i e =
    yes_zero (times_listed i free) (Some (record { head = cells.cell_head r i; bytes = mbuf_bytes r i })) None e

-- an unchanged region
same_region : (r : Cells) (c : ℕ) → SameButCluster r r c
same_region r c =
    record {
      heads = refl;
      clusters = refl;
      mbufs = λ k below. refl;
      others = λ d below ne. refl;
      links = λ d below ne. refl;
    }

-- ---- the first free mbuf, and the first free cluster
module _ (r : Cells) (counts : List ℕ) (m : ℕ) (cf : Option ℕ) (cm : ℕ) (i : ℕ) (rest cfree : List ℕ) (v : StoreView)
    (ok : IsSound r counts (Some i) m cf cm (i ∷ rest) cfree) (is : store_with r counts (i ∷ rest) ≡ v) where
  first_left : times_listed i rest ≡ 0
  first_left = omega (arith, ok.mbuf_list.once i, times-here i rest)

  pub got : (h : Head) (b : List ℕ) → length b ≡ head_size h
      → Leaves (with_head r i h b) counts (next_mbuf r i) (m - 1) cf cm
      (with_mbuf v i (Some (record { head = h; bytes = over (mbuf_bytes r i) 0 b })))
  got h b long =
      let lt = ok.mbuf_list.linked.1 in
      let t = with_head r i h b in
      let ch = head_changed r ok.sized i h b lt long in
      let leaves =
      mbuf_step r counts (Some i) m cf cm (i ∷ rest) cfree ok t i (next_mbuf r i) (m - 1) rest v lt ch.0 ch.3
      (list_taken (next_mbuf r) (length r.heads) (next_mbuf t) i m rest ok.mbuf_list
      (λ j below ne. ap (λ (x : Head). x.next) (ch.0.heads j ne)))
      (λ k ne. sym (times-there k i rest (λ e. ne (sym e)))) is in
      subst (λ (x : Option MbufView). Leaves t counts (next_mbuf r i) (m - 1) cf cm (with_mbuf v i x))
      (seen_out t rest i first_left ∙ (λ j. Some (record { head = ch.1 j; bytes = ch.2 j }))) leaves

  pub was_free : slice_get v.mbufs i ≡ Some None
  was_free =
      let lt = ok.mbuf_list.linked.1 in
      ap (λ (w : StoreView). slice_get w.mbufs i) (sym is)
      ∙ slice_get-get_or (store_with r counts (i ∷ rest)).mbufs i None
      (omega (arith, mbufs_long r counts (Some i) m cf cm (i ∷ rest) cfree ok))
      ∙ ap Some (mbuf_free r counts (i ∷ rest) i lt (omega (arith, times-here i rest)))

  pub got_long : (b : List ℕ) → length (over (mbuf_bytes r i) 0 b) ≡ 128
  got_long b =
      length_over (mbuf_bytes r i) 0 b (omega arith)
      ∙ length_block r.bytes (128 * i) 128 (omega (arith, ok.sized.block, ok.mbuf_list.linked.1))

module _ (r : Cells) (counts : List ℕ) (f : Option ℕ) (m : ℕ) (cm : ℕ) (c : ℕ) (free rest : List ℕ) (v : StoreView)
    (ok : IsSound r counts f m (Some c) cm free (c ∷ rest)) (is : store_with r counts free ≡ v) where
  cluster_left : times_listed c rest ≡ 0
  cluster_left = omega (arith, ok.cluster_list.once c, times-here c rest)

  pub got_cluster : Leaves r (slice_set counts c 1) f m (next_cluster r c) (cm - 1)
      (with_cluster v c (record { count = 1; bytes = cluster_bytes r c }))
  got_cluster =
      let lt = ok.cluster_list.linked.1 in
      let count_here : slice_index (slice_set counts c 1) c ≡ 1 =
      get_or-set_same counts c 1 0 (omega (arith, ok.counts_long)) in
      subst (λ (n : ℕ). Leaves r (slice_set counts c 1) f m (next_cluster r c) (cm - 1)
      (with_cluster v c (record { count = n; bytes = if n == 0 then [] else cluster_bytes r c }))) count_here
      (cluster_step r counts f m (Some c) cm free (c ∷ rest) ok r c 1 (next_cluster r c) (cm - 1) rest v lt
      (same_region r c) ok.sized
      (list_taken (next_cluster r) r.clusters (next_cluster r) c cm rest ok.cluster_list (λ j below ne. refl))
      (λ k ne. sym (times-there k c rest (λ e. ne (sym e)))) cluster_left is)

  pub cluster_was_free : slice_get v.clusters c ≡ Some free_cluster
  cluster_was_free =
      let lt = ok.cluster_list.linked.1 in
      let none : slice_index counts c ≡ 0 = go (slice_index counts c) (sym (ok.uncounted c lt) ∙ times-here c rest) in
      ap (λ (w : StoreView). slice_get w.clusters c) (sym is)
      ∙ slice_get-get_or (store_with r counts free).clusters c free_cluster
      (omega (arith, clusters_long r counts f m (Some c) cm free (c ∷ rest) ok))
      ∙ ap Some (cluster_at r counts free c lt
      ∙ ap (λ (n : ℕ). record { count = n; bytes = if n == 0 then [] else cluster_bytes r c }) none)
    where
      go : (n : ℕ) → cond {A = ℕ} (n == 0) 1 0 ≡ suc (times_listed c rest) → n ≡ 0
      go zero e = refl
      go (suc n) e = absurd (omega (arith, not_zero {X = ℕ} (suc n) 1 0 (omega arith)))

  pub cluster_long : length (cluster_bytes r c) ≡ 2048
  cluster_long =
      length_block r.bytes (128 * length r.heads + 2048 * c) 2048
      (omega (arith, ok.sized.block, ok.cluster_list.linked.1))

-- ---- mbufs and clusters in use
module _ (s : Inside) (v : StoreView) (a : IsInside s) (e : store_of s ≡ v) where
  -- an mbuf is freed
  pub put_back : (i : ℕ) (h : Head) (t : Cells) → IsTrue (is_out v i) → h.next ≡ s.first_mbuf
      → cells.SetsCellHead s.region t i h
      → Leaves t s.counts.items (Some i) (s.free_mbufs + 1) s.first_cluster s.free_clusters (with_mbuf v i None)
  put_back i h t out linked sets =
      let r = s.region in let ok = a.1.2 in let free = a.1.0 in
      let lt = index_is s v a e i out in
      let once = out_once r s.counts.items free i (out_here s v a e i out) in
      let ch = head_changed r ok.sized i h sets.0 lt sets.1 in
      let t0 = with_head r i h sets.0 in
      let leaves =
      mbuf_step r s.counts.items s.first_mbuf s.free_mbufs s.first_cluster s.free_clusters free a.1.1 ok t0 i (Some i)
      (s.free_mbufs + 1) (i ∷ free) v lt ch.0 ch.3
      (list_put (next_mbuf r) (length r.heads) (next_mbuf t0) s.first_mbuf i s.free_mbufs free ok.mbuf_list lt once
      (ap (λ (x : Head). x.next) ch.1 ∙ linked) (λ j below ne. ap (λ (x : Head). x.next) (ch.0.heads j ne)))
      (λ k ne. times-there k i free (λ q. ne (sym q))) (shown_as s v a e) in
      let nothing : mbuf_seen t0 (i ∷ free) i ≡ None =
      not_zero (times_listed i (i ∷ free)) (Some (record { head = cells.cell_head t0 i; bytes = mbuf_bytes t0 i })) None
      (omega (arith, times-here i free)) in
      subst (λ (x : Cells). Leaves x s.counts.items (Some i) (s.free_mbufs + 1) s.first_cluster s.free_clusters
      (with_mbuf v i None)) (sym sets.2)
      (subst (λ (x : Option MbufView). Leaves t0 s.counts.items (Some i) (s.free_mbufs + 1) s.first_cluster
      s.free_clusters (with_mbuf v i x)) nothing leaves)

  -- an mbuf has a new head
  pub head_set : (i : ℕ) (h : Head) (t : Cells) → IsTrue (is_out v i) → (sets : cells.SetsCellHead s.region t i h)
      → Leaves t s.counts.items s.first_mbuf s.free_mbufs s.first_cluster s.free_clusters
      (with_mbuf v i (Some (record { head = h; bytes = over (mbuf_of v i).bytes 0 sets.0 })))
  head_set i h t out sets =
      let r = s.region in let ok = a.1.2 in let free = a.1.0 in
      let lt = index_is s v a e i out in
      let once = out_once r s.counts.items free i (out_here s v a e i out) in
      let ch = head_changed r ok.sized i h sets.0 lt sets.1 in
      let t0 = with_head r i h sets.0 in
      let leaves =
      mbuf_step r s.counts.items s.first_mbuf s.free_mbufs s.first_cluster s.free_clusters free a.1.1 ok t0 i
      s.first_mbuf s.free_mbufs free v lt ch.0 ch.3
      (list_kept (next_mbuf r) (length r.heads) (next_mbuf t0) s.first_mbuf s.free_mbufs free ok.mbuf_list
      (λ j below p. ap (λ (x : Head). x.next)
      (ch.0.heads j (λ q. absurd (omega (arith, once, ap (λ (k : ℕ). times_listed k free) q))))))
      (λ k ne. refl) (shown_as s v a e) in
      let shows : mbuf_seen t0 free i ≡ Some (record { head = h; bytes = over (mbuf_of v i).bytes 0 sets.0 }) =
      seen_out t0 free i once ∙ (λ j. Some
      (record {
        head = ch.1 j;
        bytes = (ch.2
            ∙ ap (λ (x : MbufView). over x.bytes 0 sets.0) (sym (mbuf_is s v a e i out))) j;
      })) in
      subst (λ (x : Cells). Leaves x s.counts.items s.first_mbuf s.free_mbufs s.first_cluster s.free_clusters
      (with_mbuf v i (Some (record { head = h; bytes = over (mbuf_of v i).bytes 0 sets.0 })))) (sym sets.2)
      (subst (λ (x : Option MbufView). Leaves t0 s.counts.items s.first_mbuf s.free_mbufs s.first_cluster
      s.free_clusters (with_mbuf v i x)) shows leaves)

  -- a field of the head of an mbuf is set
  pub field_sets : (g : Head → Head) (i : ℕ) (t : Cells) → IsTrue (is_out v i)
      → cells.SetsCellHead s.region t i (g (cells.cell_head s.region i))
      → cells.SetsCellHead s.region t i (g (mbuf_head v i))
  field_sets g i t out sets = subst (λ (h : Head). cells.SetsCellHead s.region t i (g h)) (head_is s v a e i out) sets

  -- the count of a cluster in use changes, and it stays in use
  counted_as : (c x : ℕ) (t : Cells) → 0 < cluster_count v c → 0 < x → SameButCluster s.region t c → IsSized t
      → Leaves t (slice_set s.counts.items c x) s.first_mbuf s.free_mbufs s.first_cluster s.free_clusters
      (with_cluster v c (record { count = x; bytes = cluster_bytes t c }))
  counted_as c x t counted above same sized =
      let r = s.region in let ok = a.1.2 in let counts = s.counts.items in
      let lt = cluster_index_is s v a e c counted in
      let count_here : slice_index (slice_set counts c x) c ≡ x =
      get_or-set_same counts c x 0 (omega (arith, ok.counts_long)) in
      let now : slice_index counts c ≡ cluster_count v c =
      count_is s v a e c (omega (arith, ok.counts_long, counts_are s v a e)) in
      let none : times_listed c a.1.1 ≡ 0 = ok.uncounted c lt ∙ not_zero (slice_index counts c) 1 0 (omega arith) in
      let leaves =
      cluster_step r counts s.first_mbuf s.free_mbufs s.first_cluster s.free_clusters a.1.0 a.1.1 ok t c x
      s.first_cluster s.free_clusters a.1.1 v lt same sized
      (list_kept (next_cluster r) r.clusters (next_cluster t) s.first_cluster s.free_clusters a.1.1 ok.cluster_list
      (λ j below p. same.links j below (λ q. absurd (omega (arith, none, ap (λ (k : ℕ). times_listed k a.1.1) q)))))
      (λ k ne. refl) (none ∙ sym (not_zero x 1 0 above)) (shown_as s v a e) in
      subst (λ (y : ClusterView). Leaves t (slice_set counts c x) s.first_mbuf s.free_mbufs s.first_cluster
      s.free_clusters (with_cluster v c y))
      ((λ j. record { count = count_here j; bytes = if count_here j == 0 then [] else cluster_bytes t c })
      ∙ ap (λ (bs : List ℕ). record { count = x; bytes = bs }) (not_zero x [] (cluster_bytes t c) above)) leaves

  -- a cluster gets one more reference
  pub hold_more : (c x : ℕ) → 0 < cluster_count v c → x ≡ cluster_count v c
      → Leaves s.region (slice_set s.counts.items c (x + 1)) s.first_mbuf s.free_mbufs s.first_cluster s.free_clusters
      (with_cluster v c (held_once_more (cluster_of v c)))
  hold_more c x counted is =
      subst (λ (y : ClusterView). Leaves s.region (slice_set s.counts.items c (x + 1)) s.first_mbuf s.free_mbufs
      s.first_cluster s.free_clusters (with_cluster v c y))
      (λ j. record {
        count = is j + 1;
        bytes = ap (λ (y : ClusterView). y.bytes) (sym (cluster_is s v a e c counted)) j;
      })
      (counted_as c (x + 1) s.region counted (omega arith) (same_region s.region c) a.1.2.sized)

  -- a cluster loses a reference and stays in use
  pub hold_less : (c x : ℕ) → 0 < cluster_count v c → x + 1 ≡ cluster_count v c → 0 < x
      → Leaves s.region (slice_set s.counts.items c x) s.first_mbuf s.free_mbufs s.first_cluster s.free_clusters
      (with_cluster v c (released (cluster_of v c)))
  hold_less c x counted is above =
      let less : x ≡ cluster_count v c - 1 = omega arith in
      subst (λ (y : ClusterView). Leaves s.region (slice_set s.counts.items c x) s.first_mbuf s.free_mbufs
      s.first_cluster s.free_clusters (with_cluster v c y))
      ((λ j. record {
        count = less j;
        bytes = ap (λ (y : ClusterView). y.bytes) (sym (cluster_is s v a e c counted)) j;
      })
      ∙ sym (ap (λ b. if b then free_cluster else record (cluster_of v c) { count = cluster_count v c - 1 })
      (ne_eqb (cluster_count v c) 1 (λ q. absurd (omega arith)))))
      (counted_as c x s.region counted above (same_region s.region c) a.1.2.sized)

  -- a cluster loses its last reference and is free
  pub give_back : (c : ℕ) (t : Cells) → cluster_count v c ≡ 1
      → t ≡ cells.cells_written s.region (link_part c) (link_bytes s.first_cluster)
      → Leaves t (slice_set s.counts.items c 0) s.first_mbuf s.free_mbufs (Some c) (s.free_clusters + 1)
      (with_cluster v c (released (cluster_of v c)))
  give_back c t one is =
      let r = s.region in let ok = a.1.2 in let counts = s.counts.items in
      let counted : 0 < cluster_count v c = omega arith in
      let lt = cluster_index_is s v a e c counted in
      let now : slice_index counts c ≡ cluster_count v c =
      count_is s v a e c (omega (arith, ok.counts_long, counts_are s v a e)) in
      let none : times_listed c a.1.1 ≡ 0 = ok.uncounted c lt ∙ not_zero (slice_index counts c) 1 0 (omega arith) in
      let ws = take 4 (link_bytes s.first_cluster) in
      let ws_is : ws ≡ link_bytes s.first_cluster =
      take_all 4 (link_bytes s.first_cluster) (omega (arith, length-link_bytes s.first_cluster)) in
      let long : length ws ≡ 4 = ap length ws_is ∙ length-link_bytes s.first_cluster in
      let ch = cluster_changed r ok.sized c 0 ws lt (omega arith) in
      let t0 : Cells = record r { bytes = over r.bytes (128 * length r.heads + 2048 * c + 0) ws } in
      let count_here : slice_index (slice_set counts c 0) c ≡ 0 =
      get_or-set_same counts c 0 0 (omega (arith, ok.counts_long)) in
      let link_here : next_cluster t0 c ≡ s.first_cluster =
      ap link_in (written_here ws long lt ∙ ws_is)
      ∙ link_back s.first_cluster (first_link s.first_cluster a.1.1 ok.cluster_list) in
      let leaves =
      cluster_step r counts s.first_mbuf s.free_mbufs s.first_cluster s.free_clusters a.1.0 a.1.1 ok t0 c 0 (Some c)
      (s.free_clusters + 1) (c ∷ a.1.1) v lt ch.0 ch.2
      (list_put (next_cluster r) r.clusters (next_cluster t0) s.first_cluster c s.free_clusters a.1.1 ok.cluster_list lt
      none link_here (λ j below ne. ch.0.links j below ne))
      (λ k ne. times-there k c a.1.1 (λ q. ne (sym q))) (times-here c a.1.1 ∙ ap suc none) (shown_as s v a e) in
      subst (λ (x : Cells). Leaves x (slice_set counts c 0) s.first_mbuf s.free_mbufs (Some c) (s.free_clusters + 1)
      (with_cluster v c (released (cluster_of v c)))) (sym is)
      (subst (λ (y : ClusterView). Leaves t0 (slice_set counts c 0) s.first_mbuf s.free_mbufs (Some c)
      (s.free_clusters + 1) (with_cluster v c y))
      ((λ j. record { count = count_here j; bytes = if count_here j == 0 then [] else cluster_bytes t0 c })
      ∙ sym (ap (λ b. if b then free_cluster else record (cluster_of v c) { count = cluster_count v c - 1 })
      (eq-eqb (cluster_count v c) 1 one))) leaves)
    where
      first_link : (f : Option ℕ) (free : List ℕ)
          → IsFreeList (next_cluster s.region) s.region.clusters f s.free_clusters free → IsLink f
      first_link None free h = tt
      first_link (Some x) free h =
          let found = first_free (next_cluster s.region) s.region.clusters x s.free_clusters free h in
          omega (arith, found.2, a.1.2.sized.clusters)

      written_here : (ws : List ℕ) → length ws ≡ 4 → c < s.region.clusters
          → take 4 (drop (128 * length s.region.heads + 2048 * c + 0)
          (over s.region.bytes (128 * length s.region.heads + 2048 * c + 0) ws)) ≡ ws
      written_here ws long lt =
          let at = 128 * length s.region.heads + 2048 * c in
          let same : at + 0 ≡ at + 0 + 0 = omega arith in
          let inside : at + 0 + 4 ≤ length s.region.bytes = omega (arith, a.1.2.sized.block) in
          ap (λ (m : ℕ). take 4 (drop (at + 0) (over s.region.bytes m ws))) same
          ∙ block_written s.region.bytes (at + 0) 4 0 ws inside (omega arith)
          ∙ over_all (block s.region.bytes (at + 0) 4) ws (long ∙ sym (length_block s.region.bytes (at + 0) 4 inside))

  pub give_back_as : (c x : ℕ) (t : Cells) → cluster_count v c ≡ x + 1 → x ≡ 0
      → t ≡ cells.cells_written s.region (link_part c) (link_bytes s.first_cluster)
      → Leaves t (slice_set s.counts.items c x) s.first_mbuf s.free_mbufs (Some c) (s.free_clusters + 1)
      (with_cluster v c (released (cluster_of v c)))
  give_back_as c x t one zero_is is =
      subst (λ (n : ℕ). Leaves t (slice_set s.counts.items c n) s.first_mbuf s.free_mbufs (Some c) (s.free_clusters + 1)
      (with_cluster v c (released (cluster_of v c)))) (sym zero_is)
      (give_back c t (omega arith) is)

  -- bytes of a buffer in use are written
  pub written : (b : Buffer) (at n : ℕ) (ws : List ℕ) → IsRoom v b at n
      → Leaves (record s.region { bytes = over s.region.bytes (origin s.region b + at) (take n ws) }) s.counts.items
      s.first_mbuf s.free_mbufs s.first_cluster s.free_clusters (with_bytes v b (over (bytes_in v b) at (take n ws)))
  written (Mbuf i) at n ws room =
      let r = s.region in let ok = a.1.2 in let free = a.1.0 in
      let lt = index_is s v a e i room.0 in
      let once = out_once r s.counts.items free i (out_here s v a e i room.0) in
      let ch = mbuf_changed r ok.sized i at (take n ws) lt (omega (arith, room.3, length-take n ws)) in
      let t : Cells = record r { bytes = over r.bytes (128 * i + at) (take n ws) } in
      let leaves =
      mbuf_step r s.counts.items s.first_mbuf s.free_mbufs s.first_cluster s.free_clusters free a.1.1 ok t i
      s.first_mbuf s.free_mbufs free v lt ch.0 ch.3
      (list_kept (next_mbuf r) (length r.heads) (next_mbuf t) s.first_mbuf s.free_mbufs free ok.mbuf_list
      (λ j below p. refl))
      (λ k ne. refl) (shown_as s v a e) in
      subst (λ (x : Option MbufView). Leaves t s.counts.items s.first_mbuf s.free_mbufs s.first_cluster s.free_clusters
      (with_mbuf v i x))
      (seen_out t free i once ∙ (λ j. Some (record {
        head = ap (λ (x : MbufView). x.head) (sym (mbuf_is s v a e i room.0)) j;
        bytes = (ch.2 ∙ ap (λ (x : MbufView). over x.bytes at (take n ws)) (sym (mbuf_is s v a e i room.0))) j;
      }))) leaves
  written (Cluster c) at n ws room =
      let r = s.region in let ok = a.1.2 in let counts = s.counts.items in
      let lt = cluster_index_is s v a e c room.0 in
      let now : slice_index counts c ≡ cluster_count v c =
      count_is s v a e c (omega (arith, ok.counts_long, counts_are s v a e)) in
      let ch = cluster_changed r ok.sized c at (take n ws) lt (omega (arith, room.1, length-take n ws)) in
      let t : Cells = record r { bytes = over r.bytes (128 * length r.heads + 2048 * c + at) (take n ws) } in
      subst (λ (k : List ℕ). Leaves t k s.first_mbuf s.free_mbufs s.first_cluster s.free_clusters
      (with_cluster v c (record { count = cluster_count v c; bytes = over (cluster_of v c).bytes at (take n ws) })))
      (set-get_or counts c 0)
      (subst (λ (y : ClusterView). Leaves t (slice_set counts c (slice_index counts c)) s.first_mbuf s.free_mbufs
      s.first_cluster s.free_clusters (with_cluster v c y))
      (λ j. record {
        count = now j;
        bytes = (ch.1
            ∙ ap (λ (x : ClusterView). over x.bytes at (take n ws)) (sym (cluster_is s v a e c room.0))) j;
      })
      (counted_as c (slice_index counts c) t room.0 (omega (arith, room.0)) ch.0 ch.2))

  -- bytes of one part are copied over those of another
  pub copied : (p q : Part) (t : Cells) → IsPart v p → IsPart v q
      → t ≡ cells.cells_written s.region q (cells.read s.region p)
      → Leaves t s.counts.items s.first_mbuf s.free_mbufs s.first_cluster s.free_clusters (write v q (stored_part v p))
  copied p q t from to is =
      subst (λ (x : Cells). Leaves x s.counts.items s.first_mbuf s.free_mbufs s.first_cluster s.free_clusters
      (write v q (stored_part v p)))
      (sym (is ∙ ap (cells.cells_written s.region q) (read_is s v a e p.buffer p.start p.len from)))
      (written q.buffer q.start q.len (stored_part v p) to)

  -- ---- the first free mbuf or cluster is allocated
  pub first_index : (i : ℕ) → s.first_mbuf ≡ Some i → i < length s.region.heads
  first_index i first =
      (first_free (next_mbuf s.region) (length s.region.heads) i s.free_mbufs a.1.0
      (subst (λ (f : Option ℕ). IsFreeList (next_mbuf s.region) (length s.region.heads) f s.free_mbufs a.1.0) first
      a.1.2.mbuf_list)).2

  pub first_cluster_index : (c : ℕ) → s.first_cluster ≡ Some c → c < s.region.clusters
  first_cluster_index c first =
      (first_free (next_cluster s.region) s.region.clusters c s.free_clusters a.1.1
      (subst (λ (f : Option ℕ). IsFreeList (next_cluster s.region) s.region.clusters f s.free_clusters a.1.1) first
      a.1.2.cluster_list)).2

  pub get_left : (h : Head) (i : ℕ) (t : Cells) (next : Option ℕ) → s.first_mbuf ≡ Some i → next ≡ next_mbuf s.region i
      → (sets : cells.SetsCellHead s.region t i h)
      → Leaves t s.counts.items next (s.free_mbufs - 1) s.first_cluster s.free_clusters
      (with_mbuf v i (Some (record { head = h; bytes = over (mbuf_bytes s.region i) 0 sets.0 })))
      × TakesWith v (seen_in t s.counts.items next) i h
  get_left h i t next first next_is sets =
      let r = s.region in let counts = s.counts.items in
      let ok =
      subst (λ (f : Option ℕ). IsSound r counts f s.free_mbufs s.first_cluster s.free_clusters a.1.0 a.1.1) first
      a.1.2 in
      let found = first_free (next_mbuf r) (length r.heads) i s.free_mbufs a.1.0 ok.mbuf_list in
      let ok' =
      subst (λ (l : List ℕ). IsSound r counts (Some i) s.free_mbufs s.first_cluster s.free_clusters l a.1.1) found.1
      ok in
      let is' = subst (λ (l : List ℕ). store_with r counts l ≡ v) found.1 (shown_as s v a e) in
      let after : StoreView = with_mbuf v i (Some (record { head = h; bytes = over (mbuf_bytes r i) 0 sets.0 })) in
      let plain = got r counts s.free_mbufs s.first_cluster s.free_clusters i found.0 a.1.1 v ok' is' h sets.0 sets.1 in
      let leaves : Leaves t counts next (s.free_mbufs - 1) s.first_cluster s.free_clusters after =
      subst (λ (x : Cells). Leaves x counts next (s.free_mbufs - 1) s.first_cluster s.free_clusters after) (sym sets.2)
      (subst (λ (x : Option ℕ). Leaves (with_head r i h sets.0) counts x (s.free_mbufs - 1) s.first_cluster
      s.free_clusters after) (sym next_is) plain) in (
        leaves,
        record {
          was_free = was_free r counts s.free_mbufs s.first_cluster s.free_clusters i found.0 a.1.1 v ok' is';
          bytes = over (mbuf_bytes r i) 0 sets.0;
          long = got_long r counts s.free_mbufs s.first_cluster s.free_clusters i found.0 a.1.1 v ok' is' sets.0;
          change = leaves.seen;
        },
      )

  pub get_cluster_left : (c : ℕ) (next : Option ℕ) → s.first_cluster ≡ Some c → next ≡ next_cluster s.region c
      → Leaves s.region (slice_set s.counts.items c 1) s.first_mbuf s.free_mbufs next (s.free_clusters - 1)
      (with_cluster v c (record { count = 1; bytes = cluster_bytes s.region c }))
      × TakesCluster v (seen_in s.region (slice_set s.counts.items c 1) s.first_mbuf) c
  get_cluster_left c next first next_is =
      let r = s.region in let counts = s.counts.items in
      let ok =
      subst (λ (f : Option ℕ). IsSound r counts s.first_mbuf s.free_mbufs f s.free_clusters a.1.0 a.1.1) first a.1.2
      in
      let found = first_free (next_cluster r) r.clusters c s.free_clusters a.1.1 ok.cluster_list in
      let ok' =
      subst (λ (l : List ℕ). IsSound r counts s.first_mbuf s.free_mbufs (Some c) s.free_clusters a.1.0 l) found.1 ok
      in
      let is = shown_as s v a e in
      let after : StoreView = with_cluster v c (record { count = 1; bytes = cluster_bytes r c }) in
      let leaves : Leaves r (slice_set counts c 1) s.first_mbuf s.free_mbufs next (s.free_clusters - 1) after =
      subst (λ (x : Option ℕ). Leaves r (slice_set counts c 1) s.first_mbuf s.free_mbufs x (s.free_clusters - 1) after)
      (sym next_is)
      (got_cluster r counts s.first_mbuf s.free_mbufs s.free_clusters c a.1.0 found.0 v ok' is) in (
        leaves,
        record {
          was_free = cluster_was_free r counts s.first_mbuf s.free_mbufs s.free_clusters c a.1.0 found.0 v ok' is;
          bytes = cluster_bytes r c;
          long = cluster_long r counts s.first_mbuf s.free_mbufs s.free_clusters c a.1.0 found.0 v ok' is;
          change = leaves.seen;
        },
      )

  pub no_mbuf_free : s.first_mbuf ≡ None → s.free_mbufs ≡ 0
  no_mbuf_free none =
      none_free (next_mbuf s.region) (length s.region.heads) s.free_mbufs a.1.0
      (subst (λ (f : Option ℕ). IsFreeList (next_mbuf s.region) (length s.region.heads) f s.free_mbufs a.1.0) none
      a.1.2.mbuf_list)

  pub no_cluster_free : s.first_cluster ≡ None → s.free_clusters ≡ 0
  no_cluster_free none =
      none_free (next_cluster s.region) s.region.clusters s.free_clusters a.1.1
      (subst (λ (f : Option ℕ). IsFreeList (next_cluster s.region) s.region.clusters f s.free_clusters a.1.1) none
      a.1.2.cluster_list)
