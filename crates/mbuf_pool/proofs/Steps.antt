-- The free lists and the view of a store after a change.
use Rattle.std.proofs.Common.{◌≡◌, ◌≢◌, ℕ, ◌<◌, ◌==◌, cond, if◌then◌else◌, Option, None, Some, List, [], length, map, slice_index, slice_index_or, slice_set, refl, sym, ap, ◌∙◌, subst, arith, inl, inr}
use Rattle.std.specs.List.{range_with_len}
use Rattle.std.proofs.lemmas.Bool.{cases_eq}
use Rattle.std.proofs.lemmas.List.{length-set, get_or-set_same, get_or-set_other}
use Rattle.raw_cells.specs.Cells as cells
use Rattle.raw_cells.specs.Cells.{Cells, IsSized}
use Rattle.mbuf_pool.specs.Inside.FreeList.{times_listed, IsFreeList}
use Rattle.mbuf_pool.specs.Store.{StoreView, with_mbuf, with_cluster}
use Rattle.mbuf_pool.specs.Inside.Fields.{next_mbuf, next_cluster, mbuf_seen, cluster_seen, store_with, seen_in, IsSound, IsAccount}
use Rattle.mbuf_pool.proofs.FreeList.{list_kept}
use Rattle.mbuf_pool.proofs.Shown.{places_set, places_same, seen_is}
use Rattle.mbuf_pool.proofs.Changes.{SameButMbuf, SameButCluster}

-- the state after a step: its accounts are sound, and its view is v
pub record Leaves (t : Cells) (counts : List ℕ) (f : Option ℕ) (m : ℕ) (cf : Option ℕ) (cm : ℕ) (v : StoreView) : Type 0
  where
    pub account : IsAccount t counts f m cf cm
    pub seen : seen_in t counts f ≡ v

module _ (r : Cells) (counts : List ℕ) (f : Option ℕ) (m : ℕ) (cf : Option ℕ) (cm : ℕ) (free cfree : List ℕ)
    (ok : IsSound r counts f m cf cm free cfree) where
  -- one mbuf changes, is allocated or is freed
  pub mbuf_step : (t : Cells) (i : ℕ) (g : Option ℕ) (n : ℕ) (new : List ℕ) (v : StoreView) → i < length r.heads
      → SameButMbuf r t i → IsSized t → IsFreeList (next_mbuf t) (length r.heads) g n new
      → ((k : ℕ) → k ≢ i → times_listed k new ≡ times_listed k free) → store_with r counts free ≡ v
      → Leaves t counts g n cf cm (with_mbuf v i (mbuf_seen t new i))
  mbuf_step t i g n new v lt same sized list others is =
      let clusters : IsFreeList (next_cluster t) r.clusters cf cm cfree =
      list_kept (next_cluster r) r.clusters (next_cluster t) cf cm cfree ok.cluster_list
      (λ c below p. same.links c below) in
      let sound : IsSound t counts g n cf cm new cfree =
      record {
        sized = sized;
        mbuf_list = subst (λ (k : ℕ). IsFreeList (next_mbuf t) k g n new) (sym same.count) list;
        cluster_list = subst (λ (k : ℕ). IsFreeList (next_cluster t) k cf cm cfree) (sym same.clusters) clusters;
        counts_long = ok.counts_long ∙ sym same.clusters;
        uncounted = λ c below. ok.uncounted c (subst (λ (k : ℕ). c < k) same.clusters below);
      } in
      let mbufs : map (mbuf_seen t new) (range_with_len 0 (length t.heads))
      ≡ slice_set (store_with r counts free).mbufs i (mbuf_seen t new i) =
      ap (λ (k : ℕ). map (mbuf_seen t new) (range_with_len 0 k)) same.count
      ∙ places_set (length r.heads) (mbuf_seen r free) (mbuf_seen t new) i (mbuf_seen t new i) lt refl
      (λ k below ne. λ j.
      if others k ne j == 0 then Some (record { head = same.heads k ne j; bytes = same.mbufs k below ne j })
      else None) in
      let shows : map (cluster_seen t counts) (range_with_len 0 t.clusters) ≡ (store_with r counts free).clusters =
      ap (λ (k : ℕ). map (cluster_seen t counts) (range_with_len 0 k)) same.clusters
      ∙ places_same r.clusters (cluster_seen r counts) (cluster_seen t counts) (λ c below. λ j.
      record {
        count = slice_index counts c;
        bytes = if slice_index counts c == 0 then [] else same.all_clusters c below j;
      }) in
      record {
        account = (new, cfree, sound);
        seen = seen_is t counts g n cf cm new cfree sound
            ∙ (λ j. record { mbufs = mbufs j; clusters = shows j })
            ∙ ap (λ (w : StoreView). with_mbuf w i (mbuf_seen t new i)) is;
      }

  -- one cluster changes, is allocated, or gets another count
  pub cluster_step : (t : Cells) (c x : ℕ) (g : Option ℕ) (n : ℕ) (new : List ℕ) (v : StoreView) → c < r.clusters
      → SameButCluster r t c → IsSized t → IsFreeList (next_cluster t) r.clusters g n new
      → ((k : ℕ) → k ≢ c → times_listed k new ≡ times_listed k cfree) → times_listed c new ≡ cond (x == 0) 1 0
      → store_with r counts free ≡ v
      → Leaves t (slice_set counts c x) f m g n (with_cluster v c (cluster_seen t (slice_set counts c x) c))
  cluster_step t c x g n new v lt same sized list others here is =
      let after = slice_set counts c x in
      let count_here : slice_index after c ≡ x = get_or-set_same counts c x 0 (omega (arith, ok.counts_long)) in
      let count_other : (k : ℕ) → k ≢ c → slice_index after k ≡ slice_index counts k =
      λ k ne. get_or-set_other counts c k x 0 ne in
      let mbuf_list : IsFreeList (next_mbuf t) (length t.heads) f m free =
      subst (λ (k : ℕ). IsFreeList (next_mbuf t) k f m free) (sym (ap length same.heads))
      (list_kept (next_mbuf r) (length r.heads) (next_mbuf t) f m free ok.mbuf_list
      (λ k below p. ap (λ hs. (slice_index_or hs k cells.zero_head).next) same.heads)) in
      let sound : IsSound t after f m g n free new =
      record {
        sized = sized;
        mbuf_list = mbuf_list;
        cluster_list = subst (λ (k : ℕ). IsFreeList (next_cluster t) k g n new) (sym same.clusters) list;
        counts_long = length-set counts c x ∙ ok.counts_long ∙ sym same.clusters;
        uncounted = λ k below. elim (cases_eq k c) [
          | inl e ↦ subst (λ (j : ℕ). times_listed j new ≡ cond (slice_index after j == 0) 1 0) (sym e)
              (here ∙ ap (λ (y : ℕ). cond {A = ℕ} (y == 0) 1 0) (sym count_here))
          | inr ne ↦ others k ne ∙ ok.uncounted k (subst (λ (j : ℕ). k < j) same.clusters below)
              ∙ ap (λ (y : ℕ). cond {A = ℕ} (y == 0) 1 0) (sym (count_other k ne))
        ];
      } in
      let mbufs : map (mbuf_seen t free) (range_with_len 0 (length t.heads)) ≡ (store_with r counts free).mbufs =
      ap (λ hs. map (mbuf_seen t free) (range_with_len 0 (length hs))) same.heads
      ∙ places_same (length r.heads) (mbuf_seen r free) (mbuf_seen t free) (λ k below. λ j.
      if times_listed k free == 0 then Some
      (record { head = slice_index_or (same.heads j) k cells.zero_head; bytes = same.mbufs k below j }) else None) in
      let shows : map (cluster_seen t after) (range_with_len 0 t.clusters)
      ≡ slice_set (store_with r counts free).clusters c (cluster_seen t after c) =
      ap (λ (k : ℕ). map (cluster_seen t after) (range_with_len 0 k)) same.clusters
      ∙ places_set r.clusters (cluster_seen r counts) (cluster_seen t after) c (cluster_seen t after c) lt refl
      (λ k below ne. λ j.
      record {
        count = count_other k ne j;
        bytes = if count_other k ne j == 0 then [] else same.others k below ne j;
      }) in
      record {
        account = (free, new, sound);
        seen = seen_is t after f m g n free new sound
            ∙ (λ j. record { mbufs = mbufs j; clusters = shows j })
            ∙ ap (λ (w : StoreView). with_cluster w c (cluster_seen t after c)) is;
      }
