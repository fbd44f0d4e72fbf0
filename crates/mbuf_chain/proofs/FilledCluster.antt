-- A new mbuf with a new cluster, to which bytes are written.
use Rattle.std.proofs.Common.{◌≡◌, ℕ, ◌+◌, ◌<◌, ◌≤◌, Bool, cond, List, [], ◌∷◌, length, Some, refl, sym, ap, ◌∙◌, subst, arith, take, drop}
use Rattle.std.proofs.lemmas.Bool.{eq-eqb}
use Rattle.std.proofs.lemmas.List.Sums.{sum_by-cons}
use Rattle.std.proofs.lemmas.Option.{same_Some, slice_get_within}
use Rattle.mbuf_pool.specs.Cells.{Head, over}
use Rattle.mbuf_pool.specs.Store.{StoreView, ClusterView, IsStore, TakesCluster, cluster_of, free_cluster, mbuf_head}
use Rattle.mbuf_chain.specs.Chain.{Entry, Front, ChainView, IsPlace, IsUnshared, Adds, chain_of, references, refers, with_chain}
use Rattle.mbuf_chain.specs.Steps.{one_mbuf, with_entry}
use Rattle.mbuf_chain.specs.Inside.Access.{CanWrite}
use Rattle.mbuf_chain.specs.Inside.Cells.{IsPool, Taken, WritesPlace, entry_from, entry_over, front_of, only_head, place_bytes, pool_of, room_high, head_room_low}
use Rattle.mbuf_chain.proofs.Bytes.{run_written}
use Rattle.mbuf_chain.proofs.Filled.{only}
use Rattle.mbuf_chain.proofs.Made.{IsMade, added, front_for, new_clustered, total_for}
use Rattle.mbuf_chain.proofs.Stores.{cluster_here}
use Rattle.mbuf_chain.proofs.Laws.Accounts.{references-adds}
use Rattle.mbuf_chain.proofs.Laws.Owners.{live_adds, shown_adds}
use Rattle.mbuf_chain.proofs.Laws.Steps.{filled, new_entry}

-- the entry before the bytes are written
abbrev before : StoreView → ℕ → ℕ → ℕ → Entry
before u d start len = record { bytes = take len (drop start (cluster_of u d).bytes); start = start; cluster = Some d }

made : (s t u : StoreView) (i d : ℕ) (header : Bool) (start len : ℕ) → IsPool s → TakesCluster s t d
    → Taken t u i (only_head header start len (Some d)) → IsStore u → start + len ≤ 2048
    → IsMade s u i (one_mbuf header (before u d start len) i)
made s t u i d header start len pool got_cluster got store high =
    let h : Head = only_head header start len (Some d) in
    let n = new_clustered s t u i d h got_cluster got refl store in
    subst (λ (f : Front). IsMade s u i (record { front = f; entries = before u d start len ∷ []; cells = i ∷ [] }))
    (front_for header start len (Some d))
    (subst (λ (e : Entry). IsMade s u i
    (record { front = front_of (only_head header start len (Some d)); entries = e ∷ []; cells = i ∷ [] })) (ap
    (entry_from u i) n.head)
    (added s u i h pool n refl (record { low = omega arith; high = omega (arith, high); kind = refl })
    (total_for header start len (Some d))))

-- what the write needs, and the pool after it
pub record Blank (s u : StoreView) (i d : ℕ) (header : Bool) (start : ℕ) (ws : List ℕ) : Type 0 where
  pub can : CanWrite u i (only i)
  pub cluster : Some d ≡ (mbuf_head u i).cluster
  pub low : head_room_low (mbuf_head u i) ≤ start
  pub high : start + length ws ≤ room_high (mbuf_head u i)
  pub done : (v : StoreView) → WritesPlace u v i (only i) start ws
      → Adds (pool_of s) (pool_of v) i (one_mbuf header (record { bytes = ws; start = start; cluster = Some d }) i)

pub blank : (s t u : StoreView) (i d : ℕ) (header : Bool) (start : ℕ) (ws : List ℕ) → IsPool s → TakesCluster s t d
    → references (pool_of s) d ≡ 0 → Taken t u i (only_head header start (length ws) (Some d)) → IsStore u
    → start + length ws ≤ 2048
    → Blank s u i d header start ws
blank s t u i d header start ws pool got_cluster none got store high =
    let m = made s t u i d header start (length ws) pool got_cluster got store high in
    let n = new_clustered s t u i d (only_head header start (length ws) (Some d)) got_cluster got refl store in
    let old : Entry = before u d start (length ws) in
    let shows = new_entry (pool_of s) (pool_of u) i 0 header old m.adds refl in
    let below : d < length s.clusters = slice_get_within s.clusters d free_cluster got_cluster.was_free in
    let here : cluster_of u d ≡ record { count = 1; bytes = got_cluster.bytes } =
    ap (λ (w : StoreView). cluster_of w d) got.change ∙ ap (λ (w : StoreView). cluster_of w d) got_cluster.change
    ∙ cluster_here s d (record { count = 1; bytes = got_cluster.bytes }) below in
    let long : length (cluster_of u d).bytes ≡ 2048 =
    store.cluster_bytes d (omega (arith, ap (λ (v : ClusterView). v.count) here)) in
    let one : references (pool_of u) d ≡ 1 =
    omega (
      arith,
      references-adds d m.adds,
      none,
      sum_by-cons (λ (e : Entry). cond {A = ℕ} (refers d e) 1 0) old [],
      ap (λ (b : Bool). cond {A = ℕ} b 1 0) (eq-eqb d d refl),
    ) in
    record {
      can = record {
        place = record {
          pool = m.pool;
          live = live_adds m.adds;
          place =
              subst (λ (v : ChainView). IsPlace v (only i)) (sym (shown_adds m.adds))
              (record { within = omega arith; cell = refl });
        };
        unshared =
            subst (IsUnshared (pool_of u)) (sym shows)
            (λ k is. subst (λ (j : ℕ). references (pool_of u) j ≡ 1) (same_Some d k is) one);
      };
      cluster = ap (λ (h : Head). h.cluster) (sym n.head);
      low = omega (arith, ap head_room_low n.head);
      high = omega (arith, high, ap room_high n.head);
      done =
          λ v w. filled (pool_of s) (pool_of u) (pool_of v) i 0 header old
          (record { bytes = ws; start = start; cluster = Some d }) m.adds refl
          (w.map_is ∙ ap (λ (e : Entry). with_chain (pool_of u) i (with_entry (chain_of (pool_of u) i) 0 e))
          (written n.head long));
    }
  where
    written : mbuf_head u i ≡ only_head header start (length ws) (Some d) → length (cluster_of u d).bytes ≡ 2048
        → entry_over u i start ws ≡ record { bytes = ws; start = start; cluster = Some d }
    written e long =
        ap (λ (h : Head). record {
          bytes = take h.len (drop h.start (over (place_bytes u i h.cluster) start ws));
          start = h.start;
          cluster = h.cluster;
        }) e
        ∙ (λ j. record {
          bytes = run_written (cluster_of u d).bytes start ws (omega (arith, long, high)) j;
          start = start;
          cluster = Some d;
        })
