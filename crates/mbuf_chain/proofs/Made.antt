-- A chain of one new mbuf.
use Rattle.std.proofs.Common.{◌≡◌, ◌≢◌, ℕ, zero, suc, ◌+◌, ◌<◌, ◌≤◌, Bool, true, false, not, cond, ◌&&◌, nat_eq, List, [], ◌∷◌, length, map, Option, None, Some, unwrap_or, count_by, refl, sym, ap, ◌∙◌, subst, arith, inl, inr, slice_get, slice_index_or, take, drop}
use Rattle.std.specs.FinMap as finmap
use Rattle.std.specs.FinMap.{FinMap}
use Rattle.std.specs.Ordering.{nat_cmp}
use Rattle.std.specs.Option.{option_eq}
use Rattle.std.proofs.lemmas.Bool.{cases_eq}
use Rattle.std.specs.List.{range_with_len}
use Rattle.std.proofs.lemmas.List.Sums.{sum_by-cons}
use Rattle.std.proofs.lemmas.Option.{none-some, same_Some, slice_get_within, get_or_from_slice_get}
use Rattle.std.proofs.lemmas.List.{length-set}
use Rattle.mbuf_pool.specs.Cells.{Head, PacketHeader}
use Rattle.mbuf_pool.specs.Store.{StoreView, MbufView, ClusterView, no_mbuf, free_cluster, TakesCluster, with_cluster, held_once_more, is_out, mbuf_of, mbuf_head, cluster_of, cluster_count, mbufs_out, with_mbuf, released, IsStore}
use Rattle.mbuf_pool.proofs.Laws.{taken_back, counted_within}
use Rattle.mbuf_chain.specs.Chain.{Entry, Front, ChainView, alone, Adds, held_mbufs, references, reference_counts, free_clusters, chain_of, entry_of}
use Rattle.mbuf_chain.specs.declared.place.Place.{Place}
use Rattle.mbuf_chain.specs.Steps.{one_mbuf, narrowed}
use Rattle.mbuf_chain.specs.Inside.Access.{HasMbuf}
use Rattle.mbuf_chain.specs.Inside.Cells.{weigh, weigh_all, is_at, one, place_bytes, entry_from, entry_at, front_of, refers_at, read_chain, cells_from, is_pointed, view_of, AreSoundChains, IsFit, pool_of, IsPool, out_at, Taken, only_head, start_of, head_room_low}
use Rattle.mbuf_chain.proofs.Lists.{is_at_same, is_at_other, on, off}
use Rattle.mbuf_chain.proofs.Changes.{SameCell, same_cell, step, view_is, get-view_of, held_is, references_is}
use Rattle.mbuf_chain.proofs.Focused.{weigh_all_has, open_on, enter}
use Rattle.mbuf_chain.proofs.Stores.{slot_here, mbuf_there, out_there, out_here, outs_total, cluster_here, cluster_there, refers_to, refers_not, refers_none}
use Rattle.mbuf_chain.proofs.Heads.{Shown, narrowed_is}

-- from s to t mbuf i was allocated as a chain of one mbuf, and its reference was counted
pub record NewMbuf (s t : StoreView) (i : ℕ) (h : Head) : Type 0 where
  pub mbufs : length t.mbufs ≡ length s.mbufs
  pub clusters : length t.clusters ≡ length s.clusters
  pub fresh : is_out s i ≡ false
  pub out : is_out t i ≡ true
  pub outs : (k : ℕ) → k ≢ i → is_out t k ≡ is_out s k
  pub total : mbufs_out t ≡ mbufs_out s + 1
  pub kept : (k : ℕ) → k ≢ i → ((c : ℕ) → (mbuf_head s k).cluster ≡ Some c → 0 < cluster_count s c) → SameCell s t k
  pub head : mbuf_head t i ≡ h
  pub counts : (c : ℕ) → cluster_count t c ≡ cluster_count s c + refers_at t c i
  pub store : IsStore t

-- a cluster to which an mbuf of a chain refers has a count above 0
pub counted_in : (s : StoreView) (lists : List (List ℕ)) → AreSoundChains s lists → (k c : ℕ)
    → 0 < weigh_all (is_at k) lists
    → (mbuf_head s k).cluster ≡ Some c → 0 < cluster_count s c
counted_in s lists ok k c here is =
    omega (arith, ok.counted c, refers_to s k c is, weigh_all_has (refers_at s c) k lists here)

pub record IsMade (s t : StoreView) (i : ℕ) (v : ChainView) : Type 0 where
  pub pool : IsPool t
  pub adds : Adds (pool_of s) (pool_of t) i v

pub added : (s t : StoreView) (i : ℕ) (h : Head) → IsPool s → NewMbuf s t i h → h.next ≡ None → IsFit h
    → ((packet : PacketHeader) → h.packet ≡ Some packet → packet.len ≡ h.len)
    → IsMade s t i (record { front = front_of h; entries = entry_at t i ∷ []; cells = i ∷ [] })
added s t i h (lists, ok, totals) n ends fit total =
    let went = step s t [] ((i ∷ []) ∷ []) lists ok (record {
      kept =
          λ k p. n.kept k (λ e. absurd (omega (
            arith,
            ok.once i,
            off (is_out s i) n.fresh,
            subst (λ (j : ℕ). 0 < weigh_all (is_at j) lists) e p,
          ))) (λ c is. counted_in s lists ok k c p is);
      linked = (((refl, n.out, subst IsFit (sym n.head) fit, ap (λ (y : Head). y.next) n.head ∙ ends), tt), tt);
      once = λ k. elim (cases_eq k i) [
        | inl e ↦ subst (λ (j : ℕ). weigh_all (is_at j) ((i ∷ []) ∷ []) + out_at s j ≡ 0 + out_at t j) (sym e)
            (omega (arith, is_at_same i, off (is_out s i) n.fresh, on (is_out t i) n.out))
        | inr ne ↦ omega (arith, is_at_other k i (λ e. ne (sym e)), ap {B = ℕ} (λ b. cond b 1 0) (n.outs k ne))
      ];
      total = omega (arith, n.total);
      counted = λ c. omega (arith, n.counts c);
      store = n.store;
    }) in
    record {
      pool = (
        (i ∷ []) ∷ lists,
        went.sound,
        (
          λ packet is. omega (
            arith,
            total packet (ap (λ (y : Head). y.packet) (sym n.head) ∙ is),
            ap (λ (y : Head). y.len) n.head,
          ),
          went.totals totals,
        ),
      );
      adds = record {
        fresh =
            get-view_of s i ∙ ap (λ b. cond (b && not (is_pointed (length s.mbufs) s i))
            (Some (read_chain s (cells_from s (Some i)))) None) n.fresh;
        pool = λ j. record {
          mbufs = n.mbufs j;
          clusters = n.clusters j;
          chains = (view_is t _ went.sound
              ∙ ap (λ (m : FinMap nat_cmp ChainView). finmap.insert m i (read_chain t (i ∷ [])))
              (went.map_is ∙ sym (view_is s lists ok))
              ∙ ap (λ (y : Head). finmap.insert (view_of s) i
              (record { front = front_of y; entries = entry_at t i ∷ []; cells = i ∷ [] })) n.head) j;
        };
      };
    }

-- ---- a new plain mbuf
pub new_plain : (s t : StoreView) (i : ℕ) (h : Head) → Taken s t i h → h.cluster ≡ None → IsStore t → NewMbuf s t i h
new_plain s t i h got none store =
    let m : MbufView = record { head = h; bytes = got.bytes } in
    record {
      mbufs = ap (λ (v : StoreView). length v.mbufs) got.change ∙ length-set s.mbufs i (Some m);
      clusters = ap (λ (v : StoreView). length v.clusters) got.change;
      fresh = got.fresh;
      out = ap (λ (v : StoreView). is_out v i) got.change ∙ out_here s i (Some m) got.below;
      outs = λ k ne. ap (λ (v : StoreView). is_out v k) got.change ∙ out_there s i (Some m) got.below k ne;
      total = omega (arith, ap mbufs_out got.change, outs_total s i (Some m) got.below, off (is_out s i) got.fresh);
      kept =
          λ k ne _. same_cell s t k (ap (λ (v : StoreView). mbuf_of v k) got.change
          ∙ mbuf_there s i (Some m) got.below k ne) (ap (λ (v : StoreView). is_out v k) got.change
          ∙ out_there s i (Some m) got.below k ne)
          (λ c _. ap (λ (v : StoreView). (cluster_of v c).bytes) got.change);
      head = head_is;
      counts =
          λ c. omega (
            arith,
            ap (λ (v : StoreView). cluster_count v c) got.change,
            refers_none t i c (ap (λ (y : Head). y.cluster) head_is ∙ none),
          );
      store = store;
    }
  where
    head_is : mbuf_head t i ≡ h
    head_is =
        ap (λ (v : StoreView). mbuf_head v i) got.change
        ∙ ap (λ (o : Option MbufView). (unwrap_or o no_mbuf).head)
        (slot_here s i (Some (record { head = h; bytes = got.bytes })) got.below)

-- ---- heads of new mbufs
pub front_for : (header : Bool) (start len : ℕ) (cluster : Option ℕ)
    → front_of (only_head header start len cluster) ≡ alone header
front_for true start len cluster = refl
front_for false start len cluster = refl

pub total_for : (header : Bool) (start len : ℕ) (cluster : Option ℕ) (packet : PacketHeader)
    → (only_head header start len cluster).packet ≡ Some packet → packet.len ≡ len
total_for true start len cluster packet is = ap (λ (p : PacketHeader). p.len) (sym (same_Some _ _ is))
total_for false start len cluster packet is = absurd (none-some packet is)

pub low_for : (header : Bool) (start len : ℕ) → head_room_low (only_head header start len None) ≡ start_of header
low_for true start len = refl
low_for false start len = refl

-- a new chain of one plain mbuf, with the bytes that are stored there
pub plain_made : (s t : StoreView) (i : ℕ) (header : Bool) (start len : ℕ) → IsPool s
    → Taken s t i (only_head header start len None) → IsStore t → start_of header ≤ start → start + len ≤ 128
    → IsMade s t i (one_mbuf header
    (record { bytes = take len (drop start (mbuf_of t i).bytes); start = start; cluster = None }) i)
plain_made s t i header start len pool got store low high =
    let h = only_head header start len None in
    let n = new_plain s t i h got refl store in
    subst (λ (f : Front). IsMade s t i
    (record {
      front = f;
      entries = record
          { bytes = take len (drop start (mbuf_of t i).bytes); start = start; cluster = None } ∷ [];
      cells =
          i ∷ [];
    })) (front_for header start len None)
    (subst (λ (e : Entry). IsMade s t i
    (record { front = front_of (only_head header start len None); entries = e ∷ []; cells = i ∷ [] })) (entry n.head)
    (added s t i h pool n refl (record
    { low = omega (arith, low_for header start len); high = omega arith; kind = refl }) (total_for header start len
    None)))
  where
    entry : mbuf_head t i ≡ only_head header start len None
        → entry_at t i ≡ record { bytes = take len (drop start (mbuf_of t i).bytes); start = start; cluster = None }
    entry e = ap (entry_from t i) e

-- if all mbufs are held, none is free
pub none_free : (s : StoreView) → IsPool s → mbufs_out s ≡ length s.mbufs → held_mbufs (pool_of s) ≡ length s.mbufs
none_free s (lists, ok, totals) all = held_is s lists ok ∙ all

-- an mbuf that is allocated was free
pub one_free : (s t : StoreView) (i : ℕ) (h : Head) → IsPool s → Taken s t i h → held_mbufs (pool_of s) < length s.mbufs
one_free s t i h (lists, ok, totals) got =
    let m : MbufView = record { head = h; bytes = got.bytes } in
    omega (
      arith,
      held_is s lists ok,
      outs_total s i (Some m) got.below,
      off (is_out s i) got.fresh,
      Rattle.mbuf_chain.proofs.Lists.few_out (with_mbuf s i (Some m)),
      length-set s.mbufs i (Some m),
    )

-- ---- an mbuf that shares a cluster
-- a cluster's count is at most the number of mbufs in use
pub count_few : (s : StoreView) (lists : List (List ℕ)) → AreSoundChains s lists → (c : ℕ)
    → cluster_count s c ≤ mbufs_out s
count_few s lists ok c = omega (arith, ok.counted c, ok.total, fewer lists)
  where
    at_most : (l : List ℕ) → weigh (refers_at s c) l ≤ weigh one l
    at_most [] = omega arith
    at_most (x ∷ xs) =
        omega (
          arith,
          at_most xs,
          Rattle.mbuf_chain.proofs.Lists.small
              (option_eq nat_eq (mbuf_head s x).cluster (Some c)),
        )

    fewer : (ls : List (List ℕ)) → weigh_all (refers_at s c) ls ≤ weigh_all one ls
    fewer [] = omega arith
    fewer (l ∷ ls) = omega (arith, at_most l, fewer ls)

-- the facts after an mbuf was allocated that is to share cluster d
pub record CanHold (s t : StoreView) (d : ℕ) : Type 0 where
  pub some : 0 < cluster_count t d
  pub few : cluster_count t d < 65535

pub can_hold : (s t : StoreView) (i d : ℕ) (h : Head) → IsPool s → Taken s t i h → 0 < cluster_count s d → CanHold s t d
can_hold s t i d h (lists, ok, totals) got some =
    let m : MbufView = record { head = h; bytes = got.bytes } in
    record {
      some = omega (arith, some, ap (λ (v : StoreView). cluster_count v d) got.change);
      few =
          omega (
            arith,
            count_few s lists ok d,
            ap (λ (v : StoreView). cluster_count v d) got.change,
            outs_total s i (Some m) got.below,
            off (is_out s i) got.fresh,
            Rattle.mbuf_chain.proofs.Lists.few_out (with_mbuf s i (Some m)),
            length-set s.mbufs i (Some m),
            ok.store.mbufs,
          );
    }

pub new_shared : (s t u : StoreView) (i d : ℕ) (h : Head) → Taken s t i h → h.cluster ≡ Some d → 0 < cluster_count s d
    → u ≡ with_cluster t d (held_once_more (cluster_of t d)) → IsStore u → NewMbuf s u i h
new_shared s t u i d h got is some is_held store =
    let m : MbufView = record { head = h; bytes = got.bytes } in
    let below : d < length t.clusters =
    omega (arith, counted_within s d some, ap (λ (v : StoreView). length v.clusters) got.change) in
    let here : cluster_of u d ≡ held_once_more (cluster_of t d) =
    ap (λ (v : StoreView). cluster_of v d) is_held ∙ cluster_here t d (held_once_more (cluster_of t d)) below in
    let there : (c : ℕ) → c ≢ d → cluster_of u c ≡ cluster_of t c =
    λ c ne. ap (λ (v : StoreView). cluster_of v c) is_held
    ∙ cluster_there t d (held_once_more (cluster_of t d)) below c ne in
    let head_is : mbuf_head u i ≡ h =
    ap (λ (v : StoreView). mbuf_head v i) (is_held) ∙ ap (λ (v : StoreView). mbuf_head v i) got.change
    ∙ ap (λ (o : Option MbufView). (unwrap_or o no_mbuf).head) (slot_here s i (Some m) got.below) in
    let refers : mbuf_head u i ≡ h → (c : ℕ) → c ≢ d → refers_at u c i ≡ 0 =
    λ e c ne. refers_not u i c d (ap (λ (y : Head). y.cluster) e ∙ is) ne in
    record {
      mbufs =
          ap (λ (v : StoreView). length v.mbufs) is_held ∙ ap (λ (v : StoreView). length v.mbufs) got.change
          ∙ length-set s.mbufs i (Some m);
      clusters =
          ap (λ (v : StoreView). length v.clusters) is_held ∙ length-set t.clusters d (held_once_more (cluster_of t d))
          ∙ ap (λ (v : StoreView). length v.clusters) got.change;
      fresh = got.fresh;
      out =
          ap (λ (v : StoreView). is_out v i) is_held ∙ ap (λ (v : StoreView). is_out v i) got.change
          ∙ out_here s i (Some m) got.below;
      outs =
          λ k ne. ap (λ (v : StoreView). is_out v k) is_held ∙ ap (λ (v : StoreView). is_out v k) got.change
          ∙ out_there s i (Some m) got.below k ne;
      total =
          omega (
            arith,
            ap mbufs_out is_held,
            ap mbufs_out got.change,
            outs_total s i (Some m) got.below,
            off (is_out s i) got.fresh,
          );
      kept =
          λ k ne _. same_cell s u k (ap (λ (v : StoreView). mbuf_of v k) is_held
          ∙ ap (λ (v : StoreView). mbuf_of v k) got.change ∙ mbuf_there s i (Some m) got.below k ne)
          (ap (λ (v : StoreView). is_out v k) is_held ∙ ap (λ (v : StoreView). is_out v k) got.change
          ∙ out_there s i (Some m) got.below k ne)
          (λ c _. same_bytes here there c ∙ ap (λ (v : StoreView). (cluster_of v c).bytes) got.change);
      head = head_is;
      counts = λ c. elim (cases_eq c d) [
        | inl e ↦ subst (λ (j : ℕ). cluster_count u j ≡ cluster_count s j + refers_at u j i) (sym e)
            (omega (
              arith,
              ap (λ (v : ClusterView). v.count) here,
              ap (λ (v : StoreView). cluster_count v d) got.change,
              refers_to u i d (ap (λ (y : Head). y.cluster) head_is ∙ is),
            ))
        | inr ne ↦ omega (
          arith,
          ap (λ (v : ClusterView). v.count) (there c ne),
          ap (λ (v : StoreView). cluster_count v c) got.change,
          refers head_is c ne,
        )
      ];
      store = store;
    }
  where
    same_bytes : cluster_of u d ≡ held_once_more (cluster_of t d) → ((c : ℕ) → c ≢ d → cluster_of u c ≡ cluster_of t c)
        → (c : ℕ)
        → (cluster_of u c).bytes ≡ (cluster_of t c).bytes
    same_bytes here there c = elim (cases_eq c d) [
      | inl e ↦ subst (λ (j : ℕ). (cluster_of u j).bytes ≡ (cluster_of t j).bytes) (sym e)
          (ap (λ (v : ClusterView). v.bytes) here)
      | inr ne ↦ ap (λ (v : ClusterView). v.bytes) (there c ne)
    ]

-- a new chain of one mbuf that shares some of the bytes of another in its cluster
pub shared_made : (s t u : StoreView) (i c d skip keep : ℕ) (at : Place) (header : Bool) (start : ℕ) → IsPool s
    → Shown s c at → (mbuf_head s at.cell).cluster ≡ Some d → 0 < cluster_count s d
    → skip + keep ≤ length (entry_of (chain_of (pool_of s) c) at.index).bytes
    → start ≡ (mbuf_head s at.cell).start + skip → Taken s t i (only_head header start keep (Some d))
    → u ≡ with_cluster t d (held_once_more (cluster_of t d)) → IsStore u
    → IsMade s u i (one_mbuf header (narrowed (entry_of (chain_of (pool_of s) c) at.index) skip keep) i)
shared_made s t u i c d skip keep at header start pool k is some within start_is got is_held store =
    let h = only_head header start keep (Some d) in
    let n = new_shared s t u i d h got refl some is_held store in
    subst (λ (f : Front). IsMade s u i
    (record {
      front = f;
      entries = narrowed (entry_of (chain_of (pool_of s) c) at.index) skip keep ∷ [];
      cells = i ∷ [];
    })) (front_for header start keep (Some d))
    (subst (λ (e : Entry). IsMade s u i
    (record { front = front_of (only_head header start keep (Some d)); entries = e ∷ []; cells = i ∷ [] })) (entry n)
    (added s u i h pool n refl (record
    { low = omega arith; high = omega (arith, start_is, k.small, k.long, within); kind = refl }) (total_for header
    start keep (Some d))))
  where
    bytes_kept : NewMbuf s u i (only_head header start keep (Some d)) → (cluster_of u d).bytes ≡ (cluster_of s d).bytes
    bytes_kept n =
        let below : d < length t.clusters =
        omega (arith, counted_within s d some, ap (λ (v : StoreView). length v.clusters) got.change) in
        ap (λ (v : StoreView). (cluster_of v d).bytes) is_held
        ∙ ap (λ (v : ClusterView). v.bytes) (cluster_here t d (held_once_more (cluster_of t d)) below)
        ∙ ap (λ (v : StoreView). (cluster_of v d).bytes) got.change

    entry : NewMbuf s u i (only_head header start keep (Some d))
        → entry_at u i ≡ narrowed (entry_of (chain_of (pool_of s) c) at.index) skip keep
    entry n =
        ap (entry_from u i) n.head
        ∙ (λ j. record {
          bytes = take keep (drop (start_is j) (bytes_kept n j));
          start = start_is j;
          cluster = sym is j;
        })
        ∙ (λ j. record {
          bytes = take keep (drop ((mbuf_head s at.cell).start + skip) (place_bytes s at.cell (sym is j)));
          start = (mbuf_head s at.cell).start + skip;
          cluster = (mbuf_head s at.cell).cluster;
        })
        ∙ narrowed_is s c skip keep at k (omega (arith, k.long, within))

-- ---- an mbuf on a new cluster
pub new_clustered : (s t u : StoreView) (i d : ℕ) (h : Head) → TakesCluster s t d → Taken t u i h → h.cluster ≡ Some d
    → IsStore u → NewMbuf s u i h
new_clustered s t u i d h got_cluster got is store =
    let m : MbufView = record { head = h; bytes = got.bytes } in
    let v : ClusterView = record { count = 1; bytes = got_cluster.bytes } in
    let below : d < length s.clusters = slice_get_within s.clusters d free_cluster got_cluster.was_free in
    let was : cluster_count s d ≡ 0 =
    ap (λ (w : ClusterView). w.count)
    (get_or_from_slice_get s.clusters d free_cluster free_cluster got_cluster.was_free) in
    let here : cluster_of u d ≡ record { count = 1; bytes = got_cluster.bytes } =
    ap (λ (w : StoreView). cluster_of w d) got.change ∙ ap (λ (w : StoreView). cluster_of w d) got_cluster.change
    ∙ cluster_here s d v below in
    let there : (c : ℕ) → c ≢ d → cluster_of u c ≡ cluster_of s c =
    λ c ne. ap (λ (w : StoreView). cluster_of w c) got.change
    ∙ ap (λ (w : StoreView). cluster_of w c) got_cluster.change ∙ cluster_there s d v below c ne in
    let head_is : mbuf_head u i ≡ h =
    ap (λ (w : StoreView). mbuf_head w i) got.change
    ∙ ap (λ (o : Option MbufView). (unwrap_or o no_mbuf).head) (slot_here t i (Some m) got.below) in
    record {
      mbufs =
          ap (λ (w : StoreView). length w.mbufs) got.change ∙ length-set t.mbufs i (Some m)
          ∙ ap (λ (w : StoreView). length w.mbufs) got_cluster.change;
      clusters =
          ap (λ (w : StoreView). length w.clusters) got.change
          ∙ ap (λ (w : StoreView). length w.clusters) got_cluster.change ∙ length-set s.clusters d v;
      fresh = ap (λ (w : StoreView). is_out w i) (sym got_cluster.change) ∙ got.fresh;
      out = ap (λ (w : StoreView). is_out w i) got.change ∙ out_here t i (Some m) got.below;
      outs =
          λ k ne. ap (λ (w : StoreView). is_out w k) got.change ∙ out_there t i (Some m) got.below k ne
          ∙ ap (λ (w : StoreView). is_out w k) got_cluster.change;
      total =
          omega (
            arith,
            ap mbufs_out got.change,
            ap mbufs_out got_cluster.change,
            outs_total t i (Some m) got.below,
            off (is_out t i) got.fresh,
          );
      kept =
          λ k ne counted. same_cell s u k
          (ap (λ (w : StoreView). mbuf_of w k) got.change ∙ mbuf_there t i (Some m) got.below k ne
          ∙ ap (λ (w : StoreView). mbuf_of w k) got_cluster.change)
          (ap (λ (w : StoreView). is_out w k) got.change ∙ out_there t i (Some m) got.below k ne
          ∙ ap (λ (w : StoreView). is_out w k) got_cluster.change)
          (λ c refers. ap (λ (w : ClusterView). w.bytes)
          (there c (λ e. absurd (omega (arith, counted c refers, ap (cluster_count s) e, was)))));
      head = head_is;
      counts = λ c. elim (cases_eq c d) [
        | inl e ↦ subst (λ (j : ℕ). cluster_count u j ≡ cluster_count s j + refers_at u j i) (sym e)
            (omega (
              arith,
              ap (λ (w : ClusterView). w.count) here,
              was,
              refers_to u i d (ap (λ (y : Head). y.cluster) head_is ∙ is),
            ))
        | inr ne ↦ omega (
          arith,
          ap (λ (w : ClusterView). w.count) (there c ne),
          refers_not u i c d (ap (λ (y : Head). y.cluster) head_is ∙ is) ne,
        )
      ];
      store = store;
    }

pub one_free_beside : (s t u : StoreView) (i d : ℕ) (h : Head) → IsPool s → TakesCluster s t d → Taken t u i h
    → held_mbufs (pool_of s) < length s.mbufs
one_free_beside s t u i d h (lists, ok, totals) got_cluster got =
    let m : MbufView = record { head = h; bytes = got.bytes } in
    omega (
      arith,
      held_is s lists ok,
      outs_total t i (Some m) got.below,
      off (is_out t i) got.fresh,
      Rattle.mbuf_chain.proofs.Lists.few_out (with_mbuf t i (Some m)),
      length-set t.mbufs i (Some m),
      ap mbufs_out got_cluster.change,
      ap (λ (v : StoreView). length v.mbufs) got_cluster.change,
    )

-- the cluster is released, because no mbuf is free
pub given_back : (s t u v : StoreView) (d : ℕ) → TakesCluster s t d → u ≡ t
    → v ≡ with_cluster u d (released (cluster_of u d)) → v ≡ s
given_back s t u v d got same change =
    change ∙ ap (λ (w : StoreView). with_cluster w d (released (cluster_of w d))) same ∙ taken_back s t d got

-- ---- free clusters
pub unreferenced : (s : StoreView) → IsPool s → (c : ℕ) → references (pool_of s) c ≡ cluster_count s c
unreferenced s (lists, ok, totals) c = references_is s lists ok c

count_range : {X : Type 0} (p : X → Bool) (q : ℕ → Bool) (d : X) (xs : List X) (a : ℕ)
    → ((k : ℕ) → k < length xs → q (a + k) ≡ p (slice_index_or xs k d))
    → count_by q (range_with_len a (length xs)) ≡ count_by p xs
count_range p q d [] a h = refl
count_range p q d (x ∷ xs) a h =
    let zero_is : a + 0 ≡ a = omega arith in
    let first : q a ≡ p x = ap q (sym zero_is) ∙ h 0 (omega arith) in
    omega (
      arith,
      sum_by-cons (λ y. cond {A = ℕ} (p y) 1 0) x xs,
      sum_by-cons (λ k. cond {A = ℕ} (q k) 1 0) a (range_with_len (a + 1) (length xs)),
      ap {B = ℕ} (λ b. cond b 1 0) first,
      count_range p q d xs (a + 1) (λ k lt. let e : a + 1 + k ≡ a + suc k = omega arith in
          ap q e ∙ h (suc k) (omega arith)),
    )

pub free_are : (s : StoreView) → IsPool s → free_clusters (pool_of s) ≡ Rattle.mbuf_pool.specs.Store.free_clusters s
free_are s pool =
    count_range (λ (v : ClusterView). nat_eq v.count 0) (λ c. nat_eq (references (pool_of s) c) 0) free_cluster
    s.clusters 0 (λ k lt. let e : 0 + k ≡ k = omega arith in
    ap (λ c. nat_eq (references (pool_of s) c) 0) e ∙ ap (λ n. nat_eq n 0) (unreferenced s pool k))

pub was_unreferenced : (s t : StoreView) (d : ℕ) → IsPool s → TakesCluster s t d → references (pool_of s) d ≡ 0
was_unreferenced s t d pool got =
    unreferenced s pool d ∙ ap (λ (w : ClusterView). w.count)
    (get_or_from_slice_get s.clusters d free_cluster free_cluster got.was_free)

-- if an element passes the test, the count of those that pass is above 0
some_zero : {X : Type 0} (f : X → Bool) (xs : List X) (c : ℕ) (x : X) → slice_get xs c ≡ Some x → f x ≡ true
    → 0 < count_by f xs
some_zero f [] c x e is = absurd (none-some x e)
some_zero f (y ∷ ys) zero x e is =
    omega (
      arith,
      sum_by-cons (λ z. cond {A = ℕ} (f z) 1 0) y ys,
      ap (λ z. cond {A = ℕ} (f z) 1 0) (same_Some y x e),
      ap {B = ℕ} (λ b. cond b 1 0) is,
    )
some_zero f (y ∷ ys) (suc c) x e is =
    omega (arith, sum_by-cons (λ z. cond {A = ℕ} (f z) 1 0) y ys, some_zero f ys c x e is)

pub cluster_free : (s t : StoreView) (d : ℕ) → IsPool s → TakesCluster s t d → 0 < free_clusters (pool_of s)
cluster_free s t d pool got =
    omega (
      arith,
      free_are s pool,
      some_zero (λ (v : ClusterView). nat_eq v.count 0) s.clusters d free_cluster
          got.was_free refl,
    )

pub counts_are : (s : StoreView) → IsPool s → reference_counts (pool_of s) ≡ Rattle.mbuf_pool.specs.Store.counts_of s
counts_are s pool = λ i. map (λ c. unreferenced s pool c i) (range_with_len 0 (length s.clusters))

-- the cluster of a live chain's entry has a count above 0
pub counted_at : {s : StoreView} {c : ℕ} {at : Place} (d : ℕ) → HasMbuf s c at → (mbuf_head s at.cell).cluster ≡ Some d
    → 0 < cluster_count s d
counted_at {s} {c} {at} d has is =
    let o = open_on s c has.pool has.live in
    let e = enter s c at o.at has.place in
    counted_in s (o.at.cells ∷ o.at.rest) o.at.sound at.cell d (omega (arith, e.inside)) is
