-- The effect of each call of a store on heads, bytes and counts.
use Rattle.std.proofs.Common.{◌≡◌, ◌≢◌, ℕ, ◌+◌, ◌-◌, ◌<◌, ◌≤◌, true, cond, nat_eq, List, ◌∷◌, length, Option, None, Some, is_some, unwrap_or, refl, sym, ap, ◌∙◌, subst, arith, inl, inr, slice_index_or, count_by}
use Rattle.std.specs.Option.{option_eq}
use Rattle.std.proofs.lemmas.Bool.{cases_eq, eq-eqb, ne_eqb}
use Rattle.std.proofs.lemmas.Option.{slice_get_within, get_or_from_slice_get}
use Rattle.std.proofs.lemmas.List.{length-set, get_or-set_same, get_or-set_other}
use Rattle.std.proofs.lemmas.List.Sums.{sum_by-set}
use Rattle.mbuf_pool.specs.Cells.{Head}
use Rattle.mbuf_pool.specs.Store.{StoreView, MbufView, ClusterView, no_mbuf, free_cluster, is_out, mbuf_of, mbuf_head, cluster_of, cluster_count, mbufs_out, with_mbuf, with_cluster, released, TakesWith}
use Rattle.mbuf_pool.proofs.Laws.{counted_within}
use Rattle.mbuf_chain.specs.Inside.Cells.{weigh, is_at, one, refers_at, out_at, released_in, Taken, Freed, IsFreeable, LeadsToEnd, cells_from}
use Rattle.mbuf_chain.proofs.Lists.{is_at_same, is_at_other, on, off, bit, out_below, walk_on}

-- ---- one mbuf of the table
module _ (s : StoreView) (x : ℕ) (m : Option MbufView) (lt : x < length s.mbufs) where
  pub slot_here : slice_index_or (with_mbuf s x m).mbufs x None ≡ m
  slot_here = get_or-set_same s.mbufs x m None lt

  pub slot_there : (k : ℕ) → k ≢ x → slice_index_or (with_mbuf s x m).mbufs k None ≡ slice_index_or s.mbufs k None
  slot_there k ne = get_or-set_other s.mbufs x k m None ne

  pub mbuf_there : (k : ℕ) → k ≢ x → mbuf_of (with_mbuf s x m) k ≡ mbuf_of s k
  mbuf_there k ne = ap (λ (o : Option MbufView). unwrap_or o no_mbuf) (slot_there k ne)

  pub out_there : (k : ℕ) → k ≢ x → is_out (with_mbuf s x m) k ≡ is_out s k
  out_there k ne = ap (λ (o : Option MbufView). is_some o) (slot_there k ne)

  pub out_here : is_out (with_mbuf s x m) x ≡ is_some m
  out_here = ap (λ (o : Option MbufView). is_some o) slot_here

  pub outs_total : mbufs_out (with_mbuf s x m) + out_at s x ≡ mbufs_out s + cond {A = ℕ} (is_some m) 1 0
  outs_total = sum_by-set (λ (o : Option MbufView). cond {A = ℕ} (is_some o) 1 0) s.mbufs x m None lt

-- ---- one cluster of the table
module _ (s : StoreView) (c : ℕ) (v : ClusterView) (lt : c < length s.clusters) where
  pub cluster_here : cluster_of (with_cluster s c v) c ≡ v
  cluster_here = get_or-set_same s.clusters c v free_cluster lt

  pub cluster_there : (d : ℕ) → d ≢ c → cluster_of (with_cluster s c v) d ≡ cluster_of s d
  cluster_there d ne = get_or-set_other s.clusters c d v free_cluster ne

pub released_count : (v : ClusterView) → 0 < v.count → (released v).count + 1 ≡ v.count
released_count v some =
    elim (cases_eq v.count 1) [
      | inl e ↦ omega (
        arith,
        e,
        ap (λ b.
            (cond {A = ClusterView} b free_cluster (record v { count = v.count - 1 })).count) (eq-eqb v.count 1 e),
      )
      | inr ne ↦ omega (
        arith,
        ap (λ b.
            (cond {A = ClusterView} b free_cluster (record v { count = v.count - 1 })).count) (ne_eqb v.count 1 ne),
      )
    ]

pub released_bytes : (v : ClusterView) → 0 < v.count → 0 < (released v).count → (released v).bytes ≡ v.bytes
released_bytes v some left =
    elim (cases_eq v.count 1) [
      | inl e ↦ absurd (omega (
        arith,
        e,
        left,
        ap (λ b. (cond {A = ClusterView} b free_cluster (record v { count = v.count - 1 })).count)
            (eq-eqb v.count 1 e),
      ))
      | inr ne ↦ ap (λ b. (cond {A = ClusterView} b free_cluster (record v { count = v.count - 1 })).bytes)
          (ne_eqb v.count 1 ne)
    ]

pub refers_to : (s : StoreView) (x d : ℕ) → (mbuf_head s x).cluster ≡ Some d → refers_at s d x ≡ 1
refers_to s x d is =
    ap {B = ℕ} (λ (o : Option ℕ). cond (option_eq nat_eq o (Some d)) 1 0) is ∙ on (nat_eq d d) (eq-eqb d d refl)

pub refers_not : (s : StoreView) (x c d : ℕ) → (mbuf_head s x).cluster ≡ Some d → c ≢ d → refers_at s c x ≡ 0
refers_not s x c d is ne =
    ap {B = ℕ} (λ (o : Option ℕ). cond (option_eq nat_eq o (Some c)) 1 0) is
    ∙ off (nat_eq d c) (ne_eqb d c (λ e. ne (sym e)))

pub refers_none : (s : StoreView) (x c : ℕ) → (mbuf_head s x).cluster ≡ None → refers_at s c x ≡ 0
refers_none s x c is = ap {B = ℕ} (λ (o : Option ℕ). cond (option_eq nat_eq o (Some c)) 1 0) is

-- ---- an mbuf is freed, with its reference
pub free_one : (s t : StoreView) (l m : List ℕ) (i : ℕ) → Freed s t l (i ∷ m) → is_out t i ≡ true
    → ((c : ℕ) → refers_at s c i ≤ cluster_count t c)
    → Freed s (with_mbuf (released_in t (mbuf_head s i).cluster) i None) l m
free_one s t l m i f out known = go (mbuf_head s i).cluster refl
  where
    gone : (u : StoreView) → u.mbufs ≡ t.mbufs → (k : ℕ) → out_at (with_mbuf u i None) k + is_at k i ≡ out_at t k
    gone u e k =
        let lt : i < length u.mbufs = omega (arith, out_below t i out, ap length e) in
        elim (cases_eq k i) [
          | inl is ↦ subst (λ (j : ℕ). out_at (with_mbuf u i None) j + is_at j i ≡ out_at t j) (sym is)
              (omega (
                arith,
                is_at_same i,
                on (is_out t i) out,
                off (is_out (with_mbuf u i None) i) (out_here u i None lt),
              ))
          | inr ne ↦ omega (
            arith,
            is_at_other k i (λ x. ne (sym x)),
            ap {B = ℕ} (λ b. cond b 1 0) (out_there u i None lt k ne),
            ap {B = ℕ} (λ (ms : List (Option MbufView)). cond (is_some (slice_index_or ms k None)) 1 0) e,
          )
        ]

    less : (u : StoreView) → u.mbufs ≡ t.mbufs → mbufs_out (with_mbuf u i None) + 1 ≡ mbufs_out t
    less u e =
        let lt : i < length u.mbufs = omega (arith, out_below t i out, ap length e) in
        omega (
          arith,
          outs_total u i None lt,
          ap (λ (ms : List (Option MbufView)). count_by is_some ms) e,
          ap {B = ℕ} (λ (ms : List (Option MbufView)). cond (is_some (slice_index_or ms i None)) 1 0) e,
          on (is_out t i) out,
        )

    same : (u : StoreView) → u.mbufs ≡ t.mbufs → (k : ℕ) → is_out (with_mbuf u i None) k ≡ true
        → mbuf_of (with_mbuf u i None) k ≡ mbuf_of s k
    same u e k there =
        let lt : i < length u.mbufs = omega (arith, out_below t i out, ap length e) in
        let ne : k ≢ i =
        λ is. absurd (omega (
          arith,
          on (is_out (with_mbuf u i None) k) there,
          ap {B = ℕ} (λ (j : ℕ). out_at (with_mbuf u i None) j) is,
          off (is_out (with_mbuf u i None) i) (out_here u i None lt),
        )) in
        mbuf_there u i None lt k ne ∙ ap (λ (ms : List (Option MbufView)). unwrap_or (slice_index_or ms k None) no_mbuf)
        e
        ∙ f.kept k (ap (λ (ms : List (Option MbufView)). is_some (slice_index_or ms k None)) (sym e)
        ∙ sym (out_there u i None lt k ne) ∙ there)

    go : (o : Option ℕ) → (mbuf_head s i).cluster ≡ o → Freed s (with_mbuf (released_in t o) i None) l m
    go None none = record {
      mbufs = length-set t.mbufs i None ∙ f.mbufs;
      clusters = f.clusters;
      kept = same t refl;
      bytes = f.bytes;
      once = λ k. omega (arith, f.once k, gone t refl k);
      total = omega (arith, f.total, less t refl);
      counted = λ c. omega (arith, f.counted c, refers_none s i c none);
    }
    go (Some d) some =
        let counted : 0 < cluster_count t d = omega (arith, known d, refers_to s i d some) in
        let lt : d < length t.clusters = counted_within t d counted in
        let v = released (cluster_of t d) in
        let here : cluster_of (with_cluster t d (released (cluster_of t d))) d ≡ released (cluster_of t d) =
        cluster_here t d v lt in
        record {
          mbufs = length-set t.mbufs i None ∙ f.mbufs;
          clusters = length-set t.clusters d v ∙ f.clusters;
          kept = same (with_cluster t d v) refl;
          bytes = λ c left. elim (cases_eq c d) [
            | inl is ↦ subst (λ (j : ℕ). 0 < cluster_count (with_cluster t d (released (cluster_of t d))) j
                → (cluster_of (with_cluster t d (released (cluster_of t d))) j).bytes ≡ (cluster_of s j).bytes) (sym is)
                (λ g. ap (λ (w : ClusterView). w.bytes) here
                ∙ released_bytes (cluster_of t d) counted (omega (arith, g, ap (λ (w : ClusterView). w.count) here))
                ∙ f.bytes d counted) left
            | inr ne ↦ ap (λ (w : ClusterView). w.bytes) (cluster_there t d v lt c ne)
                ∙ f.bytes c (omega (arith, left, ap (λ (w : ClusterView). w.count) (cluster_there t d v lt c ne)))
          ];
          once = λ k. omega (arith, f.once k, gone (with_cluster t d v) refl k);
          total = omega (arith, f.total, less (with_cluster t d v) refl);
          counted = λ c. elim (cases_eq c d) [
            | inl is ↦ subst (λ (j : ℕ). cluster_count (with_cluster t d (released (cluster_of t d))) j
                + weigh (refers_at s j) l ≡ cluster_count s j + weigh (refers_at s j) m) (sym is)
                (omega (
                  arith,
                  f.counted d,
                  ap (λ (w : ClusterView). w.count) here,
                  released_count (cluster_of t d) counted,
                  refers_to s i d some,
                ))
            | inr ne ↦ omega (
              arith,
              f.counted c,
              ap (λ (w : ClusterView). w.count) (cluster_there t d v lt c ne),
              refers_not s i c d some ne,
            )
          ];
        }

-- what a loop that frees mbufs needs of the next one
pub record Ready (s t : StoreView) (first at : Option ℕ) (i : ℕ) : Type 0 where
  pub out : is_out t i ≡ true
  pub known : (c : ℕ) → (mbuf_head t i).cluster ≡ Some c → 0 < cluster_count t c
  pub next : (mbuf_head t i).next ≡ (mbuf_head s i).next
  pub whole : LeadsToEnd s (mbuf_head t i).next
  pub shorter : weigh one (cells_from s (mbuf_head t i).next) < weigh one (cells_from s at)
  pub freed : Freed s (with_mbuf (released_in t (mbuf_head t i).cluster) i None) (cells_from s first)
      (cells_from s (mbuf_head t i).next)

pub ready : (s t : StoreView) (first at : Option ℕ) (i : ℕ) → at ≡ Some i → IsFreeable s first → LeadsToEnd s at
    → Freed s t (cells_from s first) (cells_from s at) → Ready s t first at i
ready s t first at i is own whole f =
    let w = walk_on s at i is whole in
    let is_one : 0 < out_at t i = omega (arith, f.once i, own.once i, ap (weigh (is_at i)) w.cells, is_at_same i) in
    let out : is_out t i ≡ true = bit (is_out t i) is_one in
    let counts : (c : ℕ) → refers_at s c i ≤ cluster_count t c =
    λ c. omega (arith, f.counted c, own.counted c, ap (weigh (refers_at s c)) w.cells) in
    let head : mbuf_head t i ≡ mbuf_head s i = ap (λ (m : MbufView). m.head) (f.kept i out) in
    let next : (mbuf_head t i).next ≡ (mbuf_head s i).next = ap (λ (h : Head). h.next) head in
    record {
      out = out;
      known = λ c e. omega (arith, counts c, refers_to s i c (ap (λ (h : Head). h.cluster) (sym head) ∙ e));
      next = next;
      whole = subst (LeadsToEnd s) (sym next) w.whole;
      shorter = omega (arith, ap (weigh one) w.cells, ap (λ (o : Option ℕ). weigh one (cells_from s o)) next);
      freed =
          subst (λ (h : Head). Freed s (with_mbuf (released_in t h.cluster) i None) (cells_from s first)
          (cells_from s h.next)) (sym head)
          (free_one s t (cells_from s first) (cells_from s (mbuf_head s i).next) i
          (subst (Freed s t (cells_from s first)) w.cells f) out counts);
    }

-- ---- an mbuf is allocated

pub taken : (s t : StoreView) (i : ℕ) (h : Head) → TakesWith s t i h → Taken s t i h
taken s t i h got = record {
  below = slice_get_within s.mbufs i None got.was_free;
  fresh = ap (λ (o : Option MbufView). is_some o) (get_or_from_slice_get s.mbufs i None None got.was_free);
  bytes = got.bytes;
  change = got.change;
}
