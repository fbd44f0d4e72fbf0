-- Changing one mbuf of a chain: its head, or the bytes of its buffer.
use Rattle.std.proofs.Common.{◌≡◌, ◌≢◌, ℕ, zero, suc, ◌+◌, ◌<◌, ◌≤◌, true, cond, nat_eq, List, [], ◌∷◌, length, map, Option, Some, sym, ap, ◌∙◌, subst, arith, inl, inr, slice_set, slice_index}
use Rattle.std.specs.Ordering.{nat_cmp}
use Rattle.std.specs.FinMap as finmap
use Rattle.std.specs.FinMap.{FinMap}
use Rattle.std.specs.Option.{option_eq}
use Rattle.std.specs.List.{AllByRecursion}
use Rattle.std.proofs.lemmas.Bool.{cases_eq, eq-eqb, ne_eqb}
use Rattle.mbuf_pool.specs.Cells.{Head}
use Rattle.mbuf_pool.specs.Store.{StoreView, mbuf_head, is_out, mbufs_out, cluster_count, IsStore}
use Rattle.mbuf_chain.specs.Chain.{Front, ChainView, chain_of, with_chain}
use Rattle.mbuf_chain.specs.Steps.{with_entry}
use Rattle.mbuf_chain.specs.Inside.Cells.{weigh, weigh_all, is_at, one, len_at, entry_at, front_of, refers_at, first_of, IsLinked, AllFollow, IsFollower, IsChain, IsTotal, AreSoundChains, IsFit, pool_of, out_at, IsOff, IsTotalBy, off_at}
use Rattle.mbuf_chain.proofs.Maps.{insert-insert}
use Rattle.mbuf_chain.proofs.Lists.{chains_of, heads_at, heads-tails, bit, is_at_same}
use Rattle.mbuf_chain.proofs.Changes.{SameCell, step, view_is, links_kept, list_kept}
use Rattle.mbuf_chain.proofs.Focused.{Focused, Opened, in_list, once_in}

-- the same numbers of mbufs and clusters, the same mbufs in use, and the same counts
pub record SameOuts (s t : StoreView) : Type 0 where
  pub mbufs : length t.mbufs ≡ length s.mbufs
  pub clusters : length t.clusters ≡ length s.clusters
  pub outs : (k : ℕ) → is_out t k ≡ is_out s k
  pub total : mbufs_out t ≡ mbufs_out s
  pub counts : (c : ℕ) → cluster_count t c ≡ cluster_count s c

-- from s to t only mbuf x changed, and its link and its cluster are the same
pub record CellChange (s t : StoreView) (x : ℕ) : Type 0 where
  pub next : (mbuf_head t x).next ≡ (mbuf_head s x).next
  pub cluster : (mbuf_head t x).cluster ≡ (mbuf_head s x).cluster
  pub out : is_out t x ≡ true
  pub fit : IsFit (mbuf_head t x)

-- the list of a chain whose mbuf i is x, after x changed
pub record Renewed (s t : StoreView) (at : Option ℕ) (l : List ℕ) (i x : ℕ) : Type 0 where
  pub linked : IsLinked t at l
  pub entries : map (entry_at t) l ≡ slice_set (map (entry_at s) l) i (entry_at t x)
  pub counted : (c : ℕ) → weigh (refers_at t c) l ≡ weigh (refers_at s c) l
  pub lens : weigh (len_at t) l + (mbuf_head s x).len ≡ weigh (len_at s) l + (mbuf_head t x).len

pub renewed : (s t : StoreView) (x : ℕ) → CellChange s t x → (at : Option ℕ) (l : List ℕ) (i : ℕ)
    → ((k : ℕ) → k ≢ x → 0 < weigh (is_at k) l → SameCell s t k) → IsLinked s at l → ((k : ℕ) → weigh (is_at k) l ≤ 1)
    → i < weigh one l → slice_index l i ≡ x
    → Renewed s t at l i x
renewed s t x change at [] i kept linked once lt is = absurd (omega arith)
renewed s t x change at (y ∷ ys) zero kept linked once lt is =
    let others : (k : ℕ) → 0 < weigh (is_at k) ys → SameCell s t k =
    λ k p. kept k (λ e. absurd (omega
    (arith, once y, is_at_same y, subst (λ (j : ℕ). 0 < weigh (is_at j) ys) (e ∙ sym is) p))) (omega (arith, p)) in
    let same = list_kept s t ys others in
    record {
      linked = (
        linked.0,
        subst (λ (j : ℕ). is_out t j ≡ true) (sym is) change.out,
        subst (λ (j : ℕ). IsFit (mbuf_head t j)) (sym is) change.fit,
        subst (λ (n : Option ℕ). IsLinked t n ys)
            (sym (subst (λ (j : ℕ). (mbuf_head t j).next ≡ (mbuf_head s j).next) (sym is) change.next))
            (links_kept s t (mbuf_head s y).next ys others linked.3),
      );
      entries = λ j. entry_at t (is j) ∷ same.entries j;
      counted =
          λ c. λ j. cond (option_eq nat_eq
          (subst (λ (j : ℕ). (mbuf_head t j).cluster ≡ (mbuf_head s j).cluster) (sym is) change.cluster j)
          (Some c)) 1 0 + same.counted c j;
      lens = omega (arith, same.lens, ap (λ (j : ℕ). (mbuf_head s j).len) is, ap (λ (j : ℕ). (mbuf_head t j).len) is);
    }
renewed s t x change at (y ∷ ys) (suc i) kept linked once lt is =
    let apart : y ≢ x =
    λ e. absurd (omega (
      arith,
      once x,
      in_list ys i (omega arith),
      ap (λ (j : ℕ). weigh (is_at j) ys) is,
      ap (is_at x) e,
      is_at_same x,
    )) in
    let here = kept y apart (omega (arith, is_at_same y)) in
    let below =
    renewed s t x change (mbuf_head s y).next ys i (λ k ne p. kept k ne (omega (arith, p))) linked.3
    (λ k. omega (arith, once k)) (omega arith) is in
    record {
      linked = (
        linked.0,
        here.out ∙ linked.1,
        subst IsFit (sym here.head) linked.2,
        subst (λ (h : Head). IsLinked t h.next ys) (sym here.head) below.linked,
      );
      entries = λ j. here.entry j ∷ below.entries j;
      counted = λ c. λ j. cond (option_eq nat_eq (here.head j).cluster (Some c)) 1 0 + below.counted c j;
      lens = omega (arith, below.lens, ap (λ (h : Head). h.len) here.head);
    }

-- ---- the mbufs after the first still have no packet header
follow_renewed : (s t : StoreView) (x : ℕ) (l : List ℕ) → ((k : ℕ) → k ≢ x → 0 < weigh (is_at k) l → SameCell s t k)
    → (0 < weigh (is_at x) l → IsFollower (mbuf_head s x) → IsFollower (mbuf_head t x)) → AllFollow s l → AllFollow t l
follow_renewed s t x [] kept here h = h
follow_renewed s t x (y ∷ ys) kept here h = (
  elim (cases_eq y x) [
    | inl e ↦ subst (λ (j : ℕ). IsFollower (mbuf_head t j)) (sym e)
        (here (subst (λ (j : ℕ). 0 < is_at x j + weigh (is_at x) ys) (sym e) (omega (arith, is_at_same x)))
        (subst (λ (j : ℕ). IsFollower (mbuf_head s j)) e h.0))
    | inr ne ↦ subst IsFollower (sym (kept y ne (omega (arith, is_at_same y))).head) h.0
  ],
  follow_renewed s t x ys (λ k ne p. kept k ne (omega (arith, p))) (λ p. here (omega (arith, p))) h.1,
)

chain_renewed : (s t : StoreView) (x : ℕ) (l : List ℕ) (i : ℕ)
    → ((k : ℕ) → k ≢ x → 0 < weigh (is_at k) l → SameCell s t k) → ((k : ℕ) → weigh (is_at k) l ≤ 1) → i < weigh one l
    → slice_index l i ≡ x → (0 < i → IsFollower (mbuf_head s x) → IsFollower (mbuf_head t x))
    → IsChain s l → IsLinked t (Some (first_of l)) l → IsChain t l
chain_renewed s t x [] i kept once lt is follow chain linked = absurd chain
chain_renewed s t x (y ∷ ys) zero kept once lt is follow chain linked = (
  linked,
  follow_renewed s t x ys (λ k ne p. kept k ne (omega (arith, p)))
      (λ p. absurd (omega (arith, once y, is_at_same y, subst (λ (j : ℕ). 0 < weigh (is_at j) ys) (sym is) p))) chain.1,
)
chain_renewed s t x (y ∷ ys) (suc i) kept once lt is follow chain linked =
    (linked, follow_renewed s t x ys (λ k ne p. kept k ne (omega (arith, p))) (λ _. follow (omega arith)) chain.1)

-- ---- the view of a pool after the change
pub record Changed (s t : StoreView) (c i x : ℕ) (f : Focused s c) : Type 0 where
  pub sound : AreSoundChains t (f.cells ∷ f.rest)
  pub totals : AllByRecursion (IsTotal s) f.rest → AllByRecursion (IsTotal t) f.rest
  pub lens : weigh (len_at t) f.cells + (mbuf_head s x).len ≡ weigh (len_at s) f.cells + (mbuf_head t x).len
  pub map_is : pool_of t ≡ with_chain (pool_of s) c
      (record {
        front = front_of (mbuf_head t c);
        entries = slice_set (chain_of (pool_of s) c).entries i (entry_at t x);
        cells = (chain_of (pool_of s) c).cells;
      })

pub changed : (s t : StoreView) (c i x : ℕ) → (f : Focused s c) → i < weigh one f.cells → slice_index f.cells i ≡ x
    → SameOuts s t → IsStore t → CellChange s t x
    → ((k : ℕ) → k ≢ x → is_out s k ≡ true → 0 < weigh (is_at k) f.cells + weigh_all (is_at k) f.rest → SameCell s t k)
    → (0 < i → IsFollower (mbuf_head s x) → IsFollower (mbuf_head t x)) → Changed s t c i x f
changed s t c i x f lt is outs store change kept follow =
    let inside : 0 < weigh (is_at x) f.cells =
    subst (λ (j : ℕ). 0 < weigh (is_at j) f.cells) is (in_list f.cells i lt) in
    let kept' : (k : ℕ) → k ≢ x → 0 < weigh (is_at k) f.cells + weigh_all (is_at k) f.rest → SameCell s t k =
    λ k ne p. kept k ne (bit (is_out s k) (omega (arith, f.sound.once k, p))) p in
    let in_cells : (k : ℕ) → k ≢ x → 0 < weigh (is_at k) f.cells → SameCell s t k =
    λ k ne p. kept' k ne (omega (arith, p)) in
    let in_rest : (k : ℕ) → 0 < weigh_all (is_at k) f.rest → SameCell s t k =
    λ k p. kept' k (λ e. absurd (omega
    (arith, once_in s c f x, inside, subst (λ (j : ℕ). 0 < weigh_all (is_at j) f.rest) e p))) (omega (arith, p)) in
    let once : (k : ℕ) → weigh (is_at k) f.cells ≤ 1 = λ k. omega (arith, once_in s c f k) in
    let new = renewed s t x change (Some c) f.cells i in_cells f.linked once lt is in
    let chain : IsChain t f.cells =
    chain_renewed s t x f.cells i in_cells once lt is follow f.chain
    (subst (λ (j : ℕ). IsLinked t (Some j) f.cells) (sym f.first) new.linked) in
    let went = step s t (f.cells ∷ []) (f.cells ∷ []) f.rest f.sound (record {
      kept = in_rest;
      linked = (chain, tt);
      once = λ k. omega (arith, on-off k);
      total = omega (arith, outs.total);
      counted = λ q. omega (arith, outs.counts q, new.counted q);
      store = store;
    }) in
    record {
      sound = went.sound;
      totals = went.totals;
      lens = new.lens;
      map_is = λ j. record {
        mbufs = outs.mbufs j;
        clusters = outs.clusters j;
        chains = (view_is t (f.cells ∷ f.rest) went.sound
            ∙ (λ k. finmap.insert (went.map_is k) (f.first k)
            (record {
              front = front_of (mbuf_head t (f.first k));
              entries =
                  (new.entries ∙ ap (λ (v : ChainView). slice_set v.entries i (entry_at t x)) f.shows) k;
              cells =
                  (ap (λ (v : ChainView). v.cells) f.shows) k;
            }))
            ∙ sym (insert-insert (chains_of s f.rest) c (chain_of (pool_of s) c) _)
            ∙ ap (λ (m : FinMap nat_cmp ChainView). finmap.insert m c
            (record {
              front = front_of (mbuf_head t c);
              entries =
                  slice_set (chain_of (pool_of s) c).entries i (entry_at t x);
              cells =
                  (chain_of (pool_of s) c).cells;
            })) (sym f.map_is)) j;
      };
    }
  where
    on-off : (k : ℕ) → out_at t k ≡ out_at s k
    on-off k = ap {B = ℕ} (λ b. cond b 1 0) (outs.outs k)

-- ---- the packet length
pub off_here : (c n : ℕ) (l : List ℕ) → first_of l ≡ c → off_at c n l ≡ n
off_here c n l e = ap {B = ℕ} (λ b. cond b n 0) (eq-eqb (first_of l) c e)

pub off_there : (c n : ℕ) (l : List ℕ) → is_at c (first_of l) ≡ 0 → off_at c n l ≡ 0
off_there c n l none = elim (cases_eq (first_of l) c) [
  | inl e ↦ absurd (omega (arith, is_at_same c, ap (is_at c) e))
  | inr ne ↦ ap {B = ℕ} (λ b. cond b n 0) (ne_eqb (first_of l) c ne)
]

pub rest_by : (t : StoreView) (c added removed : ℕ) (rest : List (List ℕ)) → heads_at c rest ≡ 0
    → AllByRecursion (IsTotal t) rest → AllByRecursion (IsTotalBy t c added removed) rest
rest_by t c added removed [] none h = tt
rest_by t c added removed (l ∷ ls) none h = (
  λ packet is. omega (
    arith,
    h.0 packet is,
    off_there c added l (omega (arith, none)),
    off_there c removed l (omega (arith, none)),
  ),
  rest_by t c added removed ls (omega (arith, none)) h.1,
)

pub rest_right : (t : StoreView) (c added removed : ℕ) (rest : List (List ℕ)) → heads_at c rest ≡ 0
    → AllByRecursion (IsTotalBy t c added removed) rest → AllByRecursion (IsTotal t) rest
rest_right t c added removed [] none h = tt
rest_right t c added removed (l ∷ ls) none h = (
  λ packet is. omega (
    arith,
    h.0 packet is,
    off_there c added l (omega (arith, none)),
    off_there c removed l (omega (arith, none)),
  ),
  rest_right t c added removed ls (omega (arith, none)) h.1,
)

-- no other chain begins with this mbuf
pub alone_first : (s : StoreView) (c : ℕ) → (f : Focused s c) → heads_at c f.rest ≡ 0
alone_first s c f =
    omega (
      arith,
      once_in s c f c,
      subst (λ (j : ℕ). 0 < weigh (is_at j) f.cells) f.first
          (in_list f.cells 0 (some f.cells f.chain)),
      heads-tails s c f.rest f.sound.linked.1,
    )
  where
    some : (l : List ℕ) → IsChain s l → 0 < weigh one l
    some [] h = absurd h
    some (y ∷ ys) h = omega arith

pub some_cell : (s : StoreView) (l : List ℕ) → IsChain s l → 0 < weigh one l
some_cell s [] h = absurd h
some_cell s (y ∷ ys) h = omega arith

-- after a change of an mbuf's length, the packet length is wrong by the same number
pub off_after : (s t : StoreView) (c i x added removed : ℕ) → (o : Opened s c) → Changed s t c i x o.at
    → (mbuf_head t c).packet ≡ (mbuf_head s c).packet → (mbuf_head t x).len + removed ≡ (mbuf_head s x).len + added
    → IsOff t c added removed
off_after s t c i x added removed o went packet lens = (
  o.at.cells ∷ o.at.rest,
  went.sound,
  (
    λ h is. omega (
      arith,
      o.totals.0 h
          (ap (λ (j : ℕ). (mbuf_head s j).packet) o.at.first ∙ sym packet
          ∙ ap (λ (j : ℕ). (mbuf_head t j).packet) (sym o.at.first)
          ∙ is),
      went.lens,
      lens,
      off_here c added o.at.cells o.at.first,
      off_here c removed o.at.cells o.at.first,
    ),
    rest_by t c added removed o.at.rest (alone_first s c o.at) (went.totals o.totals.1),
  ),
)

-- the first mbuf's front is unchanged, so only the entry of x changed
pub changed_entry : (s t : StoreView) (c i x : ℕ) → (f : Focused s c) → Changed s t c i x f
    → front_of (mbuf_head t c) ≡ front_of (mbuf_head s c)
    → pool_of t ≡ with_chain (pool_of s) c (with_entry (chain_of (pool_of s) c) i (entry_at t x))
changed_entry s t c i x f went front =
    went.map_is ∙ ap (λ (g : Front). with_chain (pool_of s) c
    (record {
      front = g;
      entries = slice_set (chain_of (pool_of s) c).entries i (entry_at t x);
      cells = (chain_of (pool_of s) c).cells;
    }))
    (front ∙ ap (λ (j : ℕ). front_of (mbuf_head s j)) (sym f.first) ∙ ap (λ (v : ChainView). v.front) f.shows)
