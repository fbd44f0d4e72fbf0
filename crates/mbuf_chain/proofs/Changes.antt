-- From one store to the next: the chains that a step doesn't change, and the view of the pool.
use Rattle.std.proofs.Common.{◌≡◌, ℕ, ◌+◌, ◌<◌, ◌≤◌, not, cond, ◌&&◌, nat_eq, List, [], ◌∷◌, ◌++◌, length, map, sum_by, count_by, Option, None, Some, is_some, refl, sym, ap, ◌∙◌, subst, arith, inl, inr, take, drop}
use Rattle.std.specs.Ordering.{nat_cmp}
use Rattle.std.specs.FinMap as finmap
use Rattle.std.specs.FinMap.{FinMap}
use Rattle.std.specs.Option.{option_eq}
use Rattle.std.specs.List.{AllByRecursion}
use Rattle.std.proofs.lemmas.Bool.{cases_lt}
use Rattle.std.proofs.lemmas.List.{get_or_past}
use Rattle.std.proofs.lemmas.List.Sums.{sum_by-cons}
use Rattle.mbuf_pool.specs.Cells.{Head}
use Rattle.mbuf_pool.specs.Store.{StoreView, MbufView, mbuf_of, mbuf_head, cluster_of, is_out, mbufs_out, cluster_count, IsStore}
use Rattle.mbuf_chain.specs.Chain.{ChainView, mbufs_of, references_of, refers}
use Rattle.mbuf_chain.specs.Inside.Cells.{weigh, weigh_all, is_at, one, place_bytes, entry_from, entry_at, front_of, refers_at, first_of, read_chain, cells_from, is_pointed, chain_at, view_of, IsLinked, IsFollower, AllFollow, IsChain, IsTotal, AreSoundChains, IsFit, len_at, out_at}
use Rattle.mbuf_chain.proofs.Maps.{same, get-tabulate, total_is, total-insert, total-empty}
use Rattle.mbuf_chain.proofs.Lists.{chains_of, get-chains_of, chain_is, find_chain, Found, heads_at, heads-tails, split_first, is_at_same, not_first, small}

pub get-view_of : (s : StoreView) (q : ℕ) → finmap.get (view_of s) q ≡ chain_at s q
get-view_of s q =
    elim (cases_lt q (length s.mbufs)) [
      | inl below ↦ (get-tabulate (length s.mbufs) (chain_at s) q).0 below
      | inr past ↦ (get-tabulate (length s.mbufs) (chain_at s) q).1 past
          ∙ ap (λ (o : Option MbufView). cond (is_some o && not (is_pointed (length s.mbufs) s q))
          (Some (read_chain s (cells_from s (Some q)))) None) (sym (get_or_past s.mbufs q None past))
    ]

-- the pool shows the chains of the lists
pub view_is : (s : StoreView) (lists : List (List ℕ)) → AreSoundChains s lists → view_of s ≡ chains_of s lists
view_is s lists ok = same _ _ (λ q. get-view_of s q ∙ chain_is s lists ok q ∙ sym (get-chains_of s lists q))

-- ---- one chain moved to the front of the lists
pub record Focus (s : StoreView) (lists : List (List ℕ)) (c : ℕ) (v : ChainView) : Type 0 where
  pub found : Found s c v lists
  pub sound : AreSoundChains s (found.cells ∷ found.rest)
  pub fresh : finmap.get (chains_of s found.rest) c ≡ None
  pub map_is : view_of s ≡ finmap.insert (chains_of s found.rest) c v

pub focus : (s : StoreView) (lists : List (List ℕ)) (c : ℕ) (v : ChainView) → AreSoundChains s lists
    → finmap.get (view_of s) c ≡ Some v → Focus s lists c v
focus s lists c v ok is =
    let found = find_chain s c v lists (sym (chain_is s lists ok c) ∙ sym (get-view_of s c) ∙ is) in
    let parts = found.chains ok.linked in
    let sound : AreSoundChains s (found.cells ∷ found.rest) = record {
      linked = parts;
      once = λ k. sym (found.weight (is_at k)) ∙ ok.once k;
      total = sym (found.weight one) ∙ ok.total;
      counted = λ q. ok.counted q ∙ found.weight (refers_at s q);
      store = ok.store;
    } in
    let alone : heads_at c found.rest ≡ 0 =
    omega (
      arith,
      sound.once c,
      split_first s c found.cells parts.0,
      heads-tails s c found.rest parts.1,
      is_at_same c,
      ap (is_at c) found.first,
      small (is_out s c),
    ) in
    record {
      found = found;
      sound = sound;
      fresh = get-chains_of s found.rest c ∙ not_first s c found.rest alone;
      map_is =
          view_is s (found.cells ∷ found.rest) sound
          ∙ ap (λ (q : ℕ). finmap.insert (chains_of s found.rest) q (read_chain s found.cells)) found.first
          ∙ ap (λ (w : ChainView). finmap.insert (chains_of s found.rest) c w) found.shows;
    }

-- ---- chains that a step doesn't change
pub record SameCell (s t : StoreView) (k : ℕ) : Type 0 where
  pub head : mbuf_head t k ≡ mbuf_head s k
  pub entry : entry_at t k ≡ entry_at s k
  pub out : is_out t k ≡ is_out s k

-- an mbuf whose head and bytes are unchanged, with those of its cluster, has the same entry
pub same_cell : (s t : StoreView) (k : ℕ) → mbuf_of t k ≡ mbuf_of s k → is_out t k ≡ is_out s k
    → ((c : ℕ) → (mbuf_head s k).cluster ≡ Some c → (cluster_of t c).bytes ≡ (cluster_of s c).bytes) → SameCell s t k
same_cell s t k e out d =
    let head : mbuf_head t k ≡ mbuf_head s k = ap (λ (m : MbufView). m.head) e in
    record {
      head = head;
      entry = ap (entry_from t k) head ∙ go (mbuf_head s k) (mbuf_head s k).cluster refl;
      out = out;
    }
  where
    bytes : (o : Option ℕ) → (mbuf_head s k).cluster ≡ o → place_bytes t k o ≡ place_bytes s k o
    bytes None is = ap (λ (m : MbufView). m.bytes) e
    bytes (Some c) is = d c is

    go : (h : Head) (o : Option ℕ) → h.cluster ≡ o → entry_from t k (mbuf_head s k) ≡ entry_from s k (mbuf_head s k)
    go h o is =
        λ i. record {
          bytes = take (mbuf_head s k).len (drop (mbuf_head s k).start (bytes (mbuf_head s k).cluster refl i));
          start = (mbuf_head s k).start;
          cluster = (mbuf_head s k).cluster;
        }

pub record SameList (s t : StoreView) (l : List ℕ) : Type 0 where
  pub entries : map (entry_at t) l ≡ map (entry_at s) l
  pub counted : (c : ℕ) → weigh (refers_at t c) l ≡ weigh (refers_at s c) l
  pub lens : weigh (len_at t) l ≡ weigh (len_at s) l

pub list_kept : (s t : StoreView) (l : List ℕ) → ((k : ℕ) → 0 < weigh (is_at k) l → SameCell s t k) → SameList s t l
list_kept s t [] kept = record { entries = refl; counted = λ c. refl; lens = refl }
list_kept s t (x ∷ xs) kept =
    let here = kept x (omega (arith, is_at_same x)) in
    let below = list_kept s t xs (λ k p. kept k (omega (arith, p))) in
    record {
      entries = λ i. here.entry i ∷ below.entries i;
      counted = λ c. λ i. cond (option_eq nat_eq (here.head i).cluster (Some c)) 1 0 + below.counted c i;
      lens = λ i. (here.head i).len + below.lens i;
    }

pub links_kept : (s t : StoreView) (at : Option ℕ) (l : List ℕ) → ((k : ℕ) → 0 < weigh (is_at k) l → SameCell s t k)
    → IsLinked s at l → IsLinked t at l
links_kept s t at [] kept h = h
links_kept s t at (x ∷ xs) kept h =
    let here = kept x (omega (arith, is_at_same x)) in (
      h.0,
      here.out ∙ h.1,
      subst IsFit (sym here.head) h.2,
      subst (λ (y : Head). IsLinked t y.next xs) (sym here.head)
          (links_kept s t (mbuf_head s x).next xs (λ k p. kept k (omega (arith, p))) h.3),
    )

pub follow_kept : (s t : StoreView) (l : List ℕ) → ((k : ℕ) → 0 < weigh (is_at k) l → mbuf_head t k ≡ mbuf_head s k)
    → AllFollow s l → AllFollow t l
follow_kept s t [] kept h = h
follow_kept s t (x ∷ xs) kept h = (
  subst IsFollower (sym (kept x (omega (arith, is_at_same x)))) h.0,
  follow_kept s t xs (λ k p. kept k (omega (arith, p))) h.1,
)

pub chain_kept : (s t : StoreView) (l : List ℕ) → ((k : ℕ) → 0 < weigh (is_at k) l → SameCell s t k) → IsChain s l
    → IsChain t l
chain_kept s t [] kept h = h
chain_kept s t (x ∷ xs) kept h =
    (links_kept s t (Some x) (x ∷ xs) kept h.0, follow_kept s t xs (λ k p. (kept k (omega (arith, p))).head) h.1)

pub total_kept : (s t : StoreView) (l : List ℕ) → ((k : ℕ) → 0 < weigh (is_at k) l → SameCell s t k) → IsChain s l
    → IsTotal s l → IsTotal t l
total_kept s t [] kept chain h = absurd chain
total_kept s t (x ∷ xs) kept chain h = λ packet is.
    h packet (ap (λ (y : Head). y.packet) (sym (kept x (omega (arith, is_at_same x))).head) ∙ is)
    ∙ sym (list_kept s t (x ∷ xs) kept).lens

pub record Kept (s t : StoreView) (rest : List (List ℕ)) : Type 0 where
  pub linked : AllByRecursion (IsChain t) rest
  pub totals : AllByRecursion (IsTotal s) rest → AllByRecursion (IsTotal t) rest
  pub map_is : chains_of t rest ≡ chains_of s rest
  pub counted : (c : ℕ) → weigh_all (refers_at t c) rest ≡ weigh_all (refers_at s c) rest

pub all_kept : (s t : StoreView) (rest : List (List ℕ)) → ((k : ℕ) → 0 < weigh_all (is_at k) rest → SameCell s t k)
    → AllByRecursion (IsChain s) rest → Kept s t rest
all_kept s t [] kept h = record { linked = tt; totals = λ g. g; map_is = refl; counted = λ c. refl }
all_kept s t ([] ∷ ls) kept h = absurd h.0
all_kept s t ((x ∷ xs) ∷ ls) kept h =
    let here : (k : ℕ) → 0 < weigh (is_at k) (x ∷ xs) → SameCell s t k = λ k p. kept k (omega (arith, p)) in
    let one_list = list_kept s t (x ∷ xs) here in
    let first = here x (omega (arith, is_at_same x)) in
    let below = all_kept s t ls (λ k p. kept k (omega (arith, p))) h.1 in
    record {
      linked = (chain_kept s t (x ∷ xs) here h.0, below.linked);
      totals = λ g. (total_kept s t (x ∷ xs) here h.0 g.0, below.totals g.1);
      map_is =
          λ i. finmap.insert (below.map_is i) x
          (record { front = front_of (first.head i); entries = one_list.entries i; cells = x ∷ xs });
      counted = λ c. λ i. one_list.counted c i + below.counted c i;
    }

pub weigh_all-append : (f : ℕ → ℕ) (xs ys : List (List ℕ)) → weigh_all f (xs ++ ys) ≡ weigh_all f xs + weigh_all f ys
weigh_all-append f [] ys = omega arith
weigh_all-append f (x ∷ xs) ys = omega (arith, weigh_all-append f xs ys)

later_linked : (s : StoreView) (xs ys : List (List ℕ)) → AllByRecursion (IsChain s) (xs ++ ys)
    → AllByRecursion (IsChain s) ys
later_linked s [] ys h = h
later_linked s (x ∷ xs) ys h = later_linked s xs ys h.1

all_linked : (s : StoreView) (xs ys : List (List ℕ)) → AllByRecursion (IsChain s) xs → AllByRecursion (IsChain s) ys
    → AllByRecursion (IsChain s) (xs ++ ys)
all_linked s [] ys g h = h
all_linked s (x ∷ xs) ys g h = (g.0, all_linked s xs ys g.1 h)

-- from s to t, the chains of the lists `before` became those of `after`, and no mbuf of another chain changed
pub record Step (s t : StoreView) (before after rest : List (List ℕ)) : Type 0 where
  pub kept : (k : ℕ) → 0 < weigh_all (is_at k) rest → SameCell s t k
  pub linked : AllByRecursion (IsChain t) after
  pub once : (k : ℕ) → weigh_all (is_at k) after + out_at s k ≡ weigh_all (is_at k) before + out_at t k
  pub total : weigh_all one after + mbufs_out s ≡ weigh_all one before + mbufs_out t
  pub counted : (c : ℕ) → cluster_count t c + weigh_all (refers_at s c) before
      ≡ cluster_count s c + weigh_all (refers_at t c) after
  pub store : IsStore t

pub record Stepped (s t : StoreView) (after rest : List (List ℕ)) : Type 0 where
  pub sound : AreSoundChains t (after ++ rest)
  pub map_is : chains_of t rest ≡ chains_of s rest
  pub totals : AllByRecursion (IsTotal s) rest → AllByRecursion (IsTotal t) rest

pub step : (s t : StoreView) (before after rest : List (List ℕ)) → AreSoundChains s (before ++ rest)
    → Step s t before after rest → Stepped s t after rest
step s t before after rest ok to =
    let kept = all_kept s t rest to.kept (later_linked s before rest ok.linked) in
    record {
      sound = record {
        linked = all_linked t after rest to.linked kept.linked;
        once =
            λ k. omega (
              arith,
              ok.once k,
              to.once k,
              weigh_all-append (is_at k) before rest,
              weigh_all-append (is_at k) after rest,
            );
        total = omega (arith, ok.total, to.total, weigh_all-append one before rest, weigh_all-append one after rest);
        counted =
            λ c. omega (
              arith,
              ok.counted c,
              to.counted c,
              kept.counted c,
              weigh_all-append (refers_at s c) before rest,
              weigh_all-append (refers_at t c) after rest,
            );
        store = to.store;
      };
      map_is = kept.map_is;
      totals = kept.totals;
    }

-- ---- the ledger: the mbufs and references of the map are those of the lists
count_entries : (s : StoreView) (c : ℕ) (l : List ℕ)
    → count_by (refers c) (map (entry_at s) l) ≡ weigh (refers_at s c) l
count_entries s c [] = refl
count_entries s c (x ∷ xs) =
    omega (
      arith,
      sum_by-cons (λ e. cond {A = ℕ} (refers c e) 1 0) (entry_at s x) (map (entry_at s) xs),
      count_entries s c xs,
    )

pub count_ones : (s : StoreView) (l : List ℕ) → length (map (entry_at s) l) ≡ weigh one l
count_ones s [] = refl
count_ones s (x ∷ xs) = omega (arith, count_ones s xs)

pub sums : (s : StoreView) (f : ChainView → ℕ) (g : ℕ → ℕ) → ((l : List ℕ) → f (read_chain s l) ≡ weigh g l)
    → (lists : List (List ℕ)) → AllByRecursion (IsChain s) lists → ((k : ℕ) → weigh_all (is_at k) lists ≤ 1)
    → sum_by f (finmap.values (chains_of s lists)) ≡ weigh_all g lists
sums s f g each [] linked once = sym (total_is f (finmap.empty {R = nat_cmp})) ∙ total-empty f
sums s f g each (l ∷ ls) linked once =
    let c = first_of l in
    let alone : heads_at c ls ≡ 0 =
    omega (arith, once c, split_first s c l linked.0, heads-tails s c ls linked.1, is_at_same c) in
    let below = sums s f g each ls linked.1 (λ k. omega (arith, once k)) in
    sym (total_is f (chains_of s (l ∷ ls)))
    ∙ total-insert f (chains_of s ls) c (read_chain s l) (get-chains_of s ls c ∙ not_first s c ls alone)
    ∙ (λ i. each l i + (total_is f (chains_of s ls) ∙ below) i)

once_at_most : (s : StoreView) (lists : List (List ℕ)) → AreSoundChains s lists → (k : ℕ)
    → weigh_all (is_at k) lists ≤ 1
once_at_most s lists ok k = omega (arith, ok.once k, small (is_out s k))

pub held_is : (s : StoreView) (lists : List (List ℕ)) → AreSoundChains s lists
    → sum_by mbufs_of (finmap.values (view_of s)) ≡ mbufs_out s
held_is s lists ok =
    ap (λ (m : FinMap nat_cmp ChainView). sum_by mbufs_of (finmap.values m)) (view_is s lists ok)
    ∙ sums s mbufs_of one (count_ones s) lists ok.linked (once_at_most s lists ok) ∙ ok.total

pub references_is : (s : StoreView) (lists : List (List ℕ)) → AreSoundChains s lists → (c : ℕ)
    → sum_by (references_of c) (finmap.values (view_of s)) ≡ cluster_count s c
references_is s lists ok c =
    ap (λ (m : FinMap nat_cmp ChainView). sum_by (references_of c) (finmap.values m)) (view_is s lists ok)
    ∙ sums s (references_of c) (refers_at s c) (count_entries s c) lists ok.linked (once_at_most s lists ok)
    ∙ sym (ok.counted c)
