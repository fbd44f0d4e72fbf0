-- The pool's accounts: what a step adds to the mbufs held and to a cluster's references, and both as sums over the
-- owners' chains.
use Rattle.std.proofs.Common.{◌≡◌, ◌≢◌, ℕ, zero, suc, ◌+◌, ◌<◌, ◌≤◌, Bool, cond, List, [], ◌∷◌, length, None, Some, sum_by, count_by, nat_eq, refl, sym, ap, ◌∙◌, subst, arith, inl, inr}
use Rattle.std.specs.List.{range_with_len}
use Rattle.std.specs.Ordering.{nat_cmp}
use Rattle.std.specs.FinMap as finmap
use Rattle.std.specs.FinMap.{FinMap, get-empty}
use Rattle.std.proofs.lemmas.Bool.{cases_eq, cond-true, cond-false, eq-eqb, ne_eqb}
use Rattle.std.proofs.lemmas.Option.{same_Some}
use Rattle.std.proofs.lemmas.List.Sums.{sum_by-cons}
use Rattle.mbuf_chain.specs.Chain.{Entry, ChainView, PoolView, IsLive, IsUnshared, chain_of, entry_of, with_chain, without, Adds, mbufs_of, refers, references_of, held_mbufs, references, free_clusters}
use Rattle.mbuf_chain.specs.Steps.{one_mbuf, empty_entry}
use Rattle.mbuf_chain.specs.Owners.{times_among, live_at, IsOwned, IsAll, Moves}
use Rattle.mbuf_chain.specs.Frames.{IsBounded}
use Rattle.mbuf_chain.proofs.Maps.{same, get_gone, get_left, get_here, get_there, total, total_is, total-insert, total-remove, total-empty}
use Rattle.mbuf_chain.proofs.Laws.Owners.{times_same, times_other, live_same, live_none, live_at_most, live_from, live_first, live_owned, apart_first, none_from, chain_left, owned_after}
use Rattle.mbuf_chain.proofs.Laws.Steps.{new_entry}

-- ---- any sum over the chains
insert-removed : (m : FinMap nat_cmp ChainView) (c : ℕ) (v : ChainView)
    → finmap.insert (finmap.remove m c) c v ≡ finmap.insert m c v
insert-removed m c v = same _ _ (λ q. elim (cases_eq q c) [
  | inl e ↦ subst (λ (j : ℕ). finmap.get (finmap.insert (finmap.remove m c) c v) j ≡ finmap.get (finmap.insert m c v) j)
      (sym e) (get_here _ c v ∙ sym (get_here m c v))
  | inr ne ↦ get_there _ c v q ne ∙ get_left m c q ne ∙ sym (get_there m c v q ne)
])

sum_is : (f : ChainView → ℕ) (p : PoolView) → sum_by f (finmap.values p.chains) ≡ total f p.chains
sum_is f p = sym (total_is f p.chains)

sum-without : (f : ChainView → ℕ) (p : PoolView) (c : ℕ) → IsLive p c
    → sum_by f (finmap.values (without p c).chains) + f (chain_of p c) ≡ sum_by f (finmap.values p.chains)
sum-without f p c l = omega (arith, sum_is f p, sum_is f (without p c), total-remove f p.chains c (chain_of p c) l)

sum-with : (f : ChainView → ℕ) (p : PoolView) (c : ℕ) (v : ChainView) → IsLive p c
    → sum_by f (finmap.values (with_chain p c v).chains) + f (chain_of p c) ≡ sum_by f (finmap.values p.chains) + f v
sum-with f p c v l =
    omega (
      arith,
      sum_is f p,
      sum_is f (with_chain p c v),
      total-remove f p.chains c (chain_of p c) l,
      total-insert f (finmap.remove p.chains c) c v (get_gone p.chains c),
      ap (total f) (insert-removed p.chains c v),
    )

sum-adds : (f : ChainView → ℕ) (p q : PoolView) (c : ℕ) (v : ChainView) → Adds p q c v
    → sum_by f (finmap.values q.chains) ≡ sum_by f (finmap.values p.chains) + f v
sum-adds f p q c v a =
    omega (
      arith,
      sum_is f p,
      sum_is f q,
      ap (λ (r : PoolView). total f r.chains) a.pool,
      total-insert f p.chains c v a.fresh,
    )

-- ---- what a step adds
pub held-without : (p q : PoolView) (c : ℕ) → IsLive p c → q ≡ without p c
    → held_mbufs q + mbufs_of (chain_of p c) ≡ held_mbufs p
held-without p q c l e = ap (λ (r : PoolView). held_mbufs r + mbufs_of (chain_of p c)) e ∙ sum-without mbufs_of p c l

pub held-adds : {p q : PoolView} {c : ℕ} {v : ChainView} → Adds p q c v → held_mbufs q ≡ held_mbufs p + mbufs_of v
held-adds {p} {q} {c} {v} a = sum-adds mbufs_of p q c v a

pub references-without : (p q : PoolView) (c cluster : ℕ) → IsLive p c → q ≡ without p c
    → references q cluster + references_of cluster (chain_of p c) ≡ references p cluster
references-without p q c cluster l e =
    ap (λ (r : PoolView). references r cluster + references_of cluster (chain_of p c)) e
    ∙ sum-without (references_of cluster) p c l

pub references-with : (p q : PoolView) (c cluster : ℕ) (v : ChainView) → IsLive p c → q ≡ with_chain p c v
    → references q cluster + references_of cluster (chain_of p c) ≡ references p cluster + references_of cluster v
references-with p q c cluster v l e =
    ap (λ (r : PoolView). references r cluster + references_of cluster (chain_of p c)) e
    ∙ sum-with (references_of cluster) p c v l

pub references-adds : {p q : PoolView} {c : ℕ} {v : ChainView} (cluster : ℕ) → Adds p q c v
    → references q cluster ≡ references p cluster + references_of cluster v
references-adds {p} {q} {c} {v} cluster a = sum-adds (references_of cluster) p q c v a

-- ---- what owners hold
-- a sum over a list without c is the same after chain c is removed
sum_left : (f : ChainView → ℕ) (p : PoolView) (c : ℕ) (xs : List ℕ) → times_among c xs ≡ 0
    → sum_by (λ k. f (chain_of (without p c) k)) xs ≡ sum_by (λ k. f (chain_of p k)) xs
sum_left f p c [] h = refl
sum_left f p c (x ∷ xs) h =
    let ne : x ≢ c = λ e. absurd (omega (arith, ap (λ (j : ℕ). times_among j (x ∷ xs)) e, times_same x xs)) in
    omega (
      arith,
      sum_by-cons (λ k. f (chain_of (without p c) k)) x xs,
      sum_by-cons (λ k. f (chain_of p k)) x xs,
      ap f (chain_left p c x ne),
      sum_left f p c xs (omega arith),
    )

all_left : (p : PoolView) (c : ℕ) (xs : List ℕ) → IsAll p (c ∷ xs) → IsAll (without p c) xs
all_left p c xs h =
    let gone : times_among c xs ≡ 0 = apart_first p c xs (λ k. omega (arith, h k)) in
    λ k. elim (cases_eq k c) [
      | inl e ↦ subst (λ (j : ℕ). times_among j xs ≡ live_at (without p c) j) (sym e)
          (gone ∙ sym (live_none (without p c) c (get_gone p.chains c)))
      | inr ne ↦ omega (arith, h k, times_other k c xs ne, live_same p (without p c) k (get_left p.chains c k ne))
    ]

-- what an owner has left without its first chain
pub owned_left : (p : PoolView) (c : ℕ) (xs : List ℕ) → IsOwned p (c ∷ xs) → IsOwned (without p c) xs
owned_left p c xs o =
    let gone : times_among c xs ≡ 0 = apart_first p c xs o in
    λ k. elim (cases_eq k c) [
      | inl e ↦ subst (λ (j : ℕ). times_among j xs ≤ live_at (without p c) j) (sym e) (omega (arith, gone))
      | inr ne ↦ omega (arith, o k, times_other k c xs ne, live_same p (without p c) k (get_left p.chains c k ne))
    ]

sum_all : (f : ChainView → ℕ) (p : PoolView) (all : List ℕ) → IsAll p all
    → sum_by f (finmap.values p.chains) ≡ sum_by (λ k. f (chain_of p k)) all
sum_all f p [] h =
    sum_is f p ∙ ap (total f) (same p.chains (finmap.empty {R = nat_cmp})
    (λ q. none_from p q (sym (h q)) ∙ sym (get-empty nat_cmp q))) ∙ total-empty f
sum_all f p (c ∷ cs) h =
    let owned : IsOwned p (c ∷ cs) = λ k. omega (arith, h k) in
    omega (
      arith,
      sum-without f p c (live_first p c cs owned),
      sum_all f (without p c) cs (all_left p c cs h),
      sum_left f p c cs (apart_first p c cs owned),
      sum_by-cons (λ k. f (chain_of p k)) c cs,
    )

sum_owned : (f : ChainView → ℕ) (p : PoolView) (xs : List ℕ) → IsOwned p xs
    → sum_by (λ k. f (chain_of p k)) xs ≤ sum_by f (finmap.values p.chains)
sum_owned f p [] o = omega arith
sum_owned f p (c ∷ cs) o =
    omega (
      arith,
      sum-without f p c (live_first p c cs o),
      sum_owned f (without p c) cs (owned_left p c cs o),
      sum_left f p c cs (apart_first p c cs o),
      sum_by-cons (λ k. f (chain_of p k)) c cs,
    )

-- if the owners' lists contain each chain once, the pool's counts are the sums over them
pub held_by_owners : (p : PoolView) (all : List ℕ) → IsAll p all
    → held_mbufs p ≡ sum_by (λ k. mbufs_of (chain_of p k)) all
held_by_owners p all h = sum_all mbufs_of p all h

pub references_by_owners : (p : PoolView) (all : List ℕ) (cluster : ℕ) → IsAll p all
    → references p cluster ≡ sum_by (λ k. references_of cluster (chain_of p k)) all
references_by_owners p all cluster h = sum_all (references_of cluster) p all h

-- an owner holds at most the mbufs that the pool holds
pub owned_held : (p : PoolView) (xs : List ℕ) → IsOwned p xs → sum_by (λ k. mbufs_of (chain_of p k)) xs ≤ held_mbufs p
owned_held p xs o = sum_owned mbufs_of p xs o

-- ---- an owner's step changes the pool's counts by those of its own chains
-- the pool without the chains of a list
abbrev pub without_all : PoolView → List ℕ → PoolView
without_all p [] = p
without_all p (x ∷ xs) = without_all (without p x) xs

sum_rest : (f : ChainView → ℕ) (p : PoolView) (xs : List ℕ) → IsOwned p xs
    → sum_by f (finmap.values (without_all p xs).chains) + sum_by (λ k. f (chain_of p k)) xs
    ≡ sum_by f (finmap.values p.chains)
sum_rest f p [] o = omega arith
sum_rest f p (x ∷ xs) o =
    omega (
      arith,
      sum-without f p x (live_first p x xs o),
      sum_rest f (without p x) xs (owned_left p x xs o),
      sum_left f p x xs (apart_first p x xs o),
      sum_by-cons (λ k. f (chain_of p k)) x xs,
    )

rest_kept : (p : PoolView) (xs : List ℕ) (k : ℕ) → times_among k xs ≡ 0
    → finmap.get (without_all p xs).chains k ≡ finmap.get p.chains k
rest_kept p [] k h = refl
rest_kept p (x ∷ xs) k h =
    let ne : k ≢ x = λ e. absurd (omega (arith, h, ap (λ (j : ℕ). times_among j (x ∷ xs)) e, times_same x xs)) in
    rest_kept (without p x) xs k (omega (arith, h)) ∙ get_left p.chains x k ne

rest_gone : (p : PoolView) (xs : List ℕ) (k : ℕ) → 0 < times_among k xs → finmap.get (without_all p xs).chains k ≡ None
rest_gone p [] k h = absurd (omega (arith, h))
rest_gone p (x ∷ xs) k h = elim (cases_eq (times_among k xs) 0) [
  | inr some ↦ rest_gone (without p x) xs k (omega (arith, some))
  | inl none ↦ elim (cases_eq k x) [
    | inl is ↦ rest_kept (without p x) xs k none
        ∙ subst (λ (j : ℕ). finmap.get (without p x).chains j ≡ None) (sym is) (get_gone p.chains x)
    | inr ne ↦ absurd (omega (arith, h, none, times_other k x xs ne))
  ]
]

-- the chains of other owners are the same before and after
rest_same : {p q : PoolView} {xs ys : List ℕ} → Moves p xs q ys → IsOwned p xs
    → (without_all p xs).chains ≡ (without_all q ys).chains
rest_same {p} {q} {xs} {ys} m o =
    same (without_all p xs).chains (without_all q ys).chains
    (λ k. at k (times_among k xs) refl (live_at p k) refl (times_among k ys) refl)
  where
    at : (k a : ℕ) → times_among k xs ≡ a → (b : ℕ) → live_at p k ≡ b → (c : ℕ) → times_among k ys ≡ c
        → finmap.get (without_all p xs).chains k ≡ finmap.get (without_all q ys).chains k
    at k (suc a) ea b eb (suc c) ec = rest_gone p xs k (omega arith) ∙ sym (rest_gone q ys k (omega arith))
    at k (suc a) ea b eb zero ec =
        rest_gone p xs k (omega arith)
        ∙ sym (rest_kept q ys k ec ∙ none_from q k (omega (arith, m.owned k, o k, live_at_most p k)))
    at k zero ea (suc b) eb c ec =
        let there : finmap.get q.chains k ≡ finmap.get p.chains k = m.others k (live_from p k (omega arith)) ea in
        rest_kept p xs k ea ∙ sym there ∙ sym (rest_kept q ys k (omega (arith, m.owned k, live_same p q k there)))
    at k zero ea zero eb zero ec =
        rest_kept p xs k ea ∙ none_from p k eb ∙ sym (rest_kept q ys k ec ∙ none_from q k (omega (arith, m.owned k)))
    at k zero ea zero eb (suc c) ec = rest_kept p xs k ea ∙ none_from p k eb ∙ sym (rest_gone q ys k (omega arith))

pub sum_moves : {p q : PoolView} {xs ys : List ℕ} (f : ChainView → ℕ) → Moves p xs q ys → IsOwned p xs
    → sum_by f (finmap.values q.chains) + sum_by (λ k. f (chain_of p k)) xs
    ≡ sum_by f (finmap.values p.chains) + sum_by (λ k. f (chain_of q k)) ys
sum_moves {p} {q} {xs} {ys} f m o =
    omega (
      arith,
      sum_rest f p xs o,
      sum_rest f q ys (owned_after m o),
      ap (λ (c : FinMap nat_cmp ChainView). sum_by f (finmap.values c)) (rest_same m o),
    )

pub held_moves : {p q : PoolView} {xs ys : List ℕ} → Moves p xs q ys → IsOwned p xs
    → held_mbufs q + sum_by (λ k. mbufs_of (chain_of p k)) xs ≡ held_mbufs p + sum_by (λ k. mbufs_of (chain_of q k)) ys
held_moves m o = sum_moves mbufs_of m o

-- only the new chain refers to the cluster that it was given
pub unshared_new : (p q : PoolView) (c d i : ℕ) (header : Bool) (start : ℕ)
    → Adds p q c (one_mbuf header (empty_entry start (Some d)) c) → references p d ≡ 0 → i ≡ 0
    → IsUnshared q (entry_of (chain_of q c) i)
unshared_new p q c d i header start a none first =
    let one : references q d ≡ 1 =
    omega (
      arith,
      references-adds d a,
      none,
      sum_by-cons (λ (e : Entry). cond {A = ℕ} (refers d e) 1 0) (empty_entry start (Some d)) [],
      ap (λ (b : Bool). cond {A = ℕ} b 1 0) (eq-eqb d d refl),
    ) in
    subst (IsUnshared q) (sym (new_entry p q c i header (empty_entry start (Some d)) a first))
    (λ k is. subst (λ (j : ℕ). references q j ≡ 1) (same_Some d k is) one)

-- an owner has at most one chain for each mbuf of the pool
some_each : (p : PoolView) (xs : List ℕ) → ((c : ℕ) → IsLive p c → 0 < mbufs_of (chain_of p c))
    → ((k : ℕ) → 0 < times_among k xs → IsLive p k) → length xs ≤ sum_by (λ k. mbufs_of (chain_of p k)) xs
some_each p [] h l = omega arith
some_each p (x ∷ xs) h l =
    omega (
      arith,
      sum_by-cons (λ k. mbufs_of (chain_of p k)) x xs,
      h x (l x (omega (arith, times_same x xs))),
      some_each p xs h (λ k e. l k (omega (arith, e))),
    )

pub owned_at_most : (p : PoolView) (xs : List ℕ) → IsBounded p → IsOwned p xs → length xs ≤ p.mbufs
owned_at_most p xs b o =
    omega (arith, some_each p xs b.some (λ k h. live_owned p xs k o h), owned_held p xs o, b.few)

-- ---- the free clusters
free_in : (f : ℕ → ℕ) (a n : ℕ) → ℕ
free_in f a n = count_by (λ c. nat_eq (f c) 0) (range_with_len a n)

free-step : (f : ℕ → ℕ) (a n : ℕ) → free_in f a (suc n) ≡ cond {A = ℕ} (nat_eq (f a) 0) 1 0 + free_in f (a + 1) n
unfolding free_in
free-step f a n = sum_by-cons (λ c. cond {A = ℕ} (nat_eq (f c) 0) 1 0) a (range_with_len (a + 1) n)

free-beside : (f g : ℕ → ℕ) (c a n : ℕ) → ((k : ℕ) → k ≢ c → g k ≡ f k) → c < a → free_in g a n ≡ free_in f a n
unfolding free_in
free-beside f g c a zero h l = refl
free-beside f g c a (suc n) h l =
    omega (
      arith,
      free-step f a n,
      free-step g a n,
      free-beside f g c (a + 1) n h (omega arith),
      ap (λ (k : ℕ). cond {A = ℕ} (nat_eq k 0) 1 0) (h a (λ e. absurd (omega arith))),
    )

free-one : (f g : ℕ → ℕ) (c a n : ℕ) → ((k : ℕ) → k ≢ c → g k ≡ f k) → f c ≡ 0 → 0 < g c → a ≤ c → c < a + n
    → free_in g a n + 1 ≡ free_in f a n
free-one f g c a zero h none some l m = absurd (omega arith)
free-one f g c a (suc n) h none some l m = elim (cases_eq a c) [
  | inl e ↦
      let here : cond {A = ℕ} (nat_eq (f a) 0) 1 0 ≡ 1 = cond-true {A = ℕ} _ 1 0 (eq-eqb (f a) 0 (ap f e ∙ none)) in
      let there : cond {A = ℕ} (nat_eq (g a) 0) 1 0 ≡ 0 =
      cond-false {A = ℕ} _ 1 0 (ne_eqb (g a) 0 (λ is. absurd (omega (arith, is, some, ap g e)))) in
      omega (arith, free-step f a n, free-step g a n, here, there, free-beside f g c (a + 1) n h (omega (arith, e)))
  | inr ne ↦ omega (
    arith,
    free-step f a n,
    free-step g a n,
    ap (λ (k : ℕ). cond {A = ℕ} (nat_eq k 0) 1 0) (h a ne),
    free-one f g c (a + 1) n h none some (omega (arith, l, ne)) (omega (arith, m)),
  )
]

free_is : (p : PoolView) → free_clusters p ≡ free_in (references p) 0 p.clusters
unfolding free_in
free_is p = refl

-- if the references are the same, the number of free clusters is the same
pub free-same : (p q : PoolView) → q.clusters ≡ p.clusters → ((c : ℕ) → references q c ≡ references p c)
    → free_clusters q ≡ free_clusters p
free-same p q e h = λ i. count_by (λ c. nat_eq (h c i) 0) (range_with_len 0 (e i))

-- one cluster gets its first reference, or loses its last (read from q to p)
pub free-taken : (p q : PoolView) (c : ℕ) → q.clusters ≡ p.clusters → c < p.clusters → references p c ≡ 0
    → 0 < references q c → ((k : ℕ) → k ≢ c → references q k ≡ references p k) → free_clusters q + 1 ≡ free_clusters p
free-taken p q c e l none some h =
    omega (
      arith,
      free_is p,
      free_is q,
      ap (free_in (references q) 0) e,
      free-one (references p) (references q) c 0 p.clusters h none some (omega arith) (omega arith),
    )
