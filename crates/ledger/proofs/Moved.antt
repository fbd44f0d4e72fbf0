-- The accounts after an owner's step, by `Moves` only: other chains are unchanged, so the counts change by those of the
-- owner's chains.
use Rattle.std.proofs.Common.{◌≡◌, ◌≢◌, ℕ, zero, suc, ◌+◌, ◌<◌, List, [], ◌∷◌, None, sum_by, refl, sym, ap, ◌∙◌, subst, arith, inl, inr}
use Rattle.std.specs.FinMap as finmap
use Rattle.std.proofs.lemmas.Bool.{cases_eq}
use Rattle.std.proofs.lemmas.List.Sums.{sum_by-cons}
use Rattle.flat_model.specs.Amounts.Weight.{Weight, times as bag_times}
use Rattle.flat_model.specs.Machine.State.{State}
use Rattle.flat_model.specs.declared.config.Config.{Config}
use Rattle.mbuf_chain.specs.Chain.{ChainView, PoolView, IsLive, chain_of, without, mbufs_of, references_of, held_mbufs, references}
use Rattle.mbuf_chain.specs.Owners.{times_among, live_at, IsOwned, Moves}
use Rattle.mbuf_chain.proofs.Laws.Owners.{times_same, times_other, live_from, live_first, live_at_most, none_from, apart_first, chain_left}
use Rattle.mbuf_chain.proofs.Laws.Maps.{same, get_gone, get_left}
use Rattle.mbuf_chain.proofs.Laws.Accounts.{owned_left, held-without, references-without}
use Rattle.ledger.specs.Accounts.{weight_owned, IsAccounted, Shifts}
use Rattle.ledger.proofs.Weights.{owned_mbufs, owned_bag}

-- the pool without an owner's chains
left : PoolView → List ℕ → PoolView
left p [] = p
left p (x ∷ xs) = left (without p x) xs

left_mbufs : (p : PoolView) (xs : List ℕ) → (left p xs).mbufs ≡ p.mbufs
unfolding left
left_mbufs p [] = refl
left_mbufs p (x ∷ xs) = left_mbufs (without p x) xs

left_clusters : (p : PoolView) (xs : List ℕ) → (left p xs).clusters ≡ p.clusters
unfolding left
left_clusters p [] = refl
left_clusters p (x ∷ xs) = left_clusters (without p x) xs

-- a number without a chain stays without one
gone_left : (p : PoolView) (xs : List ℕ) (k : ℕ) → finmap.get p.chains k ≡ None → finmap.get (left p xs).chains k ≡ None
unfolding left
gone_left p [] k e = e
gone_left p (x ∷ xs) k e = elim (cases_eq k x) [
  | inl is ↦ gone_left (without p x) xs k
      (subst (λ (j : ℕ). finmap.get (finmap.remove p.chains x) j ≡ None) (sym is) (get_gone p.chains x))
  | inr ne ↦ gone_left (without p x) xs k (get_left p.chains x k ne ∙ e)
]

out_left : (p : PoolView) (xs : List ℕ) (k : ℕ) → times_among k xs ≡ 0
    → finmap.get (left p xs).chains k ≡ finmap.get p.chains k
unfolding left
out_left p [] k h = refl
out_left p (x ∷ xs) k h =
    let ne : k ≢ x = λ e. absurd (omega (arith, h, times_same x xs, ap (λ (j : ℕ). times_among j (x ∷ xs)) e)) in
    out_left (without p x) xs k (omega (arith, h, times_other k x xs ne)) ∙ get_left p.chains x k ne

in_left : (p : PoolView) (xs : List ℕ) (k : ℕ) → 0 < times_among k xs → finmap.get (left p xs).chains k ≡ None
unfolding left
in_left p [] k h = absurd (omega arith)
in_left p (x ∷ xs) k h = elim (cases_eq k x) [
  | inl is ↦ gone_left (without p x) xs k
      (subst (λ (j : ℕ). finmap.get (finmap.remove p.chains x) j ≡ None) (sym is) (get_gone p.chains x))
  | inr ne ↦ in_left (without p x) xs k (omega (arith, h, times_other k x xs ne))
]

-- the chains of other owners are the same
same_left : {p q : PoolView} {xs ys : List ℕ} → Moves p xs q ys → left p xs ≡ left q ys
same_left {p} {q} {xs} {ys} m =
    let chains : (left p xs).chains ≡ (left q ys).chains =
    same (left p xs).chains (left q ys).chains
    (λ k. at k (times_among k xs) (times_among k ys) (live_at p k) refl refl refl) in
    let mbufs : (left p xs).mbufs ≡ (left q ys).mbufs = left_mbufs p xs ∙ sym m.mbufs ∙ sym (left_mbufs q ys) in
    let clusters : (left p xs).clusters ≡ (left q ys).clusters =
    left_clusters p xs ∙ sym m.clusters ∙ sym (left_clusters q ys) in
    λ i. record { mbufs = mbufs i; clusters = clusters i; chains = chains i }
  where
    at : (k a b l : ℕ) → times_among k xs ≡ a → times_among k ys ≡ b → live_at p k ≡ l
        → finmap.get (left p xs).chains k ≡ finmap.get (left q ys).chains k
    at k (suc a) (suc b) l is_a is_b is_l = in_left p xs k (omega arith) ∙ sym (in_left q ys k (omega arith))
    at k (suc a) zero l is_a is_b is_l =
        in_left p xs k (omega arith) ∙ sym
        (out_left q ys k is_b ∙ none_from q k (omega (arith, m.owned k, live_at_most p k)))
    at k zero (suc b) l is_a is_b is_l =
        out_left p xs k is_a ∙ none_from p k (omega (arith, m.owned k, live_at_most q k))
        ∙ sym (in_left q ys k (omega arith))
    at k zero zero zero is_a is_b is_l =
        out_left p xs k is_a ∙ none_from p k is_l
        ∙ sym (out_left q ys k is_b ∙ none_from q k (omega (arith, m.owned k)))
    at k zero zero (suc l) is_a is_b is_l =
        out_left p xs k is_a ∙ sym (m.others k (live_from p k (omega arith)) is_a) ∙ sym (out_left q ys k is_b)

-- ---- a count F that falls by f of a chain when that chain is freed
module _ (F : PoolView → ℕ) (f : ChainView → ℕ)
    (falls : (p q : PoolView) (c : ℕ) → IsLive p c → q ≡ without p c → F q + f (chain_of p c) ≡ F p) where
  sum_left : (p : PoolView) (c : ℕ) (xs : List ℕ) → times_among c xs ≡ 0
      → sum_by (λ k. f (chain_of (without p c) k)) xs ≡ sum_by (λ k. f (chain_of p k)) xs
  sum_left p c [] h = refl
  sum_left p c (x ∷ xs) h =
      let ne : x ≢ c = λ e. absurd (omega (arith, ap (λ (j : ℕ). times_among j (x ∷ xs)) e, times_same x xs)) in
      omega (
        arith,
        sum_by-cons (λ k. f (chain_of (without p c) k)) x xs,
        sum_by-cons (λ k. f (chain_of p k)) x xs,
        ap f (chain_left p c x ne),
        sum_left p c xs (omega arith),
      )

  falls_left : (p : PoolView) (xs : List ℕ) → IsOwned p xs → F (left p xs) + sum_by (λ k. f (chain_of p k)) xs ≡ F p
  unfolding left
  falls_left p [] o = omega arith
  falls_left p (x ∷ xs) o =
      omega (
        arith,
        falls p (without p x) x (live_first p x xs o) refl,
        falls_left (without p x) xs (owned_left p x xs o),
        sum_left p x xs (apart_first p x xs o),
        sum_by-cons (λ k. f (chain_of p k)) x xs,
      )

  pub sum_moved : {p q : PoolView} {xs ys : List ℕ} → Moves p xs q ys → IsOwned p xs
      → F q + sum_by (λ k. f (chain_of p k)) xs ≡ F p + sum_by (λ k. f (chain_of q k)) ys
  sum_moved {p} {q} {xs} {ys} m o =
      omega (arith, falls_left p xs o, falls_left q ys (λ k. omega (arith, m.owned k, o k)), ap F (same_left m))

-- ---- the mbufs held and a cluster's references, by the weights of what was owned before and after
pub held_moved : {p q : PoolView} {xs ys : List ℕ} → Moves p xs q ys → IsOwned p xs
    → held_mbufs q + (weight_owned p xs).mbufs ≡ held_mbufs p + (weight_owned q ys).mbufs
held_moved {p} {q} {xs} {ys} m o =
    omega (
      arith,
      sum_moved held_mbufs mbufs_of (λ a b c l e. held-without a b c l e) m o,
      owned_mbufs p xs,
      owned_mbufs q ys,
    )

pub references_moved : {p q : PoolView} {xs ys : List ℕ} (c : ℕ) → Moves p xs q ys → IsOwned p xs
    → references q c + bag_times c (weight_owned p xs).bag ≡ references p c + bag_times c (weight_owned q ys).bag
references_moved {p} {q} {xs} {ys} c m o =
    omega (
      arith,
      sum_moved (λ r. references r c) (references_of c) (λ a b k l e. references-without a b k c l e) m o,
      owned_bag p c xs,
      owned_bag q c ys,
    )

-- ---- the accounts after a step
pub accounted_after : {p q : PoolView} {xs ys : List ℕ} {s t : State} {held left : Weight} → IsAccounted p s held
    → Moves p xs q ys → IsOwned p xs → t.config ≡ s.config
    → Shifts s held (weight_owned p xs) t left (weight_owned q ys) → IsAccounted q t left
accounted_after {p} {q} {xs} {ys} {s} {t} b m o e w = record {
  mbufs = ap (λ (c : Config). c.mbufs) e ∙ b.mbufs ∙ sym m.mbufs;
  clusters = ap (λ (c : Config). c.clusters) e ∙ b.clusters ∙ sym m.clusters;
  total = omega (arith, held_moved m o, b.total, w.mbufs);
  references = λ c. omega (arith, references_moved c m o, b.references c, w.bag c);
}
