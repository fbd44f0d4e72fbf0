-- Weights of chains, and when two weights balance.
use Rattle.std.proofs.Common.{◌≡◌, ℕ, cond, List, [], ◌∷◌, sum_by, count_by, filter_map, Option, None, Some, refl, arith}
use Rattle.std.specs.Prelude.{◌==◌}
use Rattle.std.proofs.lemmas.List.Sums.{sum_by-cons, sum_by-append}
use Rattle.flat_model.specs.Amounts.Weight.{times}
use Rattle.mbuf_chain.specs.Chain.{Entry, PoolView, chain_of, mbufs_of, references_of, refers}
use Rattle.ledger.specs.Accounts.{entries_weight, weight_at, weight_owned}

-- ---- sums over an owner's chains are its weight
pub owned_mbufs : (p : PoolView) (xs : List ℕ) → (weight_owned p xs).mbufs ≡ sum_by (λ k. mbufs_of (chain_of p k)) xs
owned_mbufs p [] = refl
owned_mbufs p (x ∷ xs) = omega (arith, sum_by-cons (λ k. mbufs_of (chain_of p k)) x xs, owned_mbufs p xs)

bag_of : (c : ℕ) (es : List Entry) → times c (entries_weight es).bag ≡ count_by (refers c) es
bag_of c [] = refl
bag_of c (e ∷ es) = go e.cluster (bag_of c es)
  where
    go : (o : Option ℕ) → times c (entries_weight es).bag ≡ count_by (refers c) es
        → times c (filter_map (λ (e : Entry). e.cluster)
        (record { bytes = e.bytes; start = e.start; cluster = o } ∷ es))
        ≡ count_by (refers c) (record { bytes = e.bytes; start = e.start; cluster = o } ∷ es)
    go None h =
        omega (
          arith,
          h,
          sum_by-cons (λ e. cond {A = ℕ} (refers c e) 1 0)
              (record { bytes = e.bytes; start = e.start; cluster = None }) es,
        )
    go (Some k) h =
        omega (
          arith,
          h,
          sum_by-cons (λ e. cond {A = ℕ} (refers c e) 1 0)
              (record { bytes = e.bytes; start = e.start; cluster = Some k }) es,
          sum_by-cons (λ j. cond {A = ℕ} (j == c) 1 0) k (entries_weight es).bag,
        )

pub owned_bag : (p : PoolView) (c : ℕ) (xs : List ℕ)
    → times c (weight_owned p xs).bag ≡ sum_by (λ k. references_of c (chain_of p k)) xs
owned_bag p c [] = refl
owned_bag p c (x ∷ xs) =
    omega (
      arith,
      sum_by-append (λ j. cond {A = ℕ} (j == c) 1 0) (weight_at p x).bag (weight_owned p xs).bag,
      bag_of c (chain_of p x).entries,
      sum_by-cons (λ k. references_of c (chain_of p k)) x xs,
      owned_bag p c xs,
    )
