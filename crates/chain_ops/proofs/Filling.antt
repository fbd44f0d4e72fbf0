-- Bytes that fill one cluster.
use Rattle.std.proofs.Common.{◌≡◌, ℕ, ◌-◌, ◌<◌, ◌≤◌, Bool, true, List, [], ◌∷◌, length, take, count_by, Some, refl, sym, ap, ◌∙◌, subst, arith, inl, inr}
use Rattle.std.proofs.lemmas.List.{take_all}
use Rattle.std.proofs.lemmas.Option.{same_Some}
use Rattle.flat_model.specs.Amounts.Layout.{Room, Cluster, is_cluster}
use Rattle.mbuf_chain.specs.Chain.{PoolView, LacksForCluster, free_clusters, held_mbufs, references, Adds}
use Rattle.mbuf_chain.specs.Owners.{times_among}
use Rattle.mbuf_chain.specs.Steps.{one_mbuf}
use Rattle.chain_ops.specs.Stored.{Has, Lacks, Stores, rooms_for, stored_first}
use Rattle.chain_ops.proofs.Laws.Makes.{makes_new}
use Rattle.chain_ops.proofs.Laws.Rooms.{one_cluster}
use Rattle.chain_ops.proofs.Stored.{free_more, none_free}

module _ (large n : ℕ) (low : large ≤ 56) (many : 208 ≤ n) (few : n ≤ 2048 - large) where
  rooms : rooms_for large n ≡ Cluster n ∷ []
  rooms = one_cluster large n low many few

  pub has : (p : PoolView) → held_mbufs p < p.mbufs → 0 < free_clusters p → Has p (rooms_for large n)
  has p mbuf cluster = (
    omega (arith, mbuf, ap (λ (rs : List Room). length rs) rooms),
    omega (arith, cluster, ap (count_by is_cluster) rooms),
  )

  pub lacks : (p : PoolView) → LacksForCluster p → Lacks p (rooms_for large n)
  lacks p (inl e) = inl (omega (arith, e, ap (λ (rs : List Room). length rs) rooms))
  lacks p (inr e) = inr (omega (arith, e, ap (count_by is_cluster) rooms))

pub filled_one : (p q : PoolView) (d k large : ℕ) (ends : Bool) (bytes : List ℕ) → large ≤ 56 → 208 ≤ length bytes
    → length bytes ≤ 2048 - large → k < p.clusters → references p k ≡ 0
    → Adds p q d (one_mbuf true (record { bytes = bytes; start = large; cluster = Some k }) d)
    → Stores p q d large ends (rooms_for large (length bytes)) bytes
filled_one p q d k large ends bytes low many few exists none adds =
    let n : ℕ = length bytes in
    let rooms : rooms_for large n ≡ Cluster n ∷ [] = one_cluster large n low many few in
    let m = makes_new adds in
    let all : take n bytes ≡ bytes = take_all n bytes (omega arith) in
    let entries : record { bytes = bytes; start = large; cluster = Some k } ∷ []
    ≡ stored_first large ends (k ∷ []) (rooms_for large n) bytes =
    (λ i. record { bytes = sym all i; start = large; cluster = Some k } ∷ [])
    ∙ ap (λ (rs : List Room). stored_first large ends (k ∷ []) rs bytes) (sym rooms) in (
      k ∷ [],
      free_more p [] true (Some k) (none_free p)
          (λ c e. subst (λ (j : ℕ). (j < p.clusters) × (references p j ≡ 0) × (times_among j [] ≡ 0)) (same_Some k c e)
          (exists, none, refl)),
      sym (ap (count_by is_cluster) rooms),
      record { adds = m.adds; front = m.front; entries = m.entries ∙ entries },
    )
