-- The pool's counts are those of the flat machine.
use Rattle.std.proofs.Common.{◌≡◌, ℕ, ◌+◌, ◌-◌, ◌<◌, ◌≤◌, true, List, count_by, nat_eq, sym, ap, ◌∙◌, arith}
use Rattle.std.specs.Prelude.{◌&&◌, nat_le}
use Rattle.std.specs.List.{range_with_len}
use Rattle.std.proofs.lemmas.Bool.{leb-true, and_parts}
use Rattle.flat_model.specs.Amounts.Weight.{Weight, ◌⊕◌, SameWeight}
use Rattle.flat_model.specs.Machine.State.{State}
use Rattle.flat_model.specs.Amounts.Layout.{Need}
use Rattle.flat_model.specs.Machine.Ledger as flat
use Rattle.flat_model.specs.Machine.Ledger.{weight_of_state, has_enough}
use Rattle.flat_model.specs.declared.config.Config.{Config}
use Rattle.mbuf_chain.specs.Chain.{PoolView, held_mbufs, free_clusters}
use Rattle.mbuf_chain.specs.Owners.{IsAll}
use Rattle.mbuf_chain.proofs.Laws.Accounts.{held_by_owners, references_by_owners}
use Rattle.ledger.specs.Accounts.{weight_owned, IsAccounted}
use Rattle.ledger.specs.Reserve.{are_free}
use Rattle.ledger.proofs.Weights.{owned_mbufs, owned_bag}

-- ---- if the owners' lists contain each chain once, and these weigh what the state and `held` weigh, the pool
-- accounts for both
pub accounted_all : (p : PoolView) (s : State) (held : Weight) (all : List ℕ) → IsAll p all → s.config.mbufs ≡ p.mbufs
    → s.config.clusters ≡ p.clusters → SameWeight (weight_owned p all) (weight_of_state s ⊕ held) → IsAccounted p s held
accounted_all p s held all h m c b = record {
  mbufs = m;
  clusters = c;
  total = held_by_owners p all h ∙ sym (owned_mbufs p all) ∙ b.mbufs;
  references = λ k. references_by_owners p all k h ∙ sym (owned_bag p k all) ∙ b.bag k;
}

-- ---- a test of the pool has the result of the machine's test
free_clusters_were : (p : PoolView) (s : State) (held : Weight) → IsAccounted p s held
    → free_clusters p ≡ flat.free_clusters s held
free_clusters_were p s held b =
    let size : p.clusters ≡ s.config.clusters = sym b.clusters in
    λ i. count_by (λ c. nat_eq (b.references c i) 0) (range_with_len 0 (size i))

pub free_clusters_are : (p : PoolView) (s : State) (held : Weight) → IsAccounted p s held
    → flat.free_clusters s held ≡ free_clusters p
free_clusters_are p s held b = sym (free_clusters_were p s held b)

pub free_mbufs_are : (p : PoolView) (s : State) (held : Weight) → IsAccounted p s held
    → flat.free_mbufs s held ≡ p.mbufs - held_mbufs p
free_mbufs_are p s held b = omega (arith, b.mbufs, b.total)

pub test_is : (p : PoolView) (s : State) (held : Weight) (need : Need) → IsAccounted p s held
    → has_enough s held need ≡ are_free p need.mbufs need.clusters
test_is p s held need b =
    ap (λ (n : ℕ). nat_le need.mbufs n && nat_le need.clusters (flat.free_clusters s held)) (free_mbufs_are p s held b)
    ∙ ap (λ (n : ℕ). nat_le need.mbufs (p.mbufs - held_mbufs p) && nat_le need.clusters n)
    (free_clusters_are p s held b)

-- ---- what a test that passed means
pub enough_mbufs : (p : PoolView) (mbufs clusters : ℕ) → are_free p mbufs clusters ≡ true → 0 < mbufs
    → held_mbufs p + mbufs ≤ p.mbufs
enough_mbufs p mbufs clusters e some =
    omega (
      arith,
      leb-true mbufs (p.mbufs - held_mbufs p)
          (and_parts (nat_le mbufs (p.mbufs - held_mbufs p)) (nat_le clusters (free_clusters p)) e).0,
    )

pub enough_clusters : (p : PoolView) (mbufs clusters : ℕ) → are_free p mbufs clusters ≡ true
    → clusters ≤ free_clusters p
enough_clusters p mbufs clusters e =
    leb-true clusters (free_clusters p)
    (and_parts (nat_le mbufs (p.mbufs - held_mbufs p)) (nat_le clusters (free_clusters p)) e).1

-- ---- the same pool with another state, and another weight held
pub accounted_as : {p : PoolView} {s t : State} {held kept : Weight} → IsAccounted p s held → t.config ≡ s.config
    → SameWeight (weight_of_state s ⊕ held) (weight_of_state t ⊕ kept) → IsAccounted p t kept
accounted_as a e b = record {
  mbufs = ap (λ (c : Config). c.mbufs) e ∙ a.mbufs;
  clusters = ap (λ (c : Config). c.clusters) e ∙ a.clusters;
  total = a.total ∙ b.mbufs;
  references = λ c. a.references c ∙ b.bag c;
}
