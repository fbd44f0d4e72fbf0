-- The usage that the pool shows, from the pool's own counts.
use Rattle.std.proofs.Common.{◌≡◌, ℕ, ◌+◌, sym, arith}
use Rattle.std.specs.Prelude.{map, sum, fold, max}
use Rattle.std.specs.List.{range_with_len}
use Rattle.flat_model.specs.Amounts.Weight.{nothing}
use Rattle.flat_model.specs.Machine.State.{State}
use Rattle.flat_model.specs.Machine.Ledger as flat
use Rattle.flat_model.specs.Machine.Ledger.{count_of, usage_of}
use Rattle.mbuf_chain.specs.Chain.{PoolView, held_mbufs, references, free_clusters}
use Rattle.ledger.specs.Accounts.{IsAccounted}
use Rattle.ledger.proofs.Accounts.{free_mbufs_are, free_clusters_are}

pub usage_is : (p : PoolView) (s : State) (free : ℕ) → IsAccounted p s nothing → free + held_mbufs p ≡ p.mbufs
    → record {
      free_mbufs = free;
      mbufs = p.mbufs;
      free_clusters = free_clusters p;
      clusters = p.clusters;
      refs = sum (map (references p) (range_with_len 0 p.clusters));
      most = fold max 0 (map (references p) (range_with_len 0 p.clusters));
    } ≡ usage_of s
usage_is p s free b e =
    let clusters : p.clusters ≡ s.config.clusters = sym b.clusters in
    let counts : map (references p) (range_with_len 0 p.clusters)
    ≡ map (count_of s nothing) (range_with_len 0 s.config.clusters) =
    λ i. map (λ c. b.references c i) (range_with_len 0 (clusters i)) in
    let free_is : free ≡ flat.free_mbufs s nothing = omega (arith, e, free_mbufs_are p s nothing b) in
    let free_clusters_is : free_clusters p ≡ flat.free_clusters s nothing = sym (free_clusters_are p s nothing b) in
    λ i. record {
      free_mbufs = free_is i;
      mbufs = sym b.mbufs i;
      free_clusters = free_clusters_is i;
      clusters = clusters i;
      refs = sum (counts i);
      most = fold max 0 (counts i);
    }
