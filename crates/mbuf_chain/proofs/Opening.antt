-- A pool over a store in which nothing is in use.
use Rattle.std.proofs.Common.{◌≡◌, ℕ, zero, suc, false, cond, List, [], ◌∷◌, length, Option, None, Some, is_some, refl, sym, ap, arith, slice_index_or, count_by}
use Rattle.std.specs.FinMap as finmap
use Rattle.std.specs.FinMap.{FinMap}
use Rattle.std.specs.Ordering.{nat_cmp}
use Rattle.std.proofs.lemmas.List.Sums.{sum_by-cons}
use Rattle.mbuf_pool.specs.Store.{StoreView, MbufView, is_out, mbufs_out, cluster_count, IsStore}
use Rattle.mbuf_chain.specs.Chain.{ChainView}
use Rattle.mbuf_chain.specs.Inside.Cells.{AreSoundChains, IsPool, pool_of}
use Rattle.mbuf_chain.proofs.Lists.{off}
use Rattle.mbuf_chain.proofs.Changes.{view_is}

none_out : (xs : List (Option MbufView)) (k : ℕ) → count_by (λ (o : Option MbufView). is_some o) xs ≡ 0
    → is_some (slice_index_or xs k None) ≡ false
none_out [] k e = refl
none_out (Some m ∷ xs) k e =
    absurd (omega (arith, sum_by-cons (λ (o : Option MbufView). cond {A = ℕ} (is_some o) 1 0) (Some m) xs))
none_out (None ∷ xs) zero e = refl
none_out (None ∷ xs) (suc k) e =
    none_out xs k (omega (arith, sum_by-cons (λ (o : Option MbufView). cond {A = ℕ} (is_some o) 1 0) None xs))

pub over_sound : (s : StoreView) → mbufs_out s ≡ 0 → ((c : ℕ) → cluster_count s c ≡ 0) → IsStore s → AreSoundChains s []
over_sound s mbufs clusters store = record {
  linked = tt;
  once = λ k. sym (off (is_out s k) (none_out s.mbufs k mbufs));
  total = sym mbufs;
  counted = clusters;
  store = store;
}

pub over_pool : (s : StoreView) → mbufs_out s ≡ 0 → ((c : ℕ) → cluster_count s c ≡ 0) → IsStore s → IsPool s
over_pool s mbufs clusters store = ([], over_sound s mbufs clusters store, tt)

pub over_empty : (s : StoreView) → mbufs_out s ≡ 0 → ((c : ℕ) → cluster_count s c ≡ 0) → IsStore s
    → pool_of s ≡ record { mbufs = length s.mbufs; clusters = length s.clusters; chains = finmap.empty }
over_empty s mbufs clusters store =
    ap (λ (m : FinMap nat_cmp ChainView). record { mbufs = length s.mbufs; clusters = length s.clusters; chains = m })
    (view_is s [] (over_sound s mbufs clusters store))
