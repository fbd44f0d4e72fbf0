-- A store during boot, before everything is freed (this project's own).
use Rattle.std.specs.Prelude.{◌≡◌, ℕ, ◌<◌, IsTrue, length}
use Rattle.mbuf_pool.specs.declared.sizes.Sizes.{Sizes}
use Rattle.mbuf_pool.specs.Store.{StoreView, is_out, cluster_count}

-- everything is handed out, each cluster with one reference
pub record IsAllOut (s : StoreView) (z : Sizes) : Type 0 where
  pub mbufs : length s.mbufs ≡ z.mbufs
  pub mbufs_out : (i : ℕ) → i < z.mbufs → IsTrue (is_out s i)
  pub clusters : length s.clusters ≡ z.clusters
  pub counted : (c : ℕ) → c < z.clusters → cluster_count s c ≡ 1
