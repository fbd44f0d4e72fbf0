-- What a step leaves unchanged, and the limits of a pool (this project's own).
use Rattle.std.specs.Prelude.{◌≡◌, ◌≢◌, ℕ, ◌+◌, ◌<◌, ◌≤◌, List, length, Some}
use Rattle.std.specs.FinMap as finmap
use Rattle.params.specs.declared.TheConstants.{MAX_MBUFS}
use Rattle.mbuf_chain.specs.Chain.{ChainView, PoolView, IsLive, chain_of, mbufs_of, held_mbufs, entry_of, room_start, room_end}
use Rattle.mbuf_chain.specs.Owners.{times_among}

-- the pool is as large in q as in p, and each chain of the list is the same in q as in p
pub record SameAt (p q : PoolView) (xs : List ℕ) : Type 0 where
  pub mbufs : q.mbufs ≡ p.mbufs
  pub same : (k : ℕ) → 0 < times_among k xs → finmap.get q.chains k ≡ finmap.get p.chains k

-- the bytes of entry i are in the data area of its mbuf or in its cluster, which is one of the pool's
pub record Fits (p : PoolView) (v : ChainView) (i : ℕ) : Type 0 where
  pub low : room_start v i ≤ (entry_of v i).start
  pub high : (entry_of v i).start + length (entry_of v i).bytes ≤ room_end (entry_of v i)
  pub known : (c : ℕ) → (entry_of v i).cluster ≡ Some c → c < p.clusters

-- Each chain has an mbuf, and the number of one of its mbufs is its own. Each of its entries fits, and an mbuf is in at
-- most one chain, once. All chains together have no more mbufs than exist, and these are at most 65,535.
pub record IsBounded (p : PoolView) : Type 0 where
  pub some : (c : ℕ) → IsLive p c → 0 < mbufs_of (chain_of p c)
  pub numbers : (c : ℕ) → IsLive p c → c < p.mbufs
  pub cells : (c : ℕ) → IsLive p c → length (chain_of p c).cells ≡ mbufs_of (chain_of p c)
  pub once : (c k : ℕ) → IsLive p c → times_among k (chain_of p c).cells ≤ 1
  pub apart : (c d k : ℕ) → IsLive p c → IsLive p d → c ≢ d
      → times_among k (chain_of p c).cells + times_among k (chain_of p d).cells ≤ 1
  pub fits : (c i : ℕ) → IsLive p c → i < mbufs_of (chain_of p c) → Fits p (chain_of p c) i
  pub few : held_mbufs p ≤ p.mbufs
  pub small : p.mbufs ≤ MAX_MBUFS
