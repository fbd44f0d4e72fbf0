-- Which owner has which chains (this project's own): an owner is described by the list of its chains' numbers.
use Rattle.std.specs.Prelude.{◌≡◌, ℕ, ◌+◌, ◌≤◌, ◌==◌, if◌then◌else◌, List, [], ◌∷◌}
use Rattle.std.specs.FinMap as finmap
use Rattle.mbuf_chain.specs.Chain.{PoolView, IsLive}

-- how often a number is in a list
abbrev pub times_among : ℕ → List ℕ → ℕ
times_among k [] = 0
times_among k (x ∷ xs) = (if x == k then 1 else 0) + times_among k xs

-- whether a chain has that number: 1 or 0
abbrev pub live_at : PoolView → ℕ → ℕ
live_at p k = if finmap.contains_key p.chains k then 1 else 0

-- each number of the list is that of a chain of the pool, and no number is in the list twice
abbrev pub IsOwned : PoolView → List ℕ → Type 0
IsOwned p xs = (k : ℕ) → times_among k xs ≤ live_at p k

-- the list contains each chain of the pool once, and no other number
abbrev pub IsAll : PoolView → List ℕ → Type 0
IsAll p xs = (k : ℕ) → times_among k xs ≡ live_at p k

-- from p to q, the owner of the chains `before` has the chains `after` instead; every other chain is unchanged
pub record Moves (p : PoolView) (before : List ℕ) (q : PoolView) (after : List ℕ) : Type 0 where
  pub mbufs : q.mbufs ≡ p.mbufs
  pub clusters : q.clusters ≡ p.clusters
  pub others : (k : ℕ) → IsLive p k → times_among k before ≡ 0 → finmap.get q.chains k ≡ finmap.get p.chains k
  pub owned : (k : ℕ) → live_at q k + times_among k before ≡ live_at p k + times_among k after
