-- What a function over a store needs of a chain or an mbuf, and what it leaves (this project's own).
use Rattle.std.specs.Prelude.{◌≡◌, ℕ, List}
use Rattle.mbuf_pool.specs.Store.{StoreView}
use Rattle.mbuf_chain.specs.declared.place.Place.{Place}
use Rattle.mbuf_chain.specs.Chain.{Entry, IsLive, IsPlace, IsUnshared, chain_of, entry_in}
use Rattle.mbuf_chain.specs.Steps.{with_entry_in}
use Rattle.mbuf_chain.specs.Inside.Cells.{IsPool, WritesPlace, pool_of}

-- the pool has this chain
pub record HasChain (s : StoreView) (c : ℕ) : Type 0 where
  pub pool : IsPool s
  pub live : IsLive (pool_of s) c

-- the chain has this mbuf
pub record HasMbuf (s : StoreView) (c : ℕ) (at : Place) : Type 0 where
  pub pool : IsPool s
  pub live : IsLive (pool_of s) c
  pub place : IsPlace (chain_of (pool_of s) c) at

-- its bytes can be written: no other mbuf shares them
pub record CanWrite (s : StoreView) (c : ℕ) (at : Place) : Type 0 where
  pub place : HasMbuf s c at
  pub unshared : IsUnshared (pool_of s) (entry_in (pool_of s) c at)

-- these bytes were written into its buffer, from offset start
pub record Written (s t : StoreView) (c : ℕ) (at : Place) (start : ℕ) (ws : List ℕ) : Type 0 where
  pub pool : IsPool t
  pub writes : WritesPlace s t c at start ws

-- its entry was replaced
pub record Replaced (s t : StoreView) (c : ℕ) (at : Place) (e : Entry) : Type 0 where
  pub pool : IsPool t
  pub change : pool_of t ≡ with_entry_in (pool_of s) c at e
