-- A test of the pool that the flat machine makes too (this project's own; what is freed if it fails is `ip_drain` of
-- TCP/IP Illustrated, volume 2, chapter 10).
use Rattle.std.specs.Prelude.{ℕ, ◌-◌, Bool, nat_le, ◌&&◌}
use Rattle.mbuf_chain.specs.Chain.{PoolView, held_mbufs, free_clusters}
use Rattle.flat_model.specs.Amounts.Weight.{Weight}
use Rattle.flat_model.specs.Machine.State.{State}
use Rattle.flat_model.specs.Amounts.Layout.{Need}
use Rattle.flat_model.specs.Machine.Ledger.{exact_ledger, HasBuffers}
use Rattle.ledger.specs.Accounts.{IsAccounted}

-- that number of mbufs and clusters is free
abbrev pub are_free : PoolView → ℕ → ℕ → Bool
are_free p mbufs clusters = nat_le mbufs (p.mbufs - held_mbufs p) && nat_le clusters (free_clusters p)

-- the exact machine's test for `need` may have this result and the state `after`, and q accounts for that state
pub record Reserves (s : State) (held : Weight) (need : Need) (answer : Bool) (after : State) (q : PoolView) : Type 0
  where
    pub has_buffers : HasBuffers exact_ledger s held need answer after
    pub accounted : IsAccounted q after held
