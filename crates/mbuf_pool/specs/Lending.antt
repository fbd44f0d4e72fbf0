-- The final value of a store after a `&mut` into it has ended (this project's own).
use Rattle.std.specs.Borrow.{Lends, MutBor, Fml, Array, u8}
use Rattle.std.specs.Prelude.{ℕ, List}
use Rattle.raw_cells.specs.declared.part.Part.{Part}
use Rattle.mbuf_pool.specs.Store.{StoreView, write}
use Rattle.mbuf_pool.specs.contracts.store.Store.{the_row}

-- at the end the store has the last value written through r as the bytes of the part
abbrev pub LendsPart : MutBor StoreView → Part → MutBor (List ℕ) → Fml
LendsPart s p r = Lends the_row (Array u8 0) s r (write s.now p)
