-- The final value of a block after a `&mut` into it has ended (this project's own).
use Rattle.std.specs.Prelude.{ℕ, List, take}
use Rattle.std.specs.Borrow.{Lends, MutBor, Fml, Array, u8}
use Rattle.raw_cells.specs.Over.{over}
use Rattle.raw_cells.specs.contracts.block.Block.{the_row}

-- at the end the block has the last n bytes written through r, from index `at`
abbrev pub LendsBytes : MutBor (List ℕ) → ℕ → ℕ → MutBor (List ℕ) → Fml
LendsBytes b at n r = Lends the_row (Array u8 0) b r (λ ws. over b.now at (take n ws))
