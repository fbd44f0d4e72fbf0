-- The final value of a block's bytes after a `&mut` into them has ended (this project's own).
use Rattle.std.specs.Prelude.{ℕ, List, take}
use Rattle.std.specs.Borrow.{Lends, MutBor, Fml, Array, u8}
use Rattle.raw_cells.specs.Over.{over}
use Rattle.raw_cells.specs.declared.memory.Bytes.{Bytes}
use Rattle.raw_cells.specs.contracts.memory.Bytes.{the_row}

-- a block with xs instead of its bytes
abbrev pub with_written : Bytes → List ℕ → Bytes
with_written b xs = record { at = b.at; written = xs; blank = b.blank }

-- at the end the last n bytes written through r replace the bytes from index `at`
abbrev pub LendsRun : MutBor Bytes → ℕ → ℕ → MutBor (List ℕ) → Fml
LendsRun b at n r = Lends the_row (Array u8 0) b r (λ ws. with_written b.now (over b.now.written at (take n ws)))
