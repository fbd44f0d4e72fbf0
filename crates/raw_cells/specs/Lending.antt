-- The final value of a region after a `&mut` into it has ended (this project's own).
use Rattle.std.specs.Borrow.{Lends, MutBor, Fml, Array, u8}
use Rattle.std.specs.Prelude.{ℕ, List}
use Rattle.raw_cells.specs.Cells.{Cells, cells_written}
use Rattle.raw_cells.specs.declared.part.Part.{Part}
use Rattle.raw_cells.specs.contracts.region.Region.{the_row}

-- at the end the region has the last value written through r as the bytes of the part
abbrev pub LendsCellPart : MutBor Cells → Part → MutBor (List ℕ) → Fml
LendsCellPart c p r = Lends the_row (Array u8 0) c r (cells_written c.now p)
