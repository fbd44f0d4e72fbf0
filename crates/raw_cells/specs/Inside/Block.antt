-- What is true of a block: its parts belong to the same memory, and every byte of it is initialized (this project's
-- own).
use Rattle.std.specs.Prelude.{◌≡◌, ◌^◌, ◌<◌, length}
use Rattle.raw_cells.specs.declared.block.Block.TheInside.{Inside}

pub record IsBlock (b : Inside) : Type 0 where
  pub place : (b.bytes.at ≡ b.address.ptr) × (b.deed.at ≡ b.address.ptr)
  pub size : (b.bytes.blank ≡ 0) × (length b.bytes.written ≡ b.len) × (b.deed.len ≡ b.len) × (b.len < 2 ^ 63)
  pub handle : b.deed.alloc ≡ b.alloc
