-- Positions of bytes in a chain (this project's own).
use Rattle.std.specs.Prelude.{◌≡◌, drop}
use Rattle.mbuf_chain.specs.Chain.{ChainView, IsPlace}
use Rattle.chain_ops.specs.declared.cursor.Cursor.{Cursor}
use Rattle.chain_ops.specs.Copies.{position_of}

-- the cursor gives the position of the byte at its offset
pub record IsCursor (v : ChainView) (k : Cursor) : Type 0 where
  pub place : IsPlace v k.place
  pub position : position_of v.entries k.off ≡ record { entries = drop k.place.index v.entries; skip = k.skip }
