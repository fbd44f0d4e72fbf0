-- The terms of raw_cells that contracts of stores, and of the crates above, use: heads, parts, and a write over a list.
pub use Rattle.raw_cells.specs.declared.head.Change.{Change}
pub use Rattle.raw_cells.specs.declared.head.Change.TheVariants.{Next, NextPacket, Data, PacketLen, Arrival, NoPacket}
pub use Rattle.raw_cells.specs.declared.head.Head.{Head}
pub use Rattle.raw_cells.specs.declared.head.PacketHeader.{PacketHeader}
pub use Rattle.raw_cells.specs.declared.part.Part.{Part}
pub use Rattle.raw_cells.specs.declared.part.Buffer.{Buffer}
pub use Rattle.raw_cells.specs.declared.part.Buffer.TheVariants.{Mbuf, Cluster}
pub use Rattle.raw_cells.specs.Cells.{IsChange, IsHead, IsLink, changed, head_size, with_arrival, with_packet_len}
pub use Rattle.raw_cells.specs.Over.{over}
