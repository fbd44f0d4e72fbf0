-- What callers use: the sizes of a region after each change, and a list after a write over it.
use Rattle.std.proofs.Common.{ℕ, ◌+◌, ◌*◌, ◌≤◌, ◌<◌, List, length, take, sym, ap, ◌∙◌, subst, arith, length-set}
use Rattle.std.proofs.lemmas.List.{length-replicate}
use Rattle.raw_cells.specs.Cells.{Cells, zero_cells, zero_head, region_size, origin, place, cells_written, IsSized, IsCellRoom, IsCellPart, SetsCellHead}
use Rattle.raw_cells.specs.declared.head.Head.{Head}
use Rattle.raw_cells.specs.declared.part.Part.{Part}
use Rattle.raw_cells.specs.declared.part.Buffer.{Buffer}
use Rattle.raw_cells.specs.declared.part.Buffer.TheVariants.{Mbuf, Cluster}
pub use Rattle.raw_cells.proofs.Over.{over_below, over_above, over_in, over_all, length_over}
pub use Rattle.raw_cells.proofs.Heads.{head_size_le}

-- a new region has the sizes of a region
pub sized_zero : (m k : ℕ) → 0 < m → m ≤ 65535 → k ≤ 4096 → IsSized (zero_cells m k)
sized_zero m k some most few =
    let heads = length-replicate m zero_head in
    record {
      block = length-replicate (region_size m k) 0 ∙ ap (λ n. region_size n k) (sym heads);
      mbufs = (omega (arith, heads), omega (arith, heads));
      clusters = few;
    }

room_fits : (c : Cells) (b : Buffer) (s n : ℕ) → IsSized c → IsCellRoom c b s n → origin c b + s + n ≤ length c.bytes
room_fits c (Mbuf i) s n sized at = omega (arith, sized.block, at.0, at.3)
room_fits c (Cluster i) s n sized at = omega (arith, sized.block, at.0, at.1)

-- a part is within the block
pub part_fits : (c : Cells) (p : Part) → IsSized c → IsCellPart c p → place c p + p.len ≤ length c.bytes
part_fits c p sized at = room_fits c p.buffer p.start p.len sized at

-- a write leaves the sizes unchanged
pub sized_written : (c : Cells) (p : Part) (ws : List ℕ) → IsSized c → IsCellPart c p → IsSized (cells_written c p ws)
sized_written c p ws sized at =
    let fits = part_fits c p sized at in
    record {
      block = length_over c.bytes (place c p) (take p.len ws) (omega arith) ∙ sized.block;
      mbufs = sized.mbufs;
      clusters = sized.clusters;
    }

-- so does a new head
pub sized_after_head : (old new : Cells) (i : ℕ) (h : Head) → IsSized old → i < length old.heads
    → SetsCellHead old new i h
    → IsSized new
sized_after_head old new i h sized lt sets =
    let heads = length-set old.heads i h in
    subst IsSized (sym sets.2) (record {
      block =
          length_over old.bytes (128 * i) sets.0 (omega (arith, sized.block)) ∙ sized.block
          ∙ ap (λ n. region_size n old.clusters) (sym heads);
      mbufs = (omega (arith, heads, sized.mbufs.0), omega (arith, heads, sized.mbufs.1));
      clusters = sized.clusters;
    })
