-- Parts of the region, in its block.
use Rattle.std.proofs.Common.{◌≡◌, ℕ, ◌+◌, ◌*◌, ◌≤◌, ◌<◌, ◌⊎◌, inl, List, length, take, subst, arith, length-take}
use Rattle.raw_cells.specs.Over.{over}
use Rattle.raw_cells.specs.Cells.{zero_head, head_size, origin, place, IsCellRoom, IsCellPart, IsSized, cells_written}
use Rattle.raw_cells.specs.Inside.Layout.{cell_head_in, cells_of, IsRegion}
use Rattle.raw_cells.specs.declared.part.Part.{Part}
use Rattle.raw_cells.specs.declared.part.Buffer.{Buffer}
use Rattle.raw_cells.specs.declared.part.Buffer.TheVariants.{Mbuf, Cluster}
use Rattle.raw_cells.specs.declared.region.Region.TheInside.{Inside}
use Rattle.raw_cells.proofs.Heads.{length-heads, head_at, head_size_le, heads_kept, mbufs_apart}

module _ (r : Inside) (is : IsRegion r) where
  pub region_sized : IsSized (cells_of r)
  region_sized =
      let count = length-heads r.mbufs r.block in
      record {
        block = omega (arith, is.0, count);
        mbufs = (omega (arith, is.1, count), omega (arith, is.2, count));
        clusters = is.3;
      }

  within : (b : Buffer) (s n : ℕ) → IsCellRoom (cells_of r) b s n → origin (cells_of r) b + s + n ≤ length r.block
  within (Mbuf i) s n at = omega (arith, is.0, at.0, at.3, length-heads r.mbufs r.block)
  within (Cluster i) s n at = omega (arith, is.0, at.0, at.1, length-heads r.mbufs r.block)

  -- a part is within the block
  pub part_within : (p : Part) → IsCellPart (cells_of r) p → place (cells_of r) p + p.len ≤ length r.block
  part_within p at = within p.buffer p.start p.len at

  -- a room doesn't overlap any head
  apart : (b : Buffer) (s n : ℕ) → IsCellRoom (cells_of r) b s n → (m : ℕ) → m ≤ n → (j k : ℕ) → j < r.mbufs
      → k < head_size (cell_head_in r.block (128 * j))
      → (128 * j + k < origin (cells_of r) b + s) ⊎ (origin (cells_of r) b + s + m ≤ 128 * j + k)
  apart (Mbuf i) s n at m le j k lt less =
      let here : i < r.mbufs = omega (arith, at.0, length-heads r.mbufs r.block) in
      mbufs_apart r.block r.mbufs i j k s m lt less
      (subst (λ h. head_size h ≤ s) (head_at r.mbufs r.block i zero_head here) at.2) (omega (arith, at.3))
  apart (Cluster i) s n at m le j k lt less =
      inl (omega (arith, length-heads r.mbufs r.block, head_size_le (cell_head_in r.block (128 * j))))

  -- a write to a part leaves the heads unchanged
  pub part_written : (p : Part) → IsCellPart (cells_of r) p → (ws : List ℕ)
      → cells_of (record r { block = over r.block (place (cells_of r) p) (take p.len ws) })
      ≡ cells_written (cells_of r) p ws
  part_written p at ws =
      let short : length (take p.len ws) ≤ p.len = omega (arith, length-take p.len ws) in
      let kept =
      heads_kept r.mbufs r.block (place (cells_of r) p) (take p.len ws) (omega (arith, part_within p at))
      (apart p.buffer p.start p.len at (length (take p.len ws)) short) in
      λ t. record { heads = kept t; bytes = over r.block (place (cells_of r) p) (take p.len ws); clusters = r.clusters }
