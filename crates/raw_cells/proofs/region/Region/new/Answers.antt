use Rattle.std.proofs.Common.{ℕ, List, ◌∙◌, ap, replicate}
use Rattle.raw_cells.specs.Cells.{region_size}
use Rattle.raw_cells.specs.Inside.Layout.{heads_in}
use Rattle.raw_cells.proofs.Heads.{heads_new}
use Rattle.raw_cells.proofs.region.Region.new.Goals as goal

pub returns : goal.returns
returns c =
    let n = c.args.mbufs in let m = c.args.clusters in
    ap (λ (bs : List ℕ). record { heads = heads_in n bs; bytes = bs; clusters = m }) c.in_ok-block.ensures
    ∙ (λ i. record { heads = heads_new n (region_size n m) i; bytes = replicate (region_size n m) 0; clusters = m })
