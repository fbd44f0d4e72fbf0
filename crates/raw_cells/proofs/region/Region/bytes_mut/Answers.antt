use Rattle.std.proofs.Common.{refl, sym, subst, ap, ◌∙◌, take, drop}
use Rattle.raw_cells.specs.Over.{over}
use Rattle.raw_cells.specs.Cells.{Cells, IsCellPart, cells_written, read, IsSized}
use Rattle.raw_cells.specs.Inside.Layout.{cells_of}
use Rattle.raw_cells.proofs.Parts.{part_written, region_sized}
use Rattle.raw_cells.proofs.region.Region.bytes_mut.Goals as goal

pub returns : goal.returns
returns c =
    let r = c.self.inside in let p = c.args.part in
    let at = c.start-at.ensures.at in
    let is = subst (λ (v : Cells). IsCellPart v p) (sym c.self.view_is) c.requires in (
      (
        refl,
        λ w.
            (λ i. cells_of (record r { block = over r.block (at i) (take p.len w) }))
            ∙ part_written r c.self.invariant p is w
            ∙ ap (λ (v : Cells). cells_written v p w) c.self.view_is,
      ),
      record {
        writes_back = tt;
        value =
            c.slice_mut.ensures.value
            ∙ (λ i. take p.len (drop (at i) r.block))
            ∙ ap (λ (v : Cells). read v p) c.self.view_is;
        len = c.slice_mut.ensures.len;
        sized = subst IsSized c.self.view_is (region_sized r c.self.invariant);
      },
    )
