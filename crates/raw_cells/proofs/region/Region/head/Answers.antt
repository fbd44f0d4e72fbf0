use Rattle.std.proofs.Common.{◌≡◌, ◌<◌, ◌*◌, ◌∙◌, ap, sym, subst, arith, length, take_all}
use Rattle.raw_cells.specs.Cells.{Cells, zero_head, cell_head, IsSized}
use Rattle.raw_cells.specs.Inside.Layout.{cell_head_in}
use Rattle.raw_cells.proofs.Heads.{length-heads, head_at}
use Rattle.raw_cells.proofs.Parts.{region_sized}
use Rattle.raw_cells.proofs.region.Region.head.Goals as goal

pub read_head-requires : goal.read_head-requires
read_head-requires c =
    let r = c.self.inside in let i = c.args.index in
    let whole : c.slice-all.result.now ≡ r.block =
    c.slice-all.ensures.value ∙ take_all c.len.result r.block (omega (arith, c.len.ensures)) in
    let lt = subst (λ (v : Cells). i < length v.heads) (sym c.self.view_is) c.requires in
    omega (arith, ap length whole, c.self.invariant.0, lt, length-heads r.mbufs r.block)

pub returns-clause-value : goal.returns-clause-value
returns-clause-value c =
    let r = c.self.inside in let i = c.args.index in
    let whole : c.slice-all.result.now ≡ r.block =
    c.slice-all.ensures.value ∙ take_all c.len.result r.block (omega (arith, c.len.ensures)) in
    let lt = subst (λ (v : Cells). i < length v.heads) (sym c.self.view_is) c.requires in
    c.read_head.ensures.head ∙ ap (λ l. cell_head_in l (128 * i)) whole
    ∙ sym (head_at r.mbufs r.block i zero_head (omega (arith, lt, length-heads r.mbufs r.block)))
    ∙ ap (λ (v : Cells). cell_head v i) c.self.view_is

pub returns-clause-sized : goal.returns-clause-sized
returns-clause-sized c = subst IsSized c.self.view_is (region_sized c.self.inside c.self.invariant)
