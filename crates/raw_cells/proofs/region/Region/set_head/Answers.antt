use Rattle.std.proofs.Common.{◌≡◌, ◌<◌, ◌≤◌, ◌∙◌, ap, sym, subst, ◌+◌, ◌*◌, take, drop, length, arith, length-take-le, length-drop}
use Rattle.std.proofs.lemmas.List.{take-take}
use Rattle.raw_cells.specs.Over.{over}
use Rattle.raw_cells.specs.Cells.{Cells, IsSized, head_size, with_head}
use Rattle.raw_cells.specs.Inside.Layout.{cells_of}
use Rattle.raw_cells.proofs.Heads.{length-heads, head_size_le, head_written}
use Rattle.raw_cells.proofs.Parts.{region_sized}
use Rattle.raw_cells.proofs.Laws.{sized_after_head}
use Rattle.raw_cells.proofs.region.Region.set_head.Goals as goal

pub slice_mut-requires : goal.slice_mut-requires
slice_mut-requires c =
    let r = c.self.inside in let i = c.args.index in
    let lt = subst (λ (v : Cells). i < length v.heads) (sym c.self.view_is) c.requires.index in
    omega (
      arith,
      c.self.invariant.0,
      lt,
      length-heads r.mbufs r.block,
      head_size_le c.args.head,
      c.head_len-len.ensures,
    )

pub copy_head-requires : goal.copy_head-requires
copy_head-requires c =
    let r = c.self.inside in let i = c.args.index in let n = c.head_len-len.result in
    let lt = subst (λ (v : Cells). i < length v.heads) (sym c.self.view_is) c.requires.index in
    let small = head_size_le c.args.head in
    let fits : 128 * i + n ≤ length r.block =
    omega (arith, c.self.invariant.0, lt, length-heads r.mbufs r.block, small, c.head_len-len.ensures) in
    record {
      sized = ap length c.slice_mut.ensures.value
          ∙ length-take-le n (drop (128 * i) r.block) (omega (arith, length-drop (128 * i) r.block))
          ∙ c.head_len-len.ensures;
    }

pub returns-clause-change : goal.returns-clause-change
returns-clause-change c =
    let r = c.self.inside in let i = c.args.index in let n = c.head_len-len.result in let h = c.args.head in
    let enc = c.encode-bytes.result in
    let lt = subst (λ (v : Cells). i < length v.heads) (sym c.self.view_is) c.requires.index in
    let here : i < r.mbufs = omega (arith, lt, length-heads r.mbufs r.block) in
    let long : length enc ≡ 32 = c.encode-bytes.ensures.len in
    let b = take (head_size h) enc in
    let is : take n c.copy_head.new.buffer ≡ b =
    ap (take n) c.copy_head.ensures ∙ take-take n (head_size h) enc (omega (arith, c.head_len-len.ensures))
    ∙ ap (λ k. take k enc) c.head_len-len.ensures in (
      b,
      length-take-le (head_size h) enc (omega (arith, head_size_le h)),
      (λ t. cells_of (record r { block = over r.block (128 * i) (is t) }))
          ∙ (λ t. record {
            heads = head_written r.block enc r.mbufs i h here (omega (arith, c.self.invariant.0)) long
                c.encode-bytes.ensures.decoded t;
            bytes = over r.block (128 * i) b;
            clusters = r.clusters;
          })
          ∙ ap (λ (v : Cells). with_head v i h b) c.self.view_is,
    )

pub returns-clause-sized : goal.returns-clause-sized
returns-clause-sized c =
    let r = c.self.inside in let old = c.args.self.now in
    sized_after_head old _ c.args.index c.args.head (subst IsSized c.self.view_is (region_sized r c.self.invariant))
    c.requires.index (returns-clause-change c)
