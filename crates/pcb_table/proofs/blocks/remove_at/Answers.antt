use Rattle.std.proofs.Common.{◌+◌, ◌<◌, ◌∙◌, ap, length, length-set, arith}
use Rattle.std.specs.Prelude.{remove}
use Rattle.pcb_table.proofs.Moved.{remove_moves}
use Rattle.pcb_table.proofs.blocks.remove_at.Goals as goal

pub loop-place-preserved : goal.loop-place-preserved
loop-place-preserved c =
    let bs = c.loop-place.blocks.items in
    let place = c.loop-place.place in
    let written = rw c.deref.ensures.0 at c.set_block.ensures in
    let more : place + 1 < length bs =
    omega (arith, c.loop-place.invariant.0, c.loop-place-test.true, c.len-last.ensures.value) in (
      ap length written ∙ length-set bs place _ ∙ c.loop-place.invariant.0,
      ap (λ cs. remove cs (place + 1)) written ∙ remove_moves bs place _ more ∙ c.loop-place.invariant.1,
    )
