use Rattle.std.proofs.Common.{ap, sym, ◌∙◌, arith}
use Rattle.capture.specs.Blocks.{head_of}
use Rattle.capture.proofs.Sections.{block_loaded}
use Rattle.capture.proofs.section.load_block.Goals as goal

pub returns-in-Ok-fill : goal.returns-in-Ok-fill
returns-in-Ok-fill g c =
    let head = ap (head_of c.args.current) (sym c.as_slice.ensures) ∙ sym c.in-Ok.ensures.found in
    block_loaded c.args.current _ _ _ _ _ _ c.in-Ok._order c.in-Ok.len c.fill.ensures.read c.fill-2.ensures.read
    (omega arith) head c.in-Ok-fill.ensures.most c.in-Ok-fill.ensures.ended
