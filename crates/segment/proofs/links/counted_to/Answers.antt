use Rattle.std.proofs.Common.{◌∙◌, ap, cond, sym, arith}
use Rattle.segment.specs.Frames.{frame_goes_to}
use Rattle.segment.specs.Tallies.{with_one}
use Rattle.segment.proofs.Delivering.{counted_one}
use Rattle.segment.proofs.links.counted_to.Goals as goal
use Rattle.segment.proofs.links.counted_to.Goals.{then-is_addressed, else-is_addressed}

pub loop-at-preserved : goal.loop-at-preserved
loop-at-preserved c =
    let t = c.loop-at.tally in
    counted_one (frame_goes_to c.args.place c.args.mac) c.loop-at.at c.args.due.now c.index-due-at.result c.args.before
    t c.if-is_addressed.tally c.is_addressed.result (omega arith) c.index-due-at.is c.loop-at.invariant
    c.is_addressed.ensures
    (elim c.if-is_addressed.branch [
      | then-is_addressed w ↦ w.tally-is ∙ w.with_one-tally.ensures ∙ ap (λ b. cond b (with_one t) t)
          (sym w.if-is_addressed.true)
      | else-is_addressed w ↦ w.tally-is ∙ ap (λ b. cond b (with_one t) t) (sym w.if-is_addressed.false)
    ])
