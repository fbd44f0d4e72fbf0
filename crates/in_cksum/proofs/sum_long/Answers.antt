use Rattle.std.proofs.Common.{arith, ◌∙◌}
use Rattle.in_cksum.specs.Inside.{swapped_sum}
use Rattle.in_cksum.proofs.Numbers.{replaced}
use Rattle.in_cksum.proofs.Words.{swapped_sum_cut, swapped_part_added}
use Rattle.in_cksum.proofs.sum_long.Goals as goal

pub loop-rest-preserved : goal.loop-rest-preserved
loop-rest-preserved c =
    let part = c.split_at.result.0.now in
    let after = c.split_at.result.1.now in
    let cut =
    swapped_sum_cut part after c.loop-rest.rest.now c.split_at.ensures.by_index.0
    (omega (arith, c.split_at.ensures.front_len)) in
    rw (c.fold-total.ensures, replaced c.loop-rest.total c.sum_part.result (swapped_sum part) c.sum_part.ensures.folded)
    (swapped_part_added c.loop-rest.total part after c.loop-rest.rest.now cut ∙ c.loop-rest.invariant)

pub returns-clause-folded : goal.returns-clause-folded
returns-clause-folded c =
    replaced c.loop-rest.total c.sum_part-2.result (swapped_sum c.loop-rest.rest.now) c.sum_part-2.ensures.folded
    ∙ c.loop-rest.invariant
