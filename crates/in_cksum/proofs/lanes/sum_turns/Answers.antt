use Rattle.std.proofs.Common.{◌∙◌, arith}
use Rattle.in_cksum.specs.Inside.{swapped_sum}
use Rattle.in_cksum.proofs.Numbers.{turn_folded, own_sum_folded}
use Rattle.in_cksum.proofs.Words.{swapped_sum_bound, swapped_sum_cut}
use Rattle.in_cksum.proofs.lanes.sum_turns.Goals as goal

pub add_blocks-requires-clause-fits : goal.add_blocks-requires-clause-fits
add_blocks-requires-clause-fits c =
    omega (
      arith,
      c.turns.invariant.fits,
      c.requires,
      swapped_sum_bound c.args.bytes.now c.type_inv.bytes,
      swapped_sum_cut c.split_at.result.0.now c.split_at.result.1.now c.turns.rest.now c.split_at.ensures.by_index.0
          (omega (arith, c.split_at.ensures.front_len)),
      swapped_sum_cut c.split_at-in-turns.result.0.now c.split_at-in-turns.result.1.now c.split_at.result.0.now
          c.split_at-in-turns.ensures.by_index.0 (omega (arith, c.split_at-in-turns.ensures.front_len)),
    )

pub turns-preserved : goal.turns-preserved
turns-preserved c =
    let cut =
    swapped_sum_cut c.split_at.result.0.now c.split_at.result.1.now c.turns.rest.now c.split_at.ensures.by_index.0
    (omega (arith, c.split_at.ensures.front_len)) in
    let halves =
    swapped_sum_cut c.split_at-in-turns.result.0.now c.split_at-in-turns.result.1.now c.split_at.result.0.now
    c.split_at-in-turns.ensures.by_index.0 (omega (arith, c.split_at-in-turns.ensures.front_len)) in
    record {
      folded =
          turn_folded _ _ _ _ (swapped_sum c.split_at-in-turns.result.0.now)
          (swapped_sum c.split_at-in-turns.result.1.now) (swapped_sum c.split_at.result.1.now) _
          c.add_blocks.ensures
          (own_sum_folded c.turns.sum c.add_numbers-numbers.result.0 c.add_numbers-numbers.result.1
          c.add_carrying-low.result.0 c.add_carrying-low.result.1 (swapped_sum c.split_at-in-turns.result.1.now)
          c.add_carrying-low.ensures.sum c.add_numbers-numbers.ensures.folded)
          (omega (arith, cut, halves))
          ∙ c.turns.invariant.folded;
      fits = omega (arith, c.turns.invariant.fits, c.add_blocks.ensures, cut, halves);
      small = omega (arith, c.add_carrying-low.ensures.fits.room);
    }

pub sum_lanes-requires : goal.sum_lanes-requires
sum_lanes-requires c =
    omega (arith, c.turns.invariant.fits, c.requires, swapped_sum_bound c.args.bytes.now c.type_inv.bytes)
