use Rattle.std.proofs.Common.{◌+◌, ◌∙◌, arith}
use Rattle.in_cksum.proofs.Numbers.{next_folded, none_left}
use Rattle.in_cksum.proofs.Words.{swapped_sum_cut}
use Rattle.in_cksum.proofs.lanes.add_numbers.Goals as goal

pub numbers-preserved : goal.numbers-preserved
numbers-preserved c = record {
  folded =
      next_folded (c.numbers.sum + c.numbers.carry) (c.add_number.result.0 + c.add_number.result.1)
      c.split_at.result.0.now c.split_at.result.1.now c.numbers.rest.now c.add_number.ensures.folded
      (swapped_sum_cut c.split_at.result.0.now c.split_at.result.1.now c.numbers.rest.now
      c.split_at.ensures.by_index.0 (omega (arith, c.split_at.ensures.front_len)))
      ∙ c.numbers.invariant.folded;
  fits = c.add_number.ensures.fits;
  whole = omega (arith, c.numbers.invariant.whole, c.split_at.ensures.front_len, c.split_at.ensures.back_len);
}

pub returns : goal.returns
returns c = record {
  folded =
      none_left (c.numbers.sum + c.numbers.carry) c.numbers.rest.now (omega (arith, c.numbers.invariant.whole))
      ∙ c.numbers.invariant.folded;
  fits = c.numbers.invariant.fits;
}
