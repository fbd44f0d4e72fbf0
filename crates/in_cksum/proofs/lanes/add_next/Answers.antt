use Rattle.std.proofs.Common.{◌+◌, inr, arith}
use Rattle.in_cksum.proofs.Numbers.{next_folded}
use Rattle.in_cksum.proofs.Words.{swapped_sum_cut}
use Rattle.in_cksum.proofs.lanes.add_next.Goals as goal

pub returns : goal.returns
returns c = record {
  folded =
      next_folded c.args.sum (c.add_numbers-low.result.0 + c.add_numbers-low.result.1) c.split_at.result.0.now
      c.split_at.result.1.now c.args.bytes.now c.add_numbers-low.ensures.folded
      (swapped_sum_cut c.split_at.result.0.now c.split_at.result.1.now c.args.bytes.now
      c.split_at.ensures.by_index.0 (omega (arith, c.requires, c.split_at.ensures.front_len)));
  left = inr (omega (arith, c.split_at.ensures.front_len, c.split_at.ensures.back_len));
}
