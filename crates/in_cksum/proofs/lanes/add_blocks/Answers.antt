use Rattle.std.proofs.Common.{arith}
use Rattle.in_cksum.proofs.Words.{swapped_sum_cut, swapped_sum_none}
use Rattle.in_cksum.proofs.lanes.add_blocks.Goals as goal

pub add_block-requires-clause-fits : goal.add_block-requires-clause-fits
add_block-requires-clause-fits c =
    omega (
      arith,
      c.requires.fits,
      c.lanes.invariant.total,
      swapped_sum_cut c.split_at.result.0.now c.split_at.result.1.now c.lanes.rest.now
          c.split_at.ensures.by_index.0 (omega (arith, c.split_at.ensures.front_len)),
    )

pub lanes-preserved : goal.lanes-preserved
lanes-preserved c = record {
  total =
      omega (
        arith,
        c.add_block.ensures,
        c.lanes.invariant.total,
        swapped_sum_cut c.split_at.result.0.now c.split_at.result.1.now c.lanes.rest.now
            c.split_at.ensures.by_index.0 (omega (arith, c.split_at.ensures.front_len)),
      );
  whole = omega (arith, c.lanes.invariant.whole, c.split_at.ensures.front_len, c.split_at.ensures.back_len);
}

pub returns : goal.returns
returns c =
    omega (
      arith,
      c.lanes.invariant.total,
      swapped_sum_none c.lanes.rest.now (omega (arith, c.lanes.invariant.whole)),
    )
