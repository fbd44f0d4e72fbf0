use Rattle.std.proofs.Common.{arith, take, w32}
use Rattle.std.proofs.lemmas.Simd.{adds_fit}
use lib.Lanes.{number_l}
use Rattle.in_cksum.proofs.Blocks.{highs, block_sum, sum_of_two}
use Rattle.in_cksum.proofs.Wrapped.{wrap_step, sum_of_parts}
use Rattle.in_cksum.proofs.lanes.add_block.Goals as goal

pub overflow_add-result : goal.overflow_add-result
overflow_add-result c =
    let x = number_l 256 (take 32 c.args.block.now) in
    adds_fit w32 c.args.high (highs 8 x)
    (omega (arith, c.requires.fits, block_sum c.args.block.now c.requires.long c.type_inv.block))

pub returns : goal.returns
returns c =
    let x = number_l 256 (take 32 c.args.block.now) in
    let block = block_sum c.args.block.now c.requires.long c.type_inv.block in
    let low =
    wrap_step 8 c.args.all c.args.high x c.fits-all.0 c.fits-high.0 c.fits-all.1 c.fits-high.1
    (omega (arith, c.requires.fits, block)) in
    let high = sum_of_two c.args.high (highs 8 x) c.fits-high.0 in
    sum_of_parts _ _ _ _ _ _ _ low high block
