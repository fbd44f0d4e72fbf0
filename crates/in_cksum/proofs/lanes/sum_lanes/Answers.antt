use Rattle.std.proofs.Common.{arith, w32}
use Rattle.std.proofs.lemmas.Simd.{sum_fits, fold-sum}
use lib.Lanes.{zip2}
use Rattle.in_cksum.specs.Inside.{low_of}
use Rattle.in_cksum.proofs.Wrapped.{lows_left}
use Rattle.in_cksum.proofs.lanes.sum_lanes.Goals as goal

pub overflow_add-result : goal.overflow_add-result
overflow_add-result c =
    rw (lows_left 8 c.args.all c.args.high c.fits-all.0 c.fits-high.0)
    (sum_fits w32 0 (zip2 low_of c.args.all c.args.high) (omega (arith, c.requires)))

pub overflow_add-result-2 : goal.overflow_add-result-2
overflow_add-result-2 c = sum_fits w32 0 c.args.high (omega (arith, c.requires))

pub overflow_add-result-3 : goal.overflow_add-result-3
overflow_add-result-3 c =
    rw (lows_left 8 c.args.all c.args.high c.fits-all.0 c.fits-high.0) record
    { fits = omega (arith, c.requires, fold-sum 0 (zip2 low_of c.args.all c.args.high), fold-sum 0 c.args.high) }

pub returns : goal.returns
returns c =
    rw (lows_left 8 c.args.all c.args.high c.fits-all.0 c.fits-high.0)
    (omega (arith, fold-sum 0 (zip2 low_of c.args.all c.args.high), fold-sum 0 c.args.high))
