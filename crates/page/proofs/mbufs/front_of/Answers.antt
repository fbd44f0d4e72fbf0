use Rattle.std.proofs.Common.{sym, take_all, length-take-le, arith}
use Rattle.page.proofs.mbufs.front_of.Goals as goal

pub slice_bounds-result-end : goal.slice_bounds-result-end
slice_bounds-result-end c = sym (length-take-le 32 c.args.bytes.now (omega (arith, c.if-bytes-le-SHOWN.false)))

pub returns-then-bytes-le-SHOWN-clause-front : goal.returns-then-bytes-le-SHOWN-clause-front
returns-then-bytes-le-SHOWN-clause-front c =
    sym (take_all 32 c.args.bytes.now (omega (arith, c.if-bytes-le-SHOWN.true)))

pub returns-else-bytes-le-SHOWN-clause-short : goal.returns-else-bytes-le-SHOWN-clause-short
returns-else-bytes-le-SHOWN-clause-short c =
    omega (arith, length-take-le 32 c.args.bytes.now (omega (arith, c.if-bytes-le-SHOWN.false)))
