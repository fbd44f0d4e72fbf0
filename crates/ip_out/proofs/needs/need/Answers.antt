use Rattle.std.proofs.Common.{arith, sym}
use Rattle.ip_out.proofs.Counting.{need_one}
use Rattle.ip_out.proofs.needs.need.Goals as goal

pub returns-then-n-mtu : goal.returns-then-n-mtu
returns-then-n-mtu c =
    sym (need_one c.args.n c.args.mtu (omega (arith, c.if-n-le-MAX_SHARED.true)) (omega (arith, c.if-n-mtu.true)))
