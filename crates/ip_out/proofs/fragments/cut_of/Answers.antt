use Rattle.std.proofs.Common.{refl, arith, ◌-◌, ◌*◌, ◌/◌}
use Rattle.ip_out.proofs.Outputs.{cut_some}
use Rattle.ip_out.proofs.fragments.cut_of.Goals as goal

pub returns-clause-cut : goal.returns-clause-cut
returns-clause-cut c =
    cut_some c.args.n c.args.mtu ((c.args.mtu - 20) / 8 * 8) c.requires.least (omega arith) (omega arith) refl
