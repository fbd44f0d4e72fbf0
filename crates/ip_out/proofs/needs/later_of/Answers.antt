use Rattle.std.proofs.Common.{ℕ, ◌-◌, arith, sym, subst}
use Rattle.ip_out.specs.Inside.{Counts}
use Rattle.ip_out.proofs.Counting.{counts_none, counts_some}
use Rattle.ip_out.proofs.needs.later_of.Goals as goal

pub returns-then-n-mtu-clause-counts : goal.returns-then-n-mtu-clause-counts
returns-then-n-mtu-clause-counts c = counts_none c.args.n c.args.mtu c.requires.short (omega arith)

pub returns-clause-counts : goal.returns-clause-counts
returns-clause-counts c =
    subst (λ (k : ℕ). Counts c.args.n c.args.mtu c.cut_of-cut.result.chunk (k - 1)) (sym c.cut_of-cut.ensures.count)
    (counts_some c.args.n c.args.mtu c.cut_of-cut.result.chunk c.requires.short c.requires.least (omega arith)
    c.cut_of-cut.ensures.chunk)
