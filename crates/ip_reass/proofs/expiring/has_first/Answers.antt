use Rattle.std.proofs.Common.{sym, ◌∙◌}
use Rattle.ip_reass.specs.Fragments.{fragments}
use Rattle.ip_reass.proofs.Expiries.{seen_first, unseen_first}
use Rattle.ip_reass.proofs.expiring.has_first.Goals as goal

pub returns-in-Some : goal.returns-in-Some
returns-in-Some c =
    seen_first (fragments c.args.pool.now c.args.train.now) c.in-Some.range c.requires.apart c.requires.small
    (sym c.in-Some.is ∙ c.range_at.ensures)

pub returns-in-None : goal.returns-in-None
returns-in-None c =
    unseen_first (fragments c.args.pool.now c.args.train.now) c.requires.apart c.requires.small
    (sym c.in-None.is ∙ c.range_at.ensures)
