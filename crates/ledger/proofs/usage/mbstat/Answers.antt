use Rattle.std.proofs.Common.{◌∙◌}
use Rattle.ledger.proofs.Shown.{usage_is}
use Rattle.ledger.proofs.usage.mbstat.Goals as goal

pub returns : goal.returns
returns c = λ s a.
    let u = c.usage-usage.ensures in
    (λ i. record {
      free_mbufs = c.usage-usage.result.free_mbufs;
      mbufs = u.mbufs i;
      free_clusters = u.free_clusters i;
      clusters = u.clusters i;
      refs = u.references i;
      most = u.greatest i;
    })
    ∙ usage_is c.args.pool.now s c.usage-usage.result.free_mbufs a u.free_mbufs
