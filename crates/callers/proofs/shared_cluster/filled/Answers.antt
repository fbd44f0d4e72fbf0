use Rattle.mbuf_chain.proofs.Laws.Steps.{filled}
use Rattle.mbuf_chain.proofs.Laws.Accounts.{unshared_new}
use Rattle.callers.proofs.shared_cluster.filled.Goals as goal

-- A cluster that was just allocated has one reference.
pub put_back-requires-clause-unshared : goal.put_back-requires-clause-unshared
put_back-requires-clause-unshared c =
    unshared_new _ _ _ c.in_ok-chain.ensures.ok.0 _ _ _ c.in_ok-chain.ensures.ok.3 c.in_ok-chain.ensures.ok.2
    c.first-at.ensures.index

pub returns-clause-ok : goal.returns-clause-ok
returns-clause-ok c = (_, filled _ _ _ _ _ _ _ _ c.in_ok-chain.ensures.ok.3 c.first-at.ensures.index c.put_back.ensures)
