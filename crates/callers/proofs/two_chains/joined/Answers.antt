use Rattle.chain_ops.proofs.Laws.Makes.{live_made}
use Rattle.callers.proofs.two_chains.joined.Goals as goal

pub len-len-requires : goal.len-len-requires
len-len-requires c = live_made c.m_cat.ensures.makes
