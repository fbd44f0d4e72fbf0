use Rattle.std.proofs.Common.{subst}
use Rattle.mbuf_chain.specs.Frames.{IsBounded}
use Rattle.mbuf_chain.proofs.Bounds.{bounded}
use Rattle.mbuf_chain.proofs.pool.Pool.laws.Goals as goal

pub returns : goal.returns
returns c = subst IsBounded c.self.view_is (bounded c.self.inside.store c.self.invariant)
