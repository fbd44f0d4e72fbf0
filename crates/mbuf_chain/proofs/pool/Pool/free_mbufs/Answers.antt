use Rattle.std.proofs.Common.{◌≡◌, ◌+◌, arith, subst}
use Rattle.mbuf_chain.specs.Chain.{PoolView, held_mbufs}
use Rattle.mbuf_chain.specs.Frames.{IsBounded}
use Rattle.mbuf_chain.proofs.Bounds.{bounded}
use Rattle.mbuf_chain.proofs.Changes.{held_is}
use Rattle.mbuf_chain.proofs.pool.Pool.free_mbufs.Goals as goal

pub returns-clause-free : goal.returns-clause-free
returns-clause-free c =
    subst (λ (p : PoolView). c.free_mbufs.result + held_mbufs p ≡ p.mbufs) c.self.view_is
    (omega (arith, held_is c.self.inside.store c.self.invariant.0 c.self.invariant.1, c.free_mbufs.ensures.rest))

pub returns-clause-bounds : goal.returns-clause-bounds
returns-clause-bounds c = subst IsBounded c.self.view_is (bounded c.self.inside.store c.self.invariant)
