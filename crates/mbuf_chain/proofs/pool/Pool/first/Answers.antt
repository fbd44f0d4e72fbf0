use Rattle.std.proofs.Common.{ℕ, sym, subst}
use Rattle.mbuf_chain.specs.Chain.{PoolView, IsLive, IsPlace, chain_of}
use Rattle.mbuf_chain.proofs.Places.{first_place}
use Rattle.mbuf_chain.proofs.pool.Pool.first.Goals as goal

pub returns-clause-place : goal.returns-clause-place
returns-clause-place c =
    subst (λ (k : ℕ). IsPlace (chain_of c.args.self.now c.args.chain.now) (record { index = 0; cell = k }))
    (sym c.chain.view_is)
    (subst (λ (p : PoolView). IsPlace (chain_of p c.args.chain.now) (record { index = 0; cell = c.args.chain.now }))
    c.self.view_is
    (first_place c.self.inside.store c.args.chain.now c.self.invariant
    (subst (λ (p : PoolView). IsLive p c.args.chain.now) (sym c.self.view_is) c.requires)))
