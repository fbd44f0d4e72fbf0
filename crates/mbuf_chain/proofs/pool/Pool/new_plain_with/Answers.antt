use Rattle.std.proofs.Common.{◌≡◌, ◌<◌, None, length, arith, subst}
use Rattle.mbuf_pool.specs.Cells.{Head}
use Rattle.mbuf_pool.specs.Store.{mbufs_out}
use Rattle.mbuf_pool.proofs.Laws.{free_or_out}
use Rattle.mbuf_chain.specs.Chain.{PoolView, Adds, held_mbufs}
use Rattle.mbuf_chain.specs.Steps.{one_mbuf}
use Rattle.mbuf_chain.specs.Inside.Cells.{Taken, pool_of}
use Rattle.mbuf_chain.proofs.Made.{none_free, one_free}
use Rattle.mbuf_chain.proofs.Filled.{Blank, blank}
use Rattle.mbuf_chain.proofs.Stores.{taken}
use Rattle.mbuf_chain.proofs.pool.Pool.new_plain_with.Goals as goal
use Rattle.mbuf_chain.proofs.pool.Pool.new_plain_with.Goals.{In-Ok}

-- the new mbuf, before its bytes are written
made : (c : In-Ok)
    → Blank c.self.inside.store c.get_with.new.self c.in-Ok.first c.args.header c.args.start c.args.bytes.now
made c =
    blank c.self.inside.store c.get_with.new.self c.in-Ok.first c.args.header c.args.start c.args.bytes.now
    c.self.invariant
    (subst (λ (h : Head). Taken c.self.inside.store c.get_with.new.self c.in-Ok.first h) c.head_for-head.ensures
    (taken _ _ _ _ c.in-Ok.ensures.ok)) c.get_with.ensures.store c.requires.low c.requires.high

pub write_in-requires : goal.write_in-requires
write_in-requires c =
    let m = made (goal.at.write_in-requires c).In-Ok in
    record { can = m.can; cluster = m.cluster; low = m.low; high = m.high }

pub returns-in-Ok-clause-ok : goal.returns-in-Ok-clause-ok
returns-in-Ok-clause-ok c =
    subst (λ (p : PoolView). Adds p (pool_of c.write_in.new.store) c.in-Ok.first
    (one_mbuf c.args.header (record { bytes = c.args.bytes.now; start = c.args.start; cluster = None })
    c.in-Ok.first)) c.self.view_is
    ((made (goal.at.returns-in-Ok-clause-ok c).In-Ok).done c.write_in.new.store
    c.write_in.ensures.writes)

pub returns-in-Ok-clause-free : goal.returns-in-Ok-clause-free
returns-in-Ok-clause-free c =
    subst (λ (p : PoolView). held_mbufs p < p.mbufs) c.self.view_is
    (one_free _ _ _ _ c.self.invariant (taken _ _ _ _ c.in-Ok.ensures.ok))

pub returns-in-Err-clause-err : goal.returns-in-Err-clause-err
returns-in-Err-clause-err c =
    subst (λ (p : PoolView). held_mbufs p ≡ p.mbufs) c.self.view_is
    (let none : mbufs_out c.self.inside.store ≡ length c.self.inside.store.mbufs =
    omega (arith, free_or_out c.self.inside.store, c.in-Err.ensures.err) in
    none_free _ c.self.invariant none)
