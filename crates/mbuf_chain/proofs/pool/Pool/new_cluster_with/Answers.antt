use Rattle.std.proofs.Common.{◌≡◌, ℕ, ◌<◌, Some, inl, inr, arith, sym, ap, subst, ◌∙◌, length}
use Rattle.std.proofs.lemmas.Option.{slice_get_within}
use Rattle.mbuf_pool.specs.Cells.{Head}
use Rattle.mbuf_pool.specs.Store.{StoreView, mbufs_out}
use Rattle.mbuf_pool.proofs.Laws.{free_or_out}
use Rattle.mbuf_chain.specs.Chain.{PoolView, Adds, free_clusters, LacksForCluster, held_mbufs, references}
use Rattle.mbuf_chain.specs.Steps.{one_mbuf}
use Rattle.mbuf_chain.specs.Inside.Cells.{Taken, IsPool, pool_of}
use Rattle.mbuf_chain.proofs.Made.{none_free, one_free_beside, given_back, cluster_free, free_are, was_unreferenced}
use Rattle.mbuf_chain.proofs.Stores.{taken}
use Rattle.mbuf_chain.proofs.FilledCluster.{Blank, blank}
use Rattle.mbuf_chain.proofs.pool.Pool.new_cluster_with.Goals as goal
use Rattle.mbuf_chain.proofs.pool.Pool.new_cluster_with.Goals.{In-Ok-get_with}

-- the new mbuf, before its bytes are written
made : (c : In-Ok-get_with)
    → Blank c.self.inside.store c.get_with.new.self c.in-Ok-get_with.first c.in-Ok.cluster c.args.header c.args.start
    c.args.bytes.now
made c =
    blank c.self.inside.store c.get_cluster.new.self c.get_with.new.self c.in-Ok-get_with.first c.in-Ok.cluster
    c.args.header
    c.args.start c.args.bytes.now c.self.invariant c.in-Ok.ensures.ok
    (was_unreferenced _ _ _ c.self.invariant c.in-Ok.ensures.ok)
    (subst (λ (h : Head). Taken c.get_cluster.new.self c.get_with.new.self c.in-Ok-get_with.first h)
    c.head_for-head.ensures
    (taken _ _ _ _ c.in-Ok-get_with.ensures.ok)) c.get_with.ensures.store c.requires

pub write_in-requires : goal.write_in-requires
write_in-requires c =
    let m = made (goal.at.write_in-requires c).In-Ok-get_with in
    record { can = m.can; cluster = m.cluster; low = m.low; high = m.high }

pub returns-in-Ok-get_with-clause-ok : goal.returns-in-Ok-get_with-clause-ok
returns-in-Ok-get_with-clause-ok c =
    subst (λ (p : PoolView). (d : ℕ) × (d < p.clusters) × (references p d ≡ 0)
    × Adds p (pool_of c.write_in.new.store) c.in-Ok-get_with.first
    (one_mbuf c.args.header (record { bytes = c.args.bytes.now; start = c.args.start; cluster = Some d })
    c.in-Ok-get_with.first)) c.self.view_is
    ((
      c.in-Ok.cluster,
      slice_get_within _ _ _ c.in-Ok.ensures.ok.was_free,
      was_unreferenced _ _ _ c.self.invariant c.in-Ok.ensures.ok,
      (made (goal.at.returns-in-Ok-get_with-clause-ok c).In-Ok-get_with).done c.write_in.new.store
          c.write_in.ensures.writes,
    ))

pub returns-in-Err-clause-err : goal.returns-in-Err-clause-err
returns-in-Err-clause-err c =
    subst LacksForCluster c.self.view_is (inr (free_are _ c.self.invariant ∙ c.in-Err.ensures.err))

pub returns-in-Ok-get_with-clause-free : goal.returns-in-Ok-get_with-clause-free
returns-in-Ok-get_with-clause-free c =
    subst (λ (p : PoolView). held_mbufs p < p.mbufs) c.self.view_is
    (one_free_beside _ _ _ _ _ _ c.self.invariant c.in-Ok.ensures.ok (taken _ _ _ _ c.in-Ok-get_with.ensures.ok))

pub returns-in-Ok-get_with-clause-cluster : goal.returns-in-Ok-get_with-clause-cluster
returns-in-Ok-get_with-clause-cluster c =
    subst (λ (p : PoolView). 0 < free_clusters p) c.self.view_is
    (cluster_free _ _ _ c.self.invariant c.in-Ok.ensures.ok)

pub invariant_of-self-in-Err-get_with : goal.invariant_of-self-in-Err-get_with
invariant_of-self-in-Err-get_with c =
    subst IsPool (sym (given_back _ _ _ _ _ c.in-Ok.ensures.ok c.in-Err-get_with.ensures.same c.release.ensures.change))
    c.self.invariant

pub returns-in-Err-get_with-clause-err : goal.returns-in-Err-get_with-clause-err
returns-in-Err-get_with-clause-err c =
    subst LacksForCluster c.self.view_is
    (let none : mbufs_out c.get_cluster.new.self ≡ length c.get_cluster.new.self.mbufs =
    omega (arith, free_or_out c.get_cluster.new.self, c.in-Err-get_with.ensures.err) in
    inl (none_free _ c.self.invariant (
    ap mbufs_out (sym c.in-Ok.ensures.ok.change) ∙ none
    ∙ ap (λ (v : StoreView). length v.mbufs) c.in-Ok.ensures.ok.change
    )))

pub returns-in-Err-get_with-clause-same : goal.returns-in-Err-get_with-clause-same
returns-in-Err-get_with-clause-same c =
    ap pool_of (given_back _ _ _ _ _ c.in-Ok.ensures.ok c.in-Err-get_with.ensures.same c.release.ensures.change)
    ∙ c.self.view_is
