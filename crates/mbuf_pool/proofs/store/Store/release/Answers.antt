use Rattle.std.proofs.Common.{ℕ, ◌+◌, ◌-◌, Option, Some, ◌∙◌, ap, sym, arith, length, slice_set}
use Rattle.raw_cells.specs.Cells.{Cells, cells_written}
use Rattle.mbuf_pool.specs.Inside.Link.{link_part, link_bytes}
use Rattle.mbuf_pool.specs.Store.{cluster_of, released, with_cluster}
use Rattle.mbuf_pool.proofs.Reading.{counted_index, count_read, cluster_index_is, few_clusters}
use Rattle.mbuf_pool.proofs.Effects.{first_cluster_is, hold_less, give_back_as, leaves_store}
use Rattle.mbuf_pool.proofs.Steps.{Leaves}
use Rattle.mbuf_pool.proofs.store.Store.release.Goals as goal
use Rattle.mbuf_pool.proofs.store.Store.release.Goals.{After-set_next_cluster, Else-left-eq-FREE}

pub index-requires : goal.index-requires
index-requires c =
    omega (arith, counted_index c.self.inside c.args.self.now c.self.invariant c.self.view_is c.args.cluster c.requires)

pub overflow_sub-left : goal.overflow_sub-left
overflow_sub-left c =
    omega (
      arith,
      c.index.ensures,
      count_read c.self.inside c.args.self.now c.self.invariant c.self.view_is
          c.args.cluster c.index.result.now c.requires,
    )

pub index_mut-requires : goal.index_mut-requires
index_mut-requires c =
    omega (arith, counted_index c.self.inside c.args.self.now c.self.invariant c.self.view_is c.args.cluster c.requires)

pub set_next_cluster-requires : goal.set_next_cluster-requires
set_next_cluster-requires c =
    cluster_index_is c.self.inside c.args.self.now c.self.invariant c.self.view_is c.args.cluster c.requires

pub new-self-inside-requires : goal.new-self-inside-requires
new-self-inside-requires c =
    omega (
      arith,
      cluster_index_is c.self.inside c.args.self.now c.self.invariant c.self.view_is c.args.cluster
          c.requires,
      c.self.invariant.1.2.sized.clusters,
    )

pub overflow_add-self : goal.overflow_add-self
overflow_add-self c = omega (arith, few_clusters c.self.inside c.self.invariant)

-- the cluster is free, and the first of the free ones
freed : (c : After-set_next_cluster)
    → Leaves c.set_next_cluster.new.region
    (slice_set c.self.inside.counts.items c.args.cluster (c.index.result.now - 1))
    c.self.inside.first_mbuf c.self.inside.free_mbufs (Some c.args.cluster) (c.self.inside.free_clusters + 1)
    (with_cluster c.args.self.now c.args.cluster (released (cluster_of c.args.self.now c.args.cluster)))
freed c =
    let s = c.self.inside in let v = c.args.self.now in
    let is =
    c.index.ensures ∙ count_read s v c.self.invariant c.self.view_is c.args.cluster c.index.result.now c.requires in
    let linked =
    c.set_next_cluster.ensures ∙ ap
    (λ (f : Option ℕ). cells_written c.self.inside.region (link_part c.args.cluster) (link_bytes f)) c.get.ensures in
    give_back_as s v c.self.invariant c.self.view_is c.args.cluster (c.index.result.now - 1)
    c.set_next_cluster.new.region (omega (arith, is, c.requires)) (omega arith) linked

pub invariant_of-self : goal.invariant_of-self
invariant_of-self c = (
  c.self.invariant.0 ∙ sym (ap (λ (x : Cells). length x.heads) c.set_next_cluster.ensures),
  (first_cluster_is c.new-self-inside.ensures (freed (goal.at.invariant_of-self c).After-set_next_cluster)).account,
)

pub returns-then-left-eq-FREE-clause-change : goal.returns-then-left-eq-FREE-clause-change
returns-then-left-eq-FREE-clause-change c =
    let at = goal.at.returns-then-left-eq-FREE-clause-change c in
    (first_cluster_is c.new-self-inside.ensures (freed at.After-set_next_cluster)).seen

pub returns-then-left-eq-FREE-clause-store : goal.returns-then-left-eq-FREE-clause-store
returns-then-left-eq-FREE-clause-store c =
    let at = goal.at.returns-then-left-eq-FREE-clause-store c in
    leaves_store (first_cluster_is c.new-self-inside.ensures (freed at.After-set_next_cluster))

-- the cluster stays in use
kept : (c : Else-left-eq-FREE)
    → Leaves c.self.inside.region (slice_set c.self.inside.counts.items c.args.cluster (c.index.result.now - 1))
    c.self.inside.first_mbuf c.self.inside.free_mbufs c.self.inside.first_cluster c.self.inside.free_clusters
    (with_cluster c.args.self.now c.args.cluster (released (cluster_of c.args.self.now c.args.cluster)))
kept c =
    let is =
    c.index.ensures ∙ count_read c.self.inside c.args.self.now c.self.invariant c.self.view_is c.args.cluster
    c.index.result.now c.requires in
    hold_less c.self.inside c.args.self.now c.self.invariant c.self.view_is c.args.cluster (c.index.result.now - 1)
    c.requires (omega (arith, is, c.requires)) (omega arith)

pub returns-else-left-eq-FREE-clause-change : goal.returns-else-left-eq-FREE-clause-change
returns-else-left-eq-FREE-clause-change c =
    (kept (goal.at.returns-else-left-eq-FREE-clause-change c).Else-left-eq-FREE).seen

pub returns-else-left-eq-FREE-clause-store : goal.returns-else-left-eq-FREE-clause-store
returns-else-left-eq-FREE-clause-store c =
    leaves_store (kept (goal.at.returns-else-left-eq-FREE-clause-store c).Else-left-eq-FREE)
