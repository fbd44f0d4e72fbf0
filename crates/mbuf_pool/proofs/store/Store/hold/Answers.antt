use Rattle.std.proofs.Common.{◌+◌, ◌∙◌, slice_set, arith}
use Rattle.mbuf_pool.specs.Store.{cluster_of, held_once_more, with_cluster}
use Rattle.mbuf_pool.proofs.Reading.{counted_index, count_read}
use Rattle.mbuf_pool.proofs.Effects.{hold_more, leaves_store}
use Rattle.mbuf_pool.proofs.Steps.{Leaves}
use Rattle.mbuf_pool.proofs.store.Store.hold.Goals as goal
use Rattle.mbuf_pool.proofs.store.Store.hold.Goals.{After-index_mut}

pub index_mut-requires : goal.index_mut-requires
index_mut-requires c =
    omega (
      arith,
      counted_index c.self.inside c.args.self.now c.self.invariant c.self.view_is c.args.cluster
          c.requires.counted,
    )

pub overflow_add-index_mut : goal.overflow_add-index_mut
overflow_add-index_mut c =
    omega (
      arith,
      count_read c.self.inside c.args.self.now c.self.invariant c.self.view_is c.args.cluster c.index_mut.result.now
          c.requires.counted,
      c.index_mut.ensures.value,
    )

-- the cluster has one reference more
held : (c : After-index_mut)
    → Leaves c.self.inside.region (slice_set c.self.inside.counts.items c.args.cluster (c.index_mut.result.now + 1))
    c.self.inside.first_mbuf c.self.inside.free_mbufs c.self.inside.first_cluster c.self.inside.free_clusters
    (with_cluster c.args.self.now c.args.cluster (held_once_more (cluster_of c.args.self.now c.args.cluster)))
held c =
    let is =
    c.index_mut.ensures.value ∙ count_read c.self.inside c.args.self.now c.self.invariant c.self.view_is c.args.cluster
    c.index_mut.result.now c.requires.counted in
    hold_more c.self.inside c.args.self.now c.self.invariant c.self.view_is c.args.cluster c.index_mut.result.now
    c.requires.counted is

pub invariant_of-self : goal.invariant_of-self
invariant_of-self c = (c.self.invariant.0, (held (goal.at.invariant_of-self c).After-index_mut).account)

pub returns-clause-change : goal.returns-clause-change
returns-clause-change c = (held (goal.at.returns-clause-change c).After-index_mut).seen

pub returns-clause-store : goal.returns-clause-store
returns-clause-store c = leaves_store (held (goal.at.returns-clause-store c).After-index_mut)
