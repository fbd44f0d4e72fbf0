use Rattle.std.proofs.Common.{◌∙◌, sym, arith}
use Rattle.mbuf_pool.proofs.Reading.{free_clusters_are, store_is}
use Rattle.mbuf_pool.proofs.Effects.{first_cluster_index, get_cluster_left, no_cluster_free, leaves_store}
use Rattle.mbuf_pool.proofs.store.Store.get_cluster.Goals as goal

pub returns-in_default-clause-err : goal.returns-in_default-clause-err
returns-in_default-clause-err c =
    let s = c.self.inside in let v = c.args.self.now in
    sym (free_clusters_are s v c.self.invariant c.self.view_is)
    ∙ no_cluster_free s v c.self.invariant c.self.view_is (sym c.get.ensures ∙ c.in_default.is)

pub returns-in_default-clause-store : goal.returns-in_default-clause-store
returns-in_default-clause-store c = store_is c.self.inside c.args.self.now c.self.invariant c.self.view_is

pub next_cluster-requires : goal.next_cluster-requires
next_cluster-requires c =
    first_cluster_index c.self.inside c.args.self.now c.self.invariant c.self.view_is c.in-Some.cluster
    (sym c.get.ensures ∙ c.in-Some.is)

pub index_mut-requires : goal.index_mut-requires
index_mut-requires c =
    omega (
      arith,
      first_cluster_index c.self.inside c.args.self.now c.self.invariant c.self.view_is c.in-Some.cluster
          (sym c.get.ensures ∙ c.in-Some.is),
      c.self.invariant.1.2.counts_long,
    )

pub invariant_of-self : goal.invariant_of-self
invariant_of-self c = (
  c.self.invariant.0,
  (get_cluster_left c.self.inside c.args.self.now c.self.invariant c.self.view_is c.in-Some.cluster
      c.new-self-inside.result (sym c.get.ensures ∙ c.in-Some.is)
      (c.new-self-inside.ensures ∙ c.next_cluster.ensures.value)).0.account,
)

pub returns-clause-ok : goal.returns-clause-ok
returns-clause-ok c =
    (get_cluster_left c.self.inside c.args.self.now c.self.invariant c.self.view_is c.in-Some.cluster
    c.new-self-inside.result (sym c.get.ensures ∙ c.in-Some.is)
    (c.new-self-inside.ensures ∙ c.next_cluster.ensures.value)).1

pub returns-clause-store : goal.returns-clause-store
returns-clause-store c =
    leaves_store (get_cluster_left c.self.inside c.args.self.now c.self.invariant c.self.view_is c.in-Some.cluster
    c.new-self-inside.result (sym c.get.ensures ∙ c.in-Some.is)
    (c.new-self-inside.ensures ∙ c.next_cluster.ensures.value)).0
