use Rattle.std.proofs.Common.{◌≡◌, ◌+◌, ◌<◌, ◌∙◌, ap, arith, length}
use Rattle.std.proofs.lemmas.Option.{slice_get_within}
use Rattle.mbuf_pool.specs.Store.{StoreView, ClusterView, cluster_count}
use Rattle.mbuf_pool.proofs.Laws.{cluster_here, count_held, count_released}
use Rattle.callers.proofs.cluster_counts.free_again.Goals as goal

-- The cluster has two references, and one of them is released.
pub release-requires-in-Ok : goal.release-requires-in-Ok
release-requires-in-Ok c =
    let k = c.in-Ok.cluster in
    let taken = c.in-Ok.ensures.ok in
    let within : k < length c.in_ok-store.store.clusters =
    slice_get_within c.in_ok-store.store.clusters k _ taken.was_free in
    let one : cluster_count c.get_cluster.new.self k ≡ 1 =
    ap (λ (s : StoreView). cluster_count s k) taken.change
    ∙ ap (λ (v : ClusterView). v.count) (cluster_here c.in_ok-store.store k _ within) in
    let two : cluster_count c.hold.new.self k ≡ cluster_count c.get_cluster.new.self k + 1 =
    ap (λ (s : StoreView). cluster_count s k) c.hold.ensures.change
    ∙ count_held c.get_cluster.new.self k (omega (arith, one)) in
    let less = count_released c.hold.new.self k (omega (arith, one, two)) in
    omega (arith, ap (λ (s : StoreView). cluster_count s k) c.release.ensures.change, less, two, one)
