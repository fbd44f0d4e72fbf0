use Rattle.std.proofs.Common.{◌≡◌, ◌≤◌, ◌*◌}
use Rattle.std.specs.Prelude.{map, sum, fold, max}
use Rattle.std.specs.List.{range_with_len}
use Rattle.mbuf_pool.specs.Store.{cluster_count}
use Rattle.mbuf_pool.proofs.store.Store.counts.Given as goal

abbrev pub invariant-clusters : goal.invariant-clusters
invariant-clusters l = record {
  sum : l.sum ≡ sum (map (cluster_count l.self) (range_with_len 0 l.cluster));
  few : l.sum ≤ 65535 * l.cluster;
  greatest : l.greatest ≡ fold max 0 (map (cluster_count l.self) (range_with_len 0 l.cluster));
}
