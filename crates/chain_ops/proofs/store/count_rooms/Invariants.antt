use Rattle.std.proofs.Common.{◌≡◌, ◌+◌, ◌<◌, ◌≤◌, length}
use Rattle.std.specs.Prelude.{count_by}
use Rattle.flat_model.specs.Amounts.Layout.{filled, is_cluster}
use Rattle.chain_ops.proofs.store.count_rooms.Given as goal

abbrev pub invariant-rooms : goal.invariant-rooms
invariant-rooms l = record {
  small : 0 < l.small;
  mbufs : l.mbufs + length (filled l.left 2048 l.small l.left) ≡ length (filled l.n 2048 100 l.n);
  clusters : l.clusters + count_by is_cluster (filled l.left 2048 l.small l.left)
      ≡ count_by is_cluster (filled l.n 2048 100 l.n);
  few : l.mbufs + l.left ≤ l.n;
  some : l.clusters + l.left ≤ l.n;
}

abbrev pub decreases-rooms : goal.decreases-rooms
decreases-rooms l = l.left
