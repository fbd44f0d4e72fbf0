use Rattle.std.proofs.Common.{◌≡◌, ◌+◌, ◌-◌, ◌*◌, ◌<◌, ◌≤◌, length}
use Rattle.std.specs.Prelude.{count_by}
use Rattle.flat_model.specs.Amounts.Layout as Layout
use Rattle.flat_model.specs.Amounts.Layout.{filled, is_cluster}
use Rattle.ip_out.specs.Inside.{later_parts}
use Rattle.ip_out.proofs.Counting.{over}
use Rattle.ip_out.proofs.needs.count.Given as goal

abbrev pub invariant-rooms : goal.invariant-rooms
invariant-rooms l = record {
  left : l.left ≤ l.n;
  large : 0 < l.large;
  small : 0 < l.small;
  mbufs : l.mbufs + (length (filled l.left l.large l.small l.left)
      + over (filled l.left l.large l.small l.left) (28 + (l.n - l.left)) (later_parts l.n l.mtu)) ≡ (Layout.need l.n
      l.mtu).mbufs;
  clusters : l.clusters + count_by is_cluster (filled l.left l.large l.small l.left) ≡ (Layout.need l.n l.mtu).clusters;
  few : l.mbufs ≤ 70000 + 2732 * (l.n - l.left);
  some : l.clusters ≤ l.n - l.left;
}

abbrev pub decreases-rooms : goal.decreases-rooms
decreases-rooms l = l.left
