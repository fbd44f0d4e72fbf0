use Rattle.std.proofs.Common.{◌≡◌, ℕ, ◌+◌, ◌-◌, length, arith, ap, sym, ◌∙◌}
use Rattle.flat_model.specs.Amounts.Layout as Layout
use Rattle.flat_model.specs.Amounts.Layout.{Room, filled, is_cluster}
use Rattle.std.specs.Prelude.{count_by, List, []}
use Rattle.ip_out.specs.Inside.{later_parts}
use Rattle.ip_out.proofs.Counting.{over, over_none, Kind, kind_is, next_is, filled_none, short_is, long_is, short_clusters, long_clusters}
use Rattle.ip_out.proofs.needs.count.Goals as goal

pub returns-then-n-le-MAX_SHARED-clause-need : goal.returns-then-n-le-MAX_SHARED-clause-need
returns-then-n-le-MAX_SHARED-clause-need c =
    let mbufs =
    short_is c.args.n c.args.mtu _ _ _ (omega arith) c.later_of-chunk.ensures.counts c.later_met.ensures.value in
    let clusters = short_clusters c.args.n c.args.mtu (omega arith) in
    λ i. record { mbufs = mbufs i; clusters = sym clusters i }

pub rooms-init : goal.rooms-init
rooms-init c = record {
  left = omega arith;
  large = omega arith;
  small = omega arith;
  mbufs = long_is c.args.n c.args.mtu _ _ _ (omega arith) c.later_of-chunk.ensures.counts c.later_met-2.ensures.value;
  clusters = omega (arith, long_clusters c.args.n c.args.mtu (omega arith));
  few = omega (arith, c.later_of-chunk.ensures.most, c.later_met-2.ensures.most);
  some = omega arith;
}

pub rooms-preserved : goal.rooms-preserved
rooms-preserved c =
    let inv = c.rooms.invariant in
    let size : ℕ = c.next_room-size.result.0 in
    let one : ℕ = c.from-clusters.result in
    let kind : Kind c.rooms.left c.rooms.large c.rooms.small size one =
    kind_is c.rooms.left c.rooms.large c.rooms.small size one c.next_room-size.result.1 c.next_room-size.ensures.len
    c.next_room-size.ensures.cluster c.from-clusters.ensures in
    let next = next_is c.args.n c.args.mtu _ _ c.rooms.left c.rooms.large c.rooms.small size one _ inv.large inv.small
    (omega arith) inv.left kind c.later_of-chunk.ensures.counts c.later_met-in-rooms.ensures.value in
    record {
      left = omega (arith, inv.left);
      large = omega arith;
      small = omega arith;
      mbufs = omega (arith, inv.mbufs, next.mbufs);
      clusters = omega (arith, inv.clusters, next.clusters);
      few = omega (arith, inv.few, next.some, next.most, c.later_met-in-rooms.ensures.most, inv.left);
      some = omega (arith, inv.some, next.some, next.most, kind, inv.left);
    }

pub returns-clause-need : goal.returns-clause-need
returns-clause-need c =
    let inv = c.rooms.invariant in
    let z : c.rooms.left ≡ 0 = omega arith in
    let none : filled c.rooms.left c.rooms.large c.rooms.small c.rooms.left ≡ [] =
    ap (λ (k : ℕ). filled k c.rooms.large c.rooms.small k) z ∙ filled_none c.rooms.large c.rooms.small in
    let at : ℕ = 28 + (c.args.n - c.rooms.left) in
    let mbufs : c.rooms.mbufs ≡ (Layout.need c.args.n c.args.mtu).mbufs =
    omega (
      arith,
      inv.mbufs,
      ap (λ (rooms : List Room). length rooms
          + over rooms at (later_parts c.args.n c.args.mtu)) none,
      over_none at (later_parts c.args.n c.args.mtu),
    ) in
    let clusters : c.rooms.clusters ≡ (Layout.need c.args.n c.args.mtu).clusters =
    omega (arith, inv.clusters, ap (count_by is_cluster) none) in
    λ i. record { mbufs = mbufs i; clusters = clusters i }
