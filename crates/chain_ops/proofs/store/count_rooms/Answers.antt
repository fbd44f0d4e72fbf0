use Rattle.std.proofs.Common.{◌≡◌, ℕ, max, List, [], length, sym, ap, ◌∙◌, arith}
use Rattle.std.specs.Prelude.{count_by}
use Rattle.flat_model.specs.Amounts.Layout.{Room, filled, is_cluster}
use Rattle.chain_ops.proofs.Needed.{cluster_is, none_left, need_is, next_is, some_mbuf}
use Rattle.chain_ops.proofs.store.count_rooms.Goals as goal

pub rooms-preserved : goal.rooms-preserved
rooms-preserved c =
    let inv = c.rooms.invariant in
    let next =
    next_is c.rooms.small c.rooms.left c.next_room-size.result.0 c.from-clusters.result inv.small (omega arith)
    c.next_room-size.ensures.len (c.from-clusters.ensures
    ∙ cluster_is c.rooms.small c.rooms.left c.next_room-size.result.1 c.next_room-size.ensures.cluster) in
    record {
      small = omega arith;
      mbufs = omega (arith, inv.mbufs, next.mbufs);
      clusters = omega (arith, inv.clusters, next.clusters);
      few = omega (arith, inv.few, next.some, next.most);
      some = omega (arith, inv.some, next.some, next.most, next.one);
    }

pub returns : goal.returns
returns c =
    let inv = c.rooms.invariant in
    let z : c.rooms.left ≡ 0 = omega arith in
    let none : filled c.rooms.left 2048 c.rooms.small c.rooms.left ≡ [] =
    ap (λ (k : ℕ). filled k 2048 c.rooms.small k) z ∙ none_left c.rooms.small in
    let all : c.rooms.mbufs ≡ length (filled c.args.n 2048 100 c.args.n) =
    omega (arith, inv.mbufs, ap (λ (rooms : List Room). length rooms) none) in
    let mbufs : c.rooms.mbufs ≡ max (length (filled c.args.n 2048 100 c.args.n)) 1 =
    omega (arith, all, some_mbuf c.args.n (omega arith)) in
    let clusters : c.rooms.clusters ≡ count_by is_cluster (filled c.args.n 2048 100 c.args.n) =
    omega (arith, inv.clusters, ap (count_by is_cluster) none) in
    (λ i. record { mbufs = mbufs i; clusters = clusters i }) ∙ sym (need_is c.args.n)
