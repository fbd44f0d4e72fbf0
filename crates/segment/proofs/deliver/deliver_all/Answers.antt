use Rattle.std.proofs.Common.{◌≡◌, ◌+◌, [], length, map, take, arith}
use Rattle.std.specs.Prelude.{slice_get}
use Rattle.net_stack.specs.Runs.{AreCalls}
use Rattle.segment.specs.Flying.{comes}
use Rattle.segment.specs.Inside.{arriving_at, flying}
use Rattle.segment.specs.Segment.{received_in}
use Rattle.segment.specs.Tallies.{with_received}
use Rattle.segment.proofs.Delivering.{each_same, each_then, none_came, none_counted, one_came, one_counted}
use Rattle.segment.proofs.deliver.deliver_all.Goals as goal

pub loop-number-init : goal.loop-number-init
loop-number-init g c =
    let configs = c.args.directory.now.configs.items in
    record {
      counted =
          each_same
          (λ place t u. u ≡ with_received (length (received_in place (slice_get configs place) [])) t)
          (λ place t. none_counted place (slice_get configs place) t) c.args.tallies.now.items;
      hosts =
          each_same (λ place s t. AreCalls s (comes (received_in place (slice_get configs place) [])) t)
          (λ place s. none_came place (slice_get configs place) s) c.args.stacks.now.items;
    }

pub loop-number-preserved : goal.loop-number-preserved
loop-number-preserved g c =
    let configs = c.args.directory.now.configs.items in
    let all = c.args.all.now in
    let i = c.loop-number.number in
    let frame = c.index-all-number.result in
    record {
      counted =
          each_then
          (λ place t u. u
          ≡ with_received (length (received_in place (slice_get configs place) (map flying (take i all)))) t)
          (λ place t u. u ≡ with_received (length (arriving_at place configs (flying frame))) t)
          (λ place t u. u
          ≡ with_received (length (received_in place (slice_get configs place) (map flying (take (i + 1) all)))) t)
          (λ place t u v before one. one_counted place configs all i frame t u v (omega arith) c.index-all-number.is
          before one) c.args.tallies.now.items c.loop-number.tallies.items c.count_due.new.tallies.items
          c.loop-number.invariant.counted c.count_due.ensures;
      hosts =
          each_then
          (λ place s t. AreCalls s (comes (received_in place (slice_get configs place) (map flying (take i all)))) t)
          (λ place s t. AreCalls s (comes (arriving_at place configs (flying frame))) t)
          (λ place s t. AreCalls s
          (comes (received_in place (slice_get configs place) (map flying (take (i + 1) all)))) t)
          (λ place s t u before one. one_came place configs all i frame s t u (omega arith) c.index-all-number.is before
          one) c.args.stacks.now.items c.loop-number.stacks.items c.hand_due.new.stacks.items
          c.loop-number.invariant.hosts c.hand_due.ensures;
    }
