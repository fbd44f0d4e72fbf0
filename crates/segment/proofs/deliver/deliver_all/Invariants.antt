use Rattle.std.proofs.Common.{◌≡◌, length, map, take}
use Rattle.std.specs.Prelude.{slice_get}
use Rattle.net_stack.specs.Runs.{AreCalls}
use Rattle.segment.specs.Flying.{comes}
use Rattle.segment.specs.Inside.{flying}
use Rattle.segment.specs.Segment.{AtEach, received_in}
use Rattle.segment.specs.Tallies.{with_received}
use Rattle.segment.proofs.deliver.deliver_all.Given as goal

abbrev pub invariant-loop-number : goal.invariant-loop-number
invariant-loop-number g l = record {
  counted : AtEach (λ place t u. u ≡ with_received
      (length (received_in place (slice_get l.directory.configs.items place) (map flying (take l.number l.all)))) t)
      l.fn.tallies.items l.tallies.items;
  hosts : AtEach (λ place s t. AreCalls s
      (comes (received_in place (slice_get l.directory.configs.items place) (map flying (take l.number l.all)))) t)
      l.fn.stacks.items l.stacks.items;
}
