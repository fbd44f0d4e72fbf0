use Rattle.std.proofs.Common.{arith}
use Rattle.net_stack.specs.Runs.{AreCalls}
use Rattle.segment.specs.Flying.{comes}
use Rattle.segment.specs.Inside.{arriving_at, flying}
use Rattle.segment.proofs.Delivering.{none_walked, walk_changed}
use Rattle.segment.proofs.Walking.{walk_ends}
use Rattle.segment.proofs.deliver.hand_due.Goals as goal

pub loop-place-init : goal.loop-place-init
loop-place-init g c =
    none_walked (λ place s t. AreCalls s (comes (arriving_at place c.args.directory.now.configs.items (flying
    c.args.frame.now))) t) c.args.stacks.now.items

pub loop-place-preserved : goal.loop-place-preserved
loop-place-preserved g c =
    walk_changed (λ place s t. AreCalls s (comes (arriving_at place c.args.directory.now.configs.items (flying
    c.args.frame.now))) t) c.args.stacks.now.items c.loop-place.stacks.items
    c.hand_at-in-loop-place.new.stacks.items c.loop-place.place c.loop-place.invariant c.hand_at-in-loop-place.ensures

pub returns : goal.returns
returns g c =
    walk_ends (λ place s t. AreCalls s (comes (arriving_at place c.args.directory.now.configs.items (flying
    c.args.frame.now))) t) c.args.stacks.now.items c.loop-place.stacks.items c.loop-place.place
    c.loop-place.invariant (omega arith)
