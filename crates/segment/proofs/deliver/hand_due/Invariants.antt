use Rattle.net_stack.specs.Runs.{AreCalls}
use Rattle.segment.specs.Flying.{comes}
use Rattle.segment.specs.Inside.{arriving_at, flying}
use Rattle.segment.proofs.Walking.{IsWalked}
use Rattle.segment.proofs.deliver.hand_due.Given as goal

abbrev pub invariant-loop-place : goal.invariant-loop-place
invariant-loop-place g l =
    IsWalked (λ place s t. AreCalls s (comes (arriving_at place l.directory.configs.items (flying l.frame))) t)
    l.fn.stacks.items l.stacks.items l.place
