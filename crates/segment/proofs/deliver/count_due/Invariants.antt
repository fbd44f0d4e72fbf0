use Rattle.std.proofs.Common.{◌≡◌, length}
use Rattle.segment.specs.Inside.{arriving_at, flying}
use Rattle.segment.specs.Tallies.{with_received}
use Rattle.segment.proofs.Walking.{IsWalked}
use Rattle.segment.proofs.deliver.count_due.Given as goal

abbrev pub invariant-loop-place : goal.invariant-loop-place
invariant-loop-place l =
    IsWalked (λ place t u. u ≡ with_received (length (arriving_at place l.directory.configs.items (flying l.frame))) t)
    l.fn.tallies.items l.tallies.items l.place
