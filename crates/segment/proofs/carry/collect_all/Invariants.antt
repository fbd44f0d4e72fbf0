use Rattle.net_stack.specs.Runs.{AreCalls}
use Rattle.segment.specs.Flying.{transmits_of, waiting}
use Rattle.segment.specs.Segment.{given_below}
use Rattle.segment.specs.Inside.{AreSentBy}
use Rattle.segment.proofs.Walking.{IsWalked}
use Rattle.segment.proofs.carry.collect_all.Given as goal

abbrev pub invariant-loop-place : goal.invariant-loop-place
invariant-loop-place g l = record {
  walked : IsWalked (λ place s t. AreCalls s (transmits_of (waiting s)) t) l.fn.stacks.items l.stacks.items l.place;
  sent : AreSentBy l.fn.flight l.fn.impairment (given_below l.fn.stacks.items l.place) l.flight l.impairment;
}
