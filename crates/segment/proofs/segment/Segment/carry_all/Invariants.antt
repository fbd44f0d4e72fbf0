use Rattle.std.proofs.Common.{◌-◌}
use Rattle.segment.specs.Inside.{view}
use Rattle.segment.specs.Segment.{SegmentView, AreCarried}
use Rattle.segment.proofs.segment.Segment.carry_all.Given as goal

-- the result of the carries that are left is the result of all of them
abbrev pub invariant-loop : goal.invariant-loop
invariant-loop l =
    (last : SegmentView) → AreCarried (l.most - l.counter) (view l.self) last → AreCarried l.most (view l.fn.self) last
