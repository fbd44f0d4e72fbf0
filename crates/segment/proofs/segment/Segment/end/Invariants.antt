use Rattle.segment.proofs.segment.Segment.end.Given as goal

abbrev pub decreases-loop-stack : goal.decreases-loop-stack
decreases-loop-stack l = goal.left-loop-stack l
