use Rattle.std.proofs.Common.{◌≡◌, length}
use Rattle.std.specs.List.{list_all}
use Rattle.segment.specs.Segment.{are_apart}
use Rattle.segment.proofs.segment.is_apart.Given as goal

abbrev pub invariant-loop-rest : goal.invariant-loop-rest
invariant-loop-rest l = list_all (are_apart l.config) l.rest ≡ list_all (are_apart l.config) l.others

abbrev pub decreases-loop-rest : goal.decreases-loop-rest
decreases-loop-rest l = length l.rest
