use Rattle.std.proofs.Common.{◌-◌}
use Rattle.ip_reass.specs.Fragments.{fragments}
use Rattle.ip_reass.specs.Inside.Walks.{IsFront, after}
use Rattle.ip_reass.proofs.Walks.{Found}
use Rattle.ip_reass.proofs.queue.walk_to.Given as goal

abbrev pub invariant-fragments : goal.invariant-fragments
invariant-fragments l = record {
  place : IsFront l.pool l.train l.found.front;
  found : Found l.offset (after l.found.front) l.found.end (fragments l.pool l.train);
}

abbrev pub decreases-fragments : goal.decreases-fragments
decreases-fragments l = l.train.len - after l.found.front
