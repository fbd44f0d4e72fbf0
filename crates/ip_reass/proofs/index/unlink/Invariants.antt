use Rattle.std.proofs.Common.{◌≤◌}
use Rattle.ip_reass.specs.Inside.Index.{AreLinked}
use Rattle.ip_reass.proofs.index.unlink.Given as goal

abbrev pub invariant-rows : goal.invariant-rows
invariant-rows l = record {
  linked : AreLinked l.lasts l.rows l.left;
  place : l.place ≤ l.left;
}

abbrev pub decreases-rows : goal.decreases-rows
decreases-rows l = l.left
