use Rattle.ip_reass.proofs.Indexed.{Walked}
use Rattle.ip_reass.proofs.table.find_by_bucket.Given as goal

abbrev pub invariant-rows : goal.invariant-rows
invariant-rows l = Walked l.index.count l.key l.table l.rows

abbrev pub decreases-rows : goal.decreases-rows
decreases-rows l = l.rows
