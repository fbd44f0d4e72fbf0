use Rattle.std.proofs.Common.{◌≤◌, take}
use Rattle.ip_reass.specs.Expiring.{IsListed, expired_among}
use Rattle.ip_reass.specs.Table.{unfinished}
use Rattle.ip_reass.proofs.expiring.list_all_expiring.Given as goal

abbrev pub invariant-table : goal.invariant-table
invariant-table l = record {
  way : IsListed l.fn.list 0 (expired_among (unfinished l.pool (take l.i l.table))) l.list l.count;
  within : l.count ≤ l.i;
}
