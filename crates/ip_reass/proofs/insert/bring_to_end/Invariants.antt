use Rattle.std.proofs.Common.{◌≡◌, ◌≤◌, ◌<◌, ◌-◌, length, get_or, insert, remove}
use Rattle.ip_reass.specs.declared.datagram.Datagram.{Datagram}
use Rattle.ip_reass.proofs.insert.bring_to_end.Given as goal

-- the row to remove is at k, and the others are in order
abbrev pub invariant-rows : goal.invariant-rows
invariant-rows l = record {
  place : l.i ≤ l.k;
  within : l.k < length l.fn.rows;
  rows : (d : Datagram) → l.rows ≡ insert (remove l.fn.rows l.i) l.k (get_or l.fn.rows l.i d);
}

abbrev pub decreases-rows : goal.decreases-rows
decreases-rows l = length l.fn.rows - l.k
