use Rattle.std.proofs.Common.{◌≡◌, ℕ, ◌<◌, false, get_or}
use Rattle.ip_reass.specs.Table.{has_key}
use Rattle.ip_reass.specs.declared.datagram.Datagram.{Datagram}
use Rattle.ip_reass.proofs.table.find_by_walk.Given as goal

abbrev pub invariant-rows : goal.invariant-rows
invariant-rows l = record {
  none : (k : ℕ) (d : Datagram) → k < l.place → has_key l.key (get_or l.table k d) ≡ false;
}
