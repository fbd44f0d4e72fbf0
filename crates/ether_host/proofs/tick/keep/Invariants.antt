use Rattle.std.proofs.Common.{◌≡◌, ◌-◌, ◌≤◌, length}
use Rattle.std.specs.Prelude.{filter, vec_capacity}
use Rattle.ether_host.specs.Buffers.{is_resolvable_in}
use Rattle.ether_host.proofs.Tables.{kept_from}
use Rattle.ether_host.proofs.tick.keep.Given as goal

abbrev pub invariant-walk : goal.invariant-walk
invariant-walk l = record {
  kept : filter (is_resolvable_in l.neighbours) l.fn.held.items ≡ kept_from l.neighbours l.held.items l.at;
  within : l.at ≤ length l.held.items;
  room : vec_capacity l.held ≡ vec_capacity l.fn.held;
}

abbrev pub decreases-walk : goal.decreases-walk
decreases-walk l = length l.held.items - l.at
