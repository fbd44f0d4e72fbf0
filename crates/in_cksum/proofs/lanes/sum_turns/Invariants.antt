use Rattle.std.proofs.Common.{◌≡◌, ◌+◌, ◌≤◌, ◌<◌, length}
use Rattle.flat_model.specs.Packets.Checksum.{fold16}
use Rattle.in_cksum.specs.Inside.{lanes_total, swapped_sum}
use Rattle.in_cksum.proofs.lanes.sum_turns.Given as goal

abbrev pub invariant-turns : goal.invariant-turns
invariant-turns l = record {
  folded : fold16 (lanes_total l.all l.high + l.sum + swapped_sum l.rest) ≡ fold16 (swapped_sum l.bytes);
  fits : lanes_total l.all l.high + swapped_sum l.rest ≤ swapped_sum l.bytes;
  small : l.sum < 18446744073709551616;
}

abbrev pub decreases-turns : goal.decreases-turns
decreases-turns l = length l.rest
