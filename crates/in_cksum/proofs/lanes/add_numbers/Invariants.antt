use Rattle.std.proofs.Common.{◌≡◌, ◌+◌, ◌%◌, length}
use Rattle.flat_model.specs.Packets.Checksum.{fold16}
use Rattle.in_cksum.specs.Inside.{CanCarry, swapped_sum}
use Rattle.in_cksum.proofs.lanes.add_numbers.Given as goal

abbrev pub invariant-numbers : goal.invariant-numbers
invariant-numbers l = record {
  folded : fold16 (l.sum + l.carry + swapped_sum l.rest) ≡ fold16 (l.fn.start + swapped_sum l.fn.bytes);
  fits : CanCarry l.sum l.carry;
  whole : length l.rest % 8 ≡ 0;
}

abbrev pub decreases-numbers : goal.decreases-numbers
decreases-numbers l = length l.rest
