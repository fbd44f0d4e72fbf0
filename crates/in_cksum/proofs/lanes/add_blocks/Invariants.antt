use Rattle.std.proofs.Common.{◌≡◌, ◌+◌, ◌%◌, length}
use Rattle.in_cksum.specs.Inside.{lanes_total, swapped_sum}
use Rattle.in_cksum.proofs.lanes.add_blocks.Given as goal

abbrev pub invariant-lanes : goal.invariant-lanes
invariant-lanes l = record {
  total : lanes_total l.all l.high + swapped_sum l.rest
      ≡ lanes_total l.fn.start.0 l.fn.start.1 + swapped_sum l.fn.bytes;
  whole : length l.rest % 32 ≡ 0;
}

abbrev pub decreases-lanes : goal.decreases-lanes
decreases-lanes l = length l.rest
