use Rattle.std.proofs.Common.{length, ◌≡◌, ◌+◌}
use Rattle.flat_model.specs.Packets.Checksum.{fold16}
use Rattle.in_cksum.specs.Inside.{swapped_sum}
use Rattle.in_cksum.proofs.sum_long.Given as goal

abbrev pub invariant-loop-rest : goal.invariant-loop-rest
invariant-loop-rest l = fold16 (l.total + swapped_sum l.rest) ≡ fold16 (swapped_sum l.bytes)

abbrev pub decreases-loop-rest : goal.decreases-loop-rest
decreases-loop-rest l = length l.rest
