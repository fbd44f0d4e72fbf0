use Rattle.std.proofs.Common.{◌≡◌, ◌+◌, ◌<◌, length}
use Rattle.flat_model.specs.Packets.Checksum.{fold16, folded_sum, word_sum}
use Rattle.flat_model.proofs.checksum.fold.Given as goal

abbrev pub invariant-loop-rest : goal.invariant-loop-rest
invariant-loop-rest l = (l.sum < 65536) × (fold16 (l.sum + word_sum l.rest) ≡ folded_sum l.bytes)

abbrev pub decreases-loop-rest : goal.decreases-loop-rest
decreases-loop-rest l = length l.rest
