use Rattle.std.proofs.Common.{length}
use Rattle.flat_plain.proofs.needs.+later_mbufs.Given as goal

abbrev pub decreases-later_mbufs : goal.decreases-later_mbufs
decreases-later_mbufs l = length l.parts.now
