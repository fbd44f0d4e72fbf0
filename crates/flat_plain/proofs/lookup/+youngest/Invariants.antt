use Rattle.std.proofs.Common.{length}
use Rattle.flat_plain.proofs.lookup.+youngest.Given as goal

abbrev pub decreases-youngest : goal.decreases-youngest
decreases-youngest l = length l.pcbs.now
