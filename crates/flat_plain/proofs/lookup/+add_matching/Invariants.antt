use Rattle.std.proofs.Common.{length}
use Rattle.flat_plain.proofs.lookup.+add_matching.Given as goal

abbrev pub decreases-add_matching : goal.decreases-add_matching
decreases-add_matching l = length l.pcbs.now
