use Rattle.std.proofs.Common.{length}
use Rattle.flat_plain.proofs.weights.+add_met.Given as goal

abbrev pub decreases-add_met : goal.decreases-add_met
decreases-add_met l = length l.entries.now
