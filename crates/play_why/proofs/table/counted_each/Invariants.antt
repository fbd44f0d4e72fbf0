use Rattle.std.proofs.Common.{◌≡◌, length}
use Rattle.play_why.specs.Verdicts.{once_each}
use Rattle.play_why.proofs.table.counted_each.Given as goal

abbrev pub invariant-numbers : goal.invariant-numbers
invariant-numbers l = once_each l.rest l.counted ≡ once_each l.fn.numbers l.fn.count

abbrev pub decreases-numbers : goal.decreases-numbers
decreases-numbers l = length l.rest
