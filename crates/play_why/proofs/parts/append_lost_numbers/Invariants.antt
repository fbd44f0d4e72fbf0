use Rattle.std.proofs.Common.{◌≡◌, ◌++◌, take}
use Rattle.play_why.specs.Kept.{lost_numbers_of}
use Rattle.play_why.proofs.parts.append_lost_numbers.Given as goal

abbrev pub invariant-loop-it : goal.invariant-loop-it
invariant-loop-it l = l.numbers.items ≡ l.fn.numbers.items ++ lost_numbers_of l.first (take l.it-index l.all)
