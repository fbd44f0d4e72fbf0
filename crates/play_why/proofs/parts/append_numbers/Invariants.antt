use Rattle.std.proofs.Common.{◌≡◌, ◌++◌, take}
use Rattle.play_why.specs.Kept.{numbers_of}
use Rattle.play_why.proofs.parts.append_numbers.Given as goal

abbrev pub invariant-loop-part : goal.invariant-loop-part
invariant-loop-part l = l.numbers.items ≡ l.fn.numbers.items ++ numbers_of l.key (take l.part-index l.parts)
