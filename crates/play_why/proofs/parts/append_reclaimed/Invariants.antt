use Rattle.std.proofs.Common.{◌≡◌, ◌++◌, take}
use Rattle.play_why.specs.Kept.{reclaimed_of}
use Rattle.play_why.proofs.parts.append_reclaimed.Given as goal

abbrev pub invariant-loop-part : goal.invariant-loop-part
invariant-loop-part l = l.lost.items ≡ l.fn.lost.items ++ reclaimed_of l.whole (take l.part-index l.parts)
