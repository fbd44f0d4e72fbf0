use Rattle.std.proofs.Common.{◌≡◌, ◌++◌, take}
use Rattle.net_stack.specs.Stack.{state_of}
use Rattle.play_why.specs.Kept.{expired_of}
use Rattle.play_why.proofs.parts.append_expired.Given as goal

abbrev pub invariant-loop-part : goal.invariant-loop-part
invariant-loop-part l = l.lost.items
    ≡ l.fn.lost.items ++ expired_of (state_of l.machine).unfinished (take l.part-index l.parts)
