use Rattle.std.proofs.Common.{◌≡◌}
use Rattle.net_stack.specs.Stack.{state_of}
use Rattle.play_why.specs.Kept.{unfinished_below}
use Rattle.play_why.proofs.parts.is_unfinished.Given as goal

abbrev pub invariant-places : goal.invariant-places
invariant-places l = l.found ≡ unfinished_below l.i l.key (state_of l.machine).unfinished
