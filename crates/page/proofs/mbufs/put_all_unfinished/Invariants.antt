use Rattle.std.proofs.Common.{◌≡◌, ◌++◌}
use Rattle.page.specs.States.{below, unfinished_objects}
use Rattle.page.proofs.mbufs.put_all_unfinished.Given as goal

abbrev pub invariant-places : goal.invariant-places
invariant-places l = l.text.items ≡ l.fn.text.items ++ below (unfinished_objects l.stack) l.place
