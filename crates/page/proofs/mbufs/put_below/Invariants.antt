use Rattle.std.proofs.Common.{◌≡◌, ◌++◌}
use Rattle.page.specs.States.{below, socket_objects}
use Rattle.page.proofs.mbufs.put_below.Given as goal

abbrev pub invariant-places : goal.invariant-places
invariant-places l = l.text.items ≡ l.fn.text.items ++ below (socket_objects l.stack) l.place
