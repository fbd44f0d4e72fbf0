use Rattle.std.proofs.Common.{◌≡◌, ◌++◌}
use Rattle.page.specs.States.{mbuf_objects}
use Rattle.page.proofs.mbufs.put_mbufs.Given as goal

abbrev pub invariant-mbufs : goal.invariant-mbufs
invariant-mbufs l =
    l.text.items ++ mbuf_objects l.mbuf-iterator ≡ l.fn.text.items ++ mbuf_objects l.fn.mbufs
