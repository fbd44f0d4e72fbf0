-- What the handle of a link holds after a `&mut` to its link has ended (this project's own).
use Rattle.std.specs.Prelude.{refl}
use Rattle.std.specs.Borrow.{Lends, MutBor, Fml}
use Rattle.libbsdudp.specs.declared.link_handle.LinkHandle.{LinkHandle}
use Rattle.libbsdudp.specs.contracts.link_handle.LinkHandle.{the_row}
use Rattle.libbsdudp.specs.contracts.link_owned.OwnedLink as owned
use Rattle.libbsdudp.specs.LinkHeld.{LinkBoxed}
use Rattle.libbsdudp.specs.LinkHeldLends.{with_boxed_link}

-- the same handle, with w in its box
abbrev pub with_layer : LinkHandle → LinkBoxed → LinkHandle
with_layer h w = record { live = h.live; held = with_boxed_link h.held w; full = λ _. refl }

-- at the end the handle has the last value written through r
abbrev pub LendsLayer : MutBor LinkHandle → MutBor LinkBoxed → Fml
LendsLayer h r = Lends the_row owned.the_row h r (with_layer h.now)
