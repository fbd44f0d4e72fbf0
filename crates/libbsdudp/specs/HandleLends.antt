-- What a handle holds after a `&mut` to its stack has ended (this project's own).
use Rattle.std.specs.Prelude.{refl}
use Rattle.std.specs.Borrow.{Lends, MutBor, Fml}
use Rattle.libbsdudp.specs.declared.handle.Handle.{Handle}
use Rattle.libbsdudp.specs.contracts.handle.Handle.{the_row}
use Rattle.libbsdudp.specs.contracts.owned.Owned as owned
use Rattle.libbsdudp.specs.Held.{Boxed}
use Rattle.libbsdudp.specs.HeldLends.{with_boxed}

-- the same handle, with w in its box
abbrev pub with_value : Handle → Boxed → Handle
with_value h w = record { live = h.live; held = with_boxed h.held w; full = λ _. refl }

-- at the end the handle has the last value written through r
abbrev pub LendsValue : MutBor Handle → MutBor Boxed → Fml
LendsValue h r = Lends the_row owned.the_row h r (with_value h.now)
