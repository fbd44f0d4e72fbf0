-- What an address keeps after a `&mut` to the value in its box has ended (this project's own).
use Rattle.std.specs.Prelude.{Some}
use Rattle.std.specs.Borrow.{Lends, MutBor, Fml}
use Rattle.libbsdudp.specs.declared.held.Held.{Held}
use Rattle.libbsdudp.specs.contracts.held.Held.{the_row}
use Rattle.libbsdudp.specs.contracts.owned.Owned as owned
use Rattle.libbsdudp.specs.Held.{Boxed}

-- the same address, with w in the box
abbrev pub with_boxed : Held → Boxed → Held
with_boxed h w = record { at = h.at; alloc = h.alloc; kept = Some w }

-- at the end the box has the last value written through r
abbrev pub LendsBoxed : MutBor Held → MutBor Boxed → Fml
LendsBoxed h r = Lends the_row owned.the_row h r (with_boxed h.now)
