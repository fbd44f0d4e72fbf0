-- What the address of a link keeps after a `&mut` to the value in its box has ended (this project's own).
use Rattle.std.specs.Prelude.{Some}
use Rattle.std.specs.Borrow.{Lends, MutBor, Fml}
use Rattle.libbsdudp.specs.declared.link_held.LinkHeld.{LinkHeld}
use Rattle.libbsdudp.specs.contracts.link_held.LinkHeld.{the_row}
use Rattle.libbsdudp.specs.contracts.link_owned.OwnedLink as owned
use Rattle.libbsdudp.specs.LinkHeld.{LinkBoxed}

-- the same address, with w in the box
abbrev pub with_boxed_link : LinkHeld → LinkBoxed → LinkHeld
with_boxed_link h w = record { at = h.at; alloc = h.alloc; kept = Some w }

-- at the end the box has the last value written through r
abbrev pub LendsBoxedLink : MutBor LinkHeld → MutBor LinkBoxed → Fml
LendsBoxedLink h r = Lends the_row owned.the_row h r (with_boxed_link h.now)
