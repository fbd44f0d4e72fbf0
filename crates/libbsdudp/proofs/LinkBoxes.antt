-- The box that the handle of a link points to. Assumes `Logic`.
use mathlib.Core.Bool.{true≢false}
use Rattle.std.proofs.Common.{◌≡◌, [], refl, sym, Some, None}
use mir.Syntax.{impl, tnil, dnil}
use Rattle.std_alloc.proofs.BoxSteps.Form.{Bx}
use Rattle.std_heap.specs.contracts.Global as heap
use Rattle.std_heap.specs.contracts.GlobalAllocator.TheImpl.{ghosts, dict}
use Rattle.std_heap.proofs.Global.TheLaws as heap_laws
use Rattle.libbsdudp.specs.contracts.link_owned.OwnedLink as owned
use Rattle.libbsdudp.proofs.link_owned.OwnedLink.TheLaws as owned_laws
use Rattle.libbsdudp.specs.LinkHeld.{LinkBoxed, IsLinkFull, LinkKept}

abbrev pub link_box : Bx
link_box =
    record {
      row = owned.the_row;
      laws = owned_laws.the_row_laws;
      al = record {
        row = heap.the_row;
        laws = heap_laws.the_row_laws;
        g = ghosts;
        d = dict;
        drops = impl [] tnil dnil;
      };
    }

-- a handle with a mark has a box
pub has : (k : LinkKept) → IsLinkFull k → (x : LinkBoxed) × (k ≡ Some x)
has None full = absurd (true≢false (sym full))
has (Some x) full = (x, refl)
