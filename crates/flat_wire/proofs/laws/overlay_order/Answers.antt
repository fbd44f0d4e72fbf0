-- The law is proved on a grid.
use Rattle.flat_wire.proofs.Order.{overlay_order_lem}
use Rattle.flat_wire.proofs.laws.overlay_order.Goals as goal

pub returns : goal.returns
returns c = overlay_order_lem
