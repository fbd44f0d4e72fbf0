use Rattle.std.proofs.Common.{Some, is_some, refl, sym, ap}
use Rattle.pcb_table.specs.declared.block.Block.{Block}
use Rattle.std.proofs.Common.{Option}
use Rattle.pcb_table.proofs.Unconnected.{none_met}
use Rattle.pcb_table.proofs.refusals.has_connection.Goals as goal

pub returns-then-is_none_connected : goal.returns-then-is_none_connected
returns-then-is_none_connected c =
    sym (ap (λ (o : Option Block). is_some o)
    (none_met (Some c.args.local) c.args.port c.args.peer c.args.blocks.now (c.if-is_none_connected.ensures refl)))
