use Rattle.std.proofs.Common.{◌∙◌, replicate, sym}
use Rattle.segment.specs.Law.{Ether, TicksHost}
use Rattle.play_wire.proofs.ticks.tick_host.Goals as goal

pub tick_linked-requires : goal.tick_linked-requires
tick_linked-requires c = sym c.is_linked.ensures ∙ c.if-is_linked.true

pub returns-then-is_linked : goal.returns-then-is_linked
returns-then-is_linked c = (replicate c.args.count (Ether (TicksHost c.args.place)), c.tick_linked.ensures)
