use Rattle.script_loop.specs.Left.{left}
use Rattle.play_wire.proofs.WireLemmas.{no_tick}
use Rattle.play_wire.proofs.wire_ask.tick_of.Goals as goal

pub returns-in_err-ticks_of : goal.returns-in_err-ticks_of
returns-in_err-ticks_of c = rw c.from_residual.ensures (no_tick (left c.args.rest) c.in_err-ticks_of.ensures)
