use Rattle.script_loop.specs.Left.{left}
use Rattle.play_wire.proofs.LinkLemmas.{no_ticks}
use Rattle.play_wire.proofs.link_ask.link_ticks_of.Goals as goal

pub returns-in_err-ticks_of : goal.returns-in_err-ticks_of
returns-in_err-ticks_of c =
    rw c.from_residual.ensures (no_ticks (left c.args.rest) c.in_err-ticks_of.ensures)
