use Rattle.script_loop.specs.Left.{left}
use Rattle.play_wire.proofs.LinkLemmas.{no_error}
use Rattle.play_wire.proofs.link_ask.error_of.Goals as goal

pub returns-in_err-one_number : goal.returns-in_err-one_number
returns-in_err-one_number c =
    rw c.from_residual.ensures (no_error (left c.args.rest) c.in_err-one_number.ensures)
