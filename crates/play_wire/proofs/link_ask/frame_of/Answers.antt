use Rattle.script_loop.specs.Left.{left}
use Rattle.play_wire.proofs.LinkLemmas.{no_frame}
use Rattle.play_wire.proofs.link_ask.frame_of.Goals as goal

pub returns-in_err-len : goal.returns-in_err-len
returns-in_err-len c =
    rw c.from_residual-in_err-len.ensures
    (no_frame (left c.args.rest) c.in_ok-word.word.now c.in_ok-word.ensures c.in_err-len.ensures.bytes)
