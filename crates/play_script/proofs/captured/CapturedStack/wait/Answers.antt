use Rattle.std.proofs.Common.{None, refl, sym}
use Rattle.flat_model.specs.Machine.Event.{Done}
use Rattle.play_script.specs.declared.action.Action.TheVariants.{Ticks}
use Rattle.play_script.proofs.CaptureLemmas.{Captures-action}
use Rattle.play_script.proofs.ActionLemmas.{ticks_move}
use Rattle.play_script.proofs.captured.CapturedStack.wait.Goals as goal

pub returns-clause-captured : goal.returns-clause-captured
returns-clause-captured g c =
    Captures-action c.args.line c.args.self.now.capture.trace c.keep_action.new.self.trace (Ticks c.args.ticks) Done
    None
    c.args.ticks (sym (ticks_move c.args.ticks Done)) refl c.keep_action.ensures.logs
