use Rattle.std.proofs.Common.{None, refl}
use Rattle.flat_model.specs.Machine.Event.{Done, Tick}
use Rattle.play_script.proofs.CaptureLemmas.{Captures-one, Keeps-none, Logs-ticks}
use Rattle.stack_call.specs.Moves.{StackSteps}
use Rattle.play_script.proofs.captured.CapturedStackWire.tick.Goals as goal

pub returns : goal.returns
unfolding StackSteps
returns g c =
    let line = c.args.self.now.capture.line in
    let old = c.args.self.now.capture.trace in (
      tt,
      c.tick.ensures,
      Captures-one line old c.tick-2.new.self.trace Tick Done None 1 refl refl
          (Logs-ticks line 1 old old c.tick-2.new.self.trace None (Keeps-none old, refl) c.tick-2.ensures.trace),
      c.tick-2.ensures.line,
      refl,
    )
