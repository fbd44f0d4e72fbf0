use Rattle.std.proofs.Common.{◌≡◌}
use Rattle.play_script.specs.Captures.{after_ticks}
use Rattle.play_script.proofs.capture_out.Capture.tick.Given as goal

abbrev pub invariant-loop-left : goal.invariant-loop-left
invariant-loop-left g l = record {
  line : l.self.line ≡ l.fn.self.line;
  trace : after_ticks l.left l.self.trace ≡ after_ticks l.fn.count l.fn.self.trace;
}

abbrev pub decreases-loop-left : goal.decreases-loop-left
decreases-loop-left g l = l.left
