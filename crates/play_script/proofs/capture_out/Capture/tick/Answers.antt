use Rattle.std.proofs.Common.{ℕ, ◌-◌, refl, sym, ◌∙◌, arith}
use Rattle.play_script.proofs.CaptureLemmas.{after-none, after-tick}
use Rattle.play_script.proofs.capture_out.Capture.tick.Goals as goal

pub loop-left-preserved : goal.loop-left-preserved
loop-left-preserved g c =
    let left : ℕ = c.loop-left.left in record {
      line = c.loop-left.invariant.line;
      trace =
          after-tick left (left - 1) c.loop-left.self.trace c.tick.new.self (omega arith) refl
          c.tick.ensures.ticks c.tick.ensures.whole c.tick.ensures.wrote ∙ c.loop-left.invariant.trace;
    }

pub returns-clause-trace : goal.returns-clause-trace
returns-clause-trace g c =
    sym (after-none c.loop-left.left c.loop-left.self.trace (omega arith)) ∙ c.loop-left.invariant.trace
