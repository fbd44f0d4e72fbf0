use Rattle.std.proofs.Common.{Some, refl, ap₂, ◌∙◌, arith}
use Rattle.flat_model.specs.Machine.Event.{Comes, Done}
use Rattle.flat_model.specs.declared.counters.Counters.{Counters}
use Rattle.play_text.specs.Tables.{drops_added}
use Rattle.play_script.proofs.CaptureLemmas.{Captures-one}
use Rattle.play_script.proofs.PlayLemmas.{are_bytes}
use Rattle.stack_call.specs.Moves.{StackSteps}
use Rattle.play_script.proofs.captured.CapturedStackWire.rx.Goals as goal

pub returns : goal.returns
unfolding StackSteps
returns g c = (
  (are_bytes c.args.packet.now (λ k. omega (arith, c.type_inv.packet k)), c.requires),
  c.rx.ensures,
  Captures-one c.args.self.now.capture.line c.args.self.now.capture.trace c.keep.new.self.trace
      (Comes c.args.packet.now) Done (Some c.args.packet.now) 0 refl refl c.keep.ensures.logs,
  c.keep.ensures.line,
  c.count_record.ensures
      ∙ ap₂ (λ (a b : Counters). drops_added c.args.place.number a b c.args.self.now.causes) c.counted-before.ensures
      c.counted-after.ensures,
)
