use Rattle.std.proofs.Common.{Ok, Err, refl, ap}
use Rattle.play_line.specs.Time.{TimedView}
use Rattle.play_text.specs.Texts.{line_error_text}
use Rattle.play_script.specs.Players.{printing}
use Rattle.play_script.proofs.AnswerLemmas.{Timed-reports}
use Rattle.stack_call.specs.Moves.{StackSteps}
use Rattle.play_script.proofs.player.PlayerAnswersOUTPUT.answer.Goals as goal

pub returns-in-Ok : goal.returns-in-Ok
returns-in-Ok g c =
    let now = c.args.self.now in
    let reported = c.execute_timed.ensures in
    let t = c.in-Ok.timed in
    let view : TimedView = record { ticks = t.ticks; part = t.part.now } in (
      reported.0,
      Timed-reports StackSteps g.F.Folder.may_have (printing now now.printer) (printing now c.next_line.new.self) _
          c.args.line.now
          reported.0 (Ok view) (ap (printing now) c.next_line.ensures) c.in-Ok.ensures.is reported.1,
      reported.2,
    )

pub returns-in-Err : goal.returns-in-Err
returns-in-Err g c =
    let now = c.args.self.now in
    let q = c.next_line.new.self in
    let text = line_error_text q.form q.name q.number c.in-Err.error in (
      text,
      Timed-reports StackSteps g.F.Folder.may_have (printing now now.printer) (printing now q)
          (printing now c.put_error.new.self) c.args.line.now text (Err c.in-Err.error)
          (ap (printing now) c.next_line.ensures) c.in-Err.ensures.is
          (refl, ap (printing now) c.put_error.ensures.printer),
      c.put_error.ensures.text,
    )
