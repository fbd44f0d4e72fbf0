use Rattle.std.proofs.Common.{Ok, Err, [], ap, refl}
use Rattle.play_line.specs.Time.{TimedView}
use Rattle.play_text.specs.Texts.{line_error_text}
use Rattle.play_wire.specs.Players.{wire_printing}
use Rattle.play_wire.proofs.PlayLemmas.{reported_timed}
use Rattle.play_wire.proofs.player.PlayerAnswersOUTPUT.answer.Goals as goal

pub returns-in-Ok : goal.returns-in-Ok
returns-in-Ok g c =
    let now = c.args.self.now in
    let t = c.in-Ok.timed in
    let seen : TimedView = record { ticks = t.ticks; part = t.part.now } in
    let reported = c.execute_timed.ensures in (
      reported.1,
      reported_timed (wire_printing now now.printer) (wire_printing now c.next_line.new.self) _ c.args.line.now
          (Ok seen) reported.0 reported.1 (ap (wire_printing now) c.next_line.ensures) c.in-Ok.ensures.is
          (reported.2, reported.3, reported.4, reported.5),
      reported.6,
    )

pub returns-in-Err : goal.returns-in-Err
returns-in-Err g c =
    let now = c.args.self.now in
    let q = c.next_line.new.self in
    let text = line_error_text q.form q.name q.number c.in-Err.error in (
      text,
      reported_timed (wire_printing now now.printer) (wire_printing now q) (wire_printing now c.put_error.new.self)
          c.args.line.now (Err c.in-Err.error) [] text (ap (wire_printing now) c.next_line.ensures) c.in-Err.ensures.is
          (refl, refl, ap (wire_printing now) c.put_error.ensures.printer),
      c.put_error.ensures.text,
    )
