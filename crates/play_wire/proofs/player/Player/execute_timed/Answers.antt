use Rattle.std.proofs.Common.{[], ◌-◌, ◌++◌, ◌∙◌, List, ap, codes, length, refl, subst, ℕ}
use Rattle.play_line.specs.declared.fault.SyntaxError.{SyntaxError}
use Rattle.play_text.specs.Texts.{fault_text, line_error_text}
use Rattle.play_script.specs.Lines.{Asks, Faulty, Nothing, TooLong, reading_part, shifted}
use Rattle.play_script.specs.Views.{expected_on, plain_line}
use Rattle.segment.specs.Inside.{view}
use Rattle.play_wire.specs.Inside.{named_by, play_with}
use Rattle.play_wire.specs.Players.{wire_now, wire_printing}
use Rattle.play_wire.specs.Reports.{ReportsAsked}
use Rattle.play_wire.proofs.PlayLemmas.{nothing_more, reported_part}
use Rattle.play_wire.proofs.player.Player.execute_timed.Goals as goal

pub returns-in-Nothing : goal.returns-in-Nothing
returns-in-Nothing g c =
    let now = c.args.self.now in
    let part = c.take-part.result.now in
    let host = named_by c.take-part.new.self in (
      [],
      [],
      host,
      part,
      c.take-part.ensures.parted,
      reported_part (wire_printing now now.printer) (wire_printing now now.printer) host c.args.timed.ticks
          (length c.args.line.now - length part) (reading_part c.args.line.now part) Nothing [] []
          c.in-Nothing.ensures (refl, refl, refl),
      nothing_more c.args.text.now,
    )

pub returns-in-TooLong : goal.returns-in-TooLong
returns-in-TooLong g c =
    let now = c.args.self.now in
    let part = c.take-part.result.now in
    let host = named_by c.take-part.new.self in
    let q = now.printer in
    let text = fault_text q.form q.name q.number (codes "the line is too long") in (
      [],
      text,
      host,
      part,
      c.take-part.ensures.parted,
      reported_part (wire_printing now q) (wire_printing now c.put_too_long.new.self) host c.args.timed.ticks
          (length c.args.line.now - length part) (reading_part c.args.line.now part) TooLong [] text
          c.in-TooLong.ensures (refl, refl, ap (wire_printing now) c.put_too_long.ensures.printer),
      c.put_too_long.ensures.text,
    )

pub returns-in-Faulty : goal.returns-in-Faulty
returns-in-Faulty g c =
    let now = c.args.self.now in
    let part = c.take-part.result.now in
    let host = named_by c.take-part.new.self in
    let q = now.printer in
    let before = length c.args.line.now - length part in
    let text = line_error_text q.form q.name q.number (shifted before c.in-Faulty.error) in (
      [],
      text,
      host,
      part,
      c.take-part.ensures.parted,
      reported_part (wire_printing now q) (wire_printing now c.put_error.new.self) host c.args.timed.ticks before
          (reading_part c.args.line.now part) (Faulty c.in-Faulty.error) [] text
          c.in-Faulty.ensures (refl, refl, ap (wire_printing now) c.put_error.ensures.printer),
      c.put_error.ensures.text
          ∙ ap (λ (s : SyntaxError). c.args.text.now ++ line_error_text q.form q.name q.number s) c.shift_column.ensures,
    )

pub returns-in-Asks : goal.returns-in-Asks
returns-in-Asks g c =
    let now = c.args.self.now in
    let part = c.take-part.result.now in
    let host = named_by c.take-part.new.self in
    let line = c.read_part.new.line in
    let waited = c.wait.ensures.waited in
    let mid = view c.wait.new.self.segment in
    let did = c.ask.ensures in
    let after = c.ask.new.self in
    let new = wire_now after in (
      waited.0 ++ did.0,
      did.1,
      host,
      part,
      c.take-part.ensures.parted,
      reported_part (wire_now now) new host c.args.timed.ticks
          (length c.args.line.now - length part) (reading_part c.args.line.now part)
          (Asks line.shown (plain_line line) (expected_on line)) (waited.0 ++ did.0) did.1
          c.in-Asks.ensures (
            waited.0,
            did.0,
            mid,
            refl,
            waited.1,
            subst (λ (xs : List (List ℕ)). ReportsAsked (play_with mid xs now.printer) host line.shown (plain_line line)
                (expected_on line) did.0 did.1 new)
                (ap (λ xs. xs.items) c.wait.ensures.names) did.2,
          ),
      did.3,
    )
