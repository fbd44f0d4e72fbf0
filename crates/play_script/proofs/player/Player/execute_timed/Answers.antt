use Rattle.std.proofs.Common.{[], ◌++◌, ◌∙◌, ap, append-nil, refl, sym}
use Rattle.play_line.specs.declared.fault.SyntaxError.{SyntaxError}
use Rattle.play_text.specs.Texts.{line_error_text}
use Rattle.play_script.specs.Players.{play_now, printing}
use Rattle.play_script.specs.Lines.{Asks}
use Rattle.play_script.specs.Views.{expected_on, plain_line}
use Rattle.play_script.specs.declared.line.Line.{Line}
use Rattle.play_script.proofs.AnswerLemmas.{Reading-reports}
use Rattle.stack_call.specs.Moves.{StackSteps}
use Rattle.play_script.proofs.player.Player.execute_timed.Goals as goal

pub returns-in-Nothing : goal.returns-in-Nothing
returns-in-Nothing g c = (
  [],
  Reading-reports StackSteps g.F.Folder.may_have _ _ _ _ _ _ _ c.in-Nothing.ensures (refl, refl),
  sym (append-nil c.args.text.now),
)

pub returns-in-TooLong : goal.returns-in-TooLong
returns-in-TooLong g c = (
  _,
  Reading-reports StackSteps g.F.Folder.may_have _ _ _ _ _ _ _ c.in-TooLong.ensures
      (refl, ap (printing c.args.self.now) c.put_too_long.ensures.printer),
  c.put_too_long.ensures.text,
)

pub returns-in-Faulty : goal.returns-in-Faulty
returns-in-Faulty g c =
    let q = c.args.self.now.printer in (
      _,
      Reading-reports StackSteps g.F.Folder.may_have _ _ _ _ _ _ _ c.in-Faulty.ensures
          (refl, ap (printing c.args.self.now) c.put_error.ensures.printer),
      c.put_error.ensures.text
          ∙ ap (λ (s : SyntaxError). c.args.text.now ++ line_error_text q.form q.name q.number s)
          c.shift_column.ensures,
    )

pub returns-in-Asks : goal.returns-in-Asks
returns-in-Asks g c =
    let reported = c.ask.ensures in
    let mid = c.wait.new.self in (
      reported.0,
      Reading-reports StackSteps g.F.Folder.may_have _ _ _ _ _
          (Asks mid.line.shown (plain_line mid.line) (expected_on mid.line)) reported.0 (c.in-Asks.ensures
          ∙ ap (λ (l : Line). Asks l.shown (plain_line l) (expected_on l)) (sym c.wait.ensures.line)) (
            play_now mid,
            c.wait.ensures.waited,
            reported.1,
          ),
      reported.2,
    )
