use Rattle.std.proofs.Common.{◌≡◌, Bool, ◌&&◌, refl, ap, ap₂, ◌∙◌}
use Rattle.play_text.specs.Texts.{fault_text}
use Rattle.play_script.specs.Inside.{play_of}
use Rattle.play_script.specs.Players.{play_now}
use Rattle.play_script.specs.Plays.{captured_of}
use Rattle.play_script.specs.Reports.{is_done, is_sound, stays_head, reply_line_text}
use Rattle.play_script.specs.Views.{expected_on, plain_line}
use Rattle.play_script.specs.declared.printer.Printer.{Printer}
use Rattle.play_script.proofs.AnswerLemmas.{Ask-reports, None-reports, Settings-execute, settings_words}
use Rattle.stack_call.specs.Moves.{StackSteps}
use Rattle.net_stack.specs.Stack.{state_of}
use Rattle.play_script.proofs.player.Player.ask.Goals as goal

pub returns-in-Done : goal.returns-in-Done
returns-in-Done g c =
    let now = c.args.self.now in
    let done = c.in-Done.ensures in
    let text = c.execute_line.new.report.reply_line in
    let below = c.execute_line.new.report.below in
    let after = c.execute_line.new.captured in
    let wanted = expected_on now.line in
    let head : c.both-head.result ≡ (now.head && stays_head done.0) =
    c.both-head.ensures ∙ ap (λ (b : Bool). now.head && b) done.2.1 in
    let sound : c.both-sound.result ≡ ((now.printer.sound && is_sound wanted text) && is_done wanted c.in-Done.failed) =
    c.both-sound.ensures
    ∙ ap₂ (λ (a b : Bool). a && b) (ap (λ (p : Printer). p.sound) c.put_reply_line.ensures.printer)
    c.is_done-done.ensures in
    let playing = λ (h : Bool) (p : Printer) (s : Bool). play_of (state_of after.stack) after.capture.trace now.config h
    (record p { sound = s }) in (
      reply_line_text now.printer.form now.printer.texts now.printer.name now.printer.number now.line.shown wanted text
          below,
      Ask-reports StackSteps g.F.Folder.may_have
          (play_now now)
          (playing c.both-head.result c.put_reply_line.new.self c.both-sound.result) now.line.shown (plain_line
          now.line) wanted
          done.0 text below
          (captured_of (state_of after.stack) after.capture.trace after.capture.line)
          c.in-Done.failed done.1 done.2.0
          (ap₂ (λ (h : Bool) (p : Printer). playing h p c.both-sound.result) head c.put_reply_line.ensures.printer
          ∙ ap (λ (s : Bool). playing (now.head && stays_head done.0) now.printer s) sound),
      c.put_reply_line.ensures.text,
    )

pub returns-in-Settings : goal.returns-in-Settings
returns-in-Settings g c =
    let now = c.args.self.now in
    let done = c.in-Settings.ensures in
    let after = c.execute_line.new.captured in
    let set = c.set_up.ensures in (
      set.0,
      Settings-execute StackSteps g.F.Folder.may_have
          (play_now now) _ _
          now.line.shown (plain_line now.line) now.line.words set.0 (expected_on now.line) done.2.0.0 done.0
          (captured_of (state_of after.stack) after.capture.trace after.capture.line)
          (settings_words now.line done.0 done.2.0.0 done.1 done.2.0.1) done.1
          done.2.0.1 done.2.1 refl set.1,
      set.2,
    )

pub returns-in-Nothing : goal.returns-in-Nothing
returns-in-Nothing g c =
    let now = c.args.self.now in
    let done = c.in-Nothing.ensures in
    let after = c.execute_line.new.captured in
    let playing = λ (p : Printer). play_of (state_of after.stack) after.capture.trace now.config now.head p in (
      fault_text now.printer.form now.printer.name now.printer.number c.bytes_of.result.now,
      None-reports StackSteps g.F.Folder.may_have
          (play_now now)
          (playing c.put_fault.new.self) now.line.shown (plain_line now.line) (expected_on now.line)
          (captured_of (state_of after.stack) after.capture.trace after.capture.line) c.bytes_of.result.now done.0
          done.1
          (ap playing c.put_fault.ensures.printer),
      c.put_fault.ensures.text,
    )
