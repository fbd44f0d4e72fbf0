use Rattle.std.proofs.Common.{◌≡◌, ◌++◌, ◌∙◌, ◌||◌, Bool, List, ap, ap₂, false, refl, subst, sym, ℕ}
use Rattle.std.proofs.lemmas.List.{append_assoc}
use Rattle.play_text.specs.Texts.{fault_text}
use Rattle.play_script.specs.Reports.{reply_line_text}
use Rattle.play_script.specs.Views.{expected_on}
use Rattle.play_script.specs.declared.printer.Printer.{Printer}
use Rattle.segment.specs.Inside.{view}
use Rattle.play_wire.specs.Acts.{Replied, Refused}
use Rattle.play_wire.specs.Inside.{play_with}
use Rattle.play_wire.specs.Players.{wire_now}
use Rattle.play_wire.specs.Reports.{IsReason, is_lacking}
use Rattle.play_wire.proofs.PlayLemmas.{and_false}
use Rattle.play_wire.proofs.player.Player.ask.Goals as goal

pub returns-in-Ok : goal.returns-in-Ok
returns-in-Ok g c =
    let now = c.args.self.now in
    let p = wire_now now in
    let did = c.in-Ok.ensures p refl refl in
    let segment = view c.execute_words.new.hosts.segment in
    let names = c.execute_words.new.hosts.names.items in
    let reply_line = c.execute_words.new.report.reply_line in
    let below = c.execute_words.new.report.below in
    let wanted = expected_on now.line in
    let all = reply_line_text p.form p.texts p.name p.number now.line.shown wanted reply_line below in (
      did.0,
      all ++ c.put_fitting.ensures.0,
      (
        Replied reply_line below,
        segment,
        names,
        did.1,
        (c.put_fitting.ensures.0, λ none. c.put_fitting.ensures.1 (c.objects_of-objects.ensures none), refl),
        ap (λ (q : Printer). play_with segment names q) c.put_reply_line.ensures.printer,
      ),
      c.put_fitting.ensures.2 ∙ ap (λ t. t ++ c.put_fitting.ensures.0) c.put_reply_line.ensures.text
          ∙ append_assoc c.args.text.now all c.put_fitting.ensures.0,
    )

pub returns-in-Err : goal.returns-in-Err
returns-in-Err g c =
    let now = c.args.self.now in
    let p = wire_now now in
    let did = c.in-Err.ensures p refl refl in
    let segment = view c.execute_words.new.hosts.segment in
    let names = c.execute_words.new.hosts.names.items in
    let q = now.printer in
    let lacks = q.lacks || is_lacking c.in-Err.fault in
    let noted : c.note_lack.new.self ≡ record q { sound = false; lacks = lacks } =
    c.note_lack.ensures
    ∙ ap₂ (λ (p : Printer) (b : Bool). record p { lacks = p.lacks || b }) c.put_fault.ensures.printer
    c.is_lack.ensures in (
      did.0,
      fault_text p.form p.name p.number c.bytes_of.result.now,
      (
        Refused c.in-Err.fault,
        segment,
        names,
        did.1,
        (
          c.bytes_of.result.now,
          subst (λ (what : List ℕ). IsReason c.in-Err.fault what) (sym c.bytes_of.ensures.is) c.report_reason.ensures,
          refl,
        ),
        ap (λ (q : Printer). play_with segment names q) noted
            ∙ ap (λ (b : Bool). record p { segment = segment; names = names; sound = b; lacks = lacks })
            (and_false q.sound),
      ),
      c.put_fault.ensures.text,
    )
