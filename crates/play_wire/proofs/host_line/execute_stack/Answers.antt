use Rattle.std.proofs.Common.{None, Some, [], List, ℕ, ap, refl, replicate, subst}
use Rattle.flat_model.specs.Machine.Event.{Set_limit, Tick, Done}
use Rattle.flat_model.specs.Scripts.Grammar.{words}
use Rattle.request.specs.Replies.{reply_of}
use Rattle.request.specs.Requests.{event_of}
use Rattle.stack_call.specs.Moves.{StackSteps}
use Rattle.play_script.specs.Asks as asks
use Rattle.play_script.specs.Asks.{AsksFor}
use Rattle.play_script.specs.declared.ask.Ask.{Ask}
use Rattle.play_script.specs.Views.{ask_of, plain_line}
use Rattle.play_wire.specs.Acts.{Replied, call_turn}
use Rattle.play_wire.proofs.HostLemmas.{answered_by_call}
use Rattle.play_wire.proofs.host_line.execute_stack.Goals as goal

pub returns-in-Call : goal.returns-in-Call
unfolding StackSteps
returns-in-Call c =
    let asked : AsksFor (plain_line c.args.line.now) (Some (asks.Call (event_of c.in-Call.request))) =
    subst (λ (a : Ask). AsksFor (plain_line c.args.line.now) (Some (ask_of a))) c.in-Call.is c.in-Some.ensures.asks in
    answered_by_call (plain_line c.args.line.now) c.args.stack.now c.act.new.stack c.act.new.report.reply_line
    c.act.new.report.below (event_of c.in-Call.request) (reply_of c.act.result) asked c.act.ensures.does
    c.act.ensures.reply_line

pub returns-in-Limit : goal.returns-in-Limit
unfolding StackSteps
returns-in-Limit c =
    let event = Set_limit c.in-Limit.fd c.in-Limit.limit in
    let asked : AsksFor (plain_line c.args.line.now) (Some (asks.Call event)) =
    subst (λ (a : Ask). AsksFor (plain_line c.args.line.now) (Some (ask_of a))) c.in-Limit.is c.in-Some.ensures.asks in
    answered_by_call (plain_line c.args.line.now) c.args.stack.now c.act-in-Limit.new.stack
    c.act-in-Limit.new.report.reply_line c.act-in-Limit.new.report.below event (reply_of c.act-in-Limit.result) asked
    c.act-in-Limit.ensures.does c.act-in-Limit.ensures.reply_line

pub returns-in-Ticks : goal.returns-in-Ticks
unfolding StackSteps
returns-in-Ticks c =
    let n = c.in-Ticks.count in
    let asked : AsksFor (plain_line c.args.line.now) (Some (asks.Ticks c.in-Ticks.count)) =
    subst (λ (a : Ask). AsksFor (plain_line c.args.line.now) (Some (ask_of a))) c.in-Ticks.is c.in-Some.ensures.asks in (
      replicate n (call_turn Tick Done),
      (
        Some (asks.Ticks n),
        asked,
        c.tick_stack.ensures,
        (
          refl,
          (
            c.report_done.new.report.below,
            ap (λ (t : List ℕ). Replied t c.report_done.new.report.below) c.report_done.ensures,
          ),
        ),
      ),
    )

pub returns-in-Show : goal.returns-in-Show
unfolding StackSteps
returns-in-Show c =
    let asked : AsksFor (plain_line c.args.line.now) (Some (asks.Show c.in-Show.topic)) =
    subst (λ (a : Ask). AsksFor (plain_line c.args.line.now) (Some (ask_of a))) c.in-Show.is c.in-Some.ensures.asks in (
      [],
      (
        Some (asks.Show c.in-Show.topic),
        asked,
        refl,
        (c.set_topic.new.self.reply_line, refl, (c.set_topic.new.self.below, refl)),
      ),
    )

pub returns-in-Capture : goal.returns-in-Capture
returns-in-Capture c =
    let capture = c.in-Capture.field-0 in
    let asked : AsksFor (plain_line c.args.line.now)
    (Some (asks.Capture c.in-Capture.field-0.name.now c.in-Capture.field-0.details)) =
    subst (λ (a : Ask). AsksFor (plain_line c.args.line.now) (Some (ask_of a))) c.in-Capture.is c.in-Some.ensures.asks
    in
    ([], (Some (asks.Capture capture.name.now capture.details), asked, refl, (refl, refl)))

pub returns-in-Settings : goal.returns-in-Settings
returns-in-Settings c =
    let asked : AsksFor (plain_line c.args.line.now) (Some (asks.Settings (words c.in-Settings.field-0.now))) =
    subst (λ (a : Ask). AsksFor (plain_line c.args.line.now) (Some (ask_of a))) c.in-Settings.is c.in-Some.ensures.asks
    in
    ([], (Some (asks.Settings (words c.in-Settings.field-0.now)), asked, refl, (refl, refl)))

pub returns-in_default : goal.returns-in_default
returns-in_default c = ([], (None, c.in_default.ensures.asks, refl, (refl, refl)))
