use Rattle.std.proofs.Common.{[], map, inl, inr, refl}
use Rattle.segment.specs.Inside.{view}
use Rattle.segment.specs.Law.{Calls}
use Rattle.play_script.specs.Views.{plain_line}
use Rattle.play_wire.specs.Inside.{outcome_of}
use Rattle.play_wire.proofs.HostLemmas.{host_line}
use Rattle.play_wire.proofs.host_line.execute_at.Goals as goal

pub returns-then-exchange : goal.returns-then-exchange
returns-then-exchange c =
    let said = c.execute_stack-outcome.ensures in (
      map (Calls c.args.place) said.0,
      inl (host_line c.args.place (plain_line c.args.line.now) (view c.args.segment.now) (view c.exchange.new.segment)
          (view c.exchange-then-exchange.new.segment) c.args.spare.now.counting.stack c.exchange.new.stack
          c.execute_stack-outcome.new.stack
          c.exchange-then-exchange.new.stack
          (outcome_of c.execute_stack-outcome.result c.execute_stack-outcome.new.report.reply_line
          c.execute_stack-outcome.new.report.below) said.0
          c.exchange-then-exchange.result (c.exchange.ensures.yes c.if-exchange.true) said.1
          c.exchange-then-exchange.ensures),
    )

pub returns-else-exchange : goal.returns-else-exchange
returns-else-exchange c =
    let kept = c.exchange.ensures.no c.if-exchange.false in
    ([], inr (kept.0, refl, refl, kept.1))
