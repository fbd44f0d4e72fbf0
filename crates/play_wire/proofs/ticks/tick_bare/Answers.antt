use Rattle.std.proofs.Common.{replicate}
use Rattle.flat_model.specs.Machine.Event.{Tick, Done}
use Rattle.segment.specs.Inside.{view}
use Rattle.play_wire.specs.Acts.{call_turn}
use Rattle.play_wire.proofs.ActLemmas.{calls_move}
use Rattle.play_wire.proofs.ticks.tick_bare.Goals as goal

pub returns-then-exchange : goal.returns-then-exchange
returns-then-exchange c =
    calls_move c.args.place (view c.args.segment.now) (view c.exchange.new.segment)
    (view c.exchange-then-exchange.new.segment)
    c.args.spare.now c.exchange.new.stack c.tick_stack.new.stack c.exchange-then-exchange.new.stack
    c.exchange-then-exchange.result
    (replicate c.args.count (call_turn Tick Done)) (c.exchange.ensures.yes c.if-exchange.true) c.tick_stack.ensures
    c.exchange-then-exchange.ensures
