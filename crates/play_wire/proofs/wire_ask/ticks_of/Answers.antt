use Rattle.script_loop.specs.Left.{left}
use Rattle.play_wire.proofs.WireLemmas.{no_tick_number, no_ticks, not_end}
use Rattle.play_wire.proofs.wire_ask.ticks_of.Goals as goal

pub returns-in_err-count : goal.returns-in_err-count
returns-in_err-count c =
    rw c.from_residual.ensures
    (no_tick_number (left c.args.rest) (not_end (left c.args.rest) c.is_end.result c.is_end.ensures c.if-is_end.false)
    c.in_err-count.ensures)

pub returns-then-count-eq0 : goal.returns-then-count-eq0
returns-then-count-eq0 c =
    no_ticks (left c.args.rest) c.in_ok-count.count
    (not_end (left c.args.rest) c.is_end.result c.is_end.ensures c.if-is_end.false)
    c.in_ok-count.ensures c.if-count-eq0.true
