use Rattle.segment.specs.Inside.{view}
use Rattle.play_wire.proofs.ActLemmas.{moves_not}
use Rattle.play_wire.proofs.passed.counted_at.Goals as goal

pub returns-in-Some-Some : goal.returns-in-Some-Some
returns-in-Some-Some c =
    moves_not (view c.args.segment.now) (view c.counters_at-counters.new.segment) c.counters_at-counters.ensures.same

pub returns-in_default : goal.returns-in_default
returns-in_default c =
    moves_not (view c.args.segment.now) (view c.counters_at-counters.new.segment) c.counters_at-counters.ensures.same
