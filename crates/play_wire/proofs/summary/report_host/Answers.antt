use Rattle.segment.specs.Inside.{view}
use Rattle.play_wire.proofs.ActLemmas.{moves_not}
use Rattle.play_wire.proofs.summary.report_host.Goals as goal

pub returns : goal.returns
returns c = moves_not (view c.args.segment.now) (view c.counters_at-counters.new.segment) c.counters_at-counters.ensures.same
