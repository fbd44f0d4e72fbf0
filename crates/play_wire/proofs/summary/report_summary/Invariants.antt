use Rattle.segment.specs.Inside.{view}
use Rattle.play_wire.specs.Acts.{AreLedTo}
use Rattle.play_wire.proofs.summary.report_summary.Given as goal

abbrev pub invariant-loop-place : goal.invariant-loop-place
invariant-loop-place l = AreLedTo (view l.fn.segment) (view l.segment)
