use Rattle.page.specs.Recorded.{SoFar}
use Rattle.page.proofs.records.put_records.Given as goal

abbrev pub invariant-loop-count : goal.invariant-loop-count
invariant-loop-count l = SoFar l.fn.records l.fn.text.items l.records l.text.items l.count
