use Rattle.std.proofs.Common.{length}
use Rattle.std.specs.Prelude.{option_copied}
use Rattle.pcb_table.proofs.Searching.{Walked}
use Rattle.pcb_table.proofs.search.best.Given as goal

abbrev pub invariant-loop-key : goal.invariant-loop-key
invariant-loop-key l = Walked l.key l.blocks l.rest (option_copied l.found) l.fewest

abbrev pub decreases-loop-key : goal.decreases-loop-key
decreases-loop-key l = length l.rest
