use Rattle.std.proofs.Common.{arith}
use Rattle.ip_reass.proofs.Aging.{arm_kept, arm_past}
use Rattle.ip_reass.proofs.table.age.Goals as goal
use Rattle.ip_reass.proofs.table.age.Goals.{then-table-i-gt1, else-table-i-gt1}

pub table-preserved : goal.table-preserved
table-preserved c = elim c.if-table-i-gt1.branch [
  | then-table-i-gt1 w ↦
      arm_kept c.args.table.now c.table.table w.swap.new.self c.if-table-i-gt1.table c.table.kept c.table.i
      c.if-table-i-gt1.kept w.index-table-i-then-table-i-gt1.result c.index-table-i.result c.table.invariant
      (omega arith) w.if-table-i-gt1.true
      w.swap.ensures.after w.swap.ensures.permutation w.table-is w.kept-is
  | else-table-i-gt1 w ↦ arm_past c.args.table.now c.table.table c.if-table-i-gt1.table c.table.kept c.table.i
      c.if-table-i-gt1.kept c.index-table-i.result c.table.invariant (omega arith) w.if-table-i-gt1.false w.table-is
      w.kept-is
]
