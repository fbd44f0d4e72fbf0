use Rattle.std.proofs.Common.{arith}
use Rattle.pcb_table.proofs.Circle.{some_port_free}
use Rattle.pcb_table.proofs.ports.next_free.Goals as goal

-- otherwise each ephemeral port would be in use
pub unreachable-requires : goal.unreachable-requires
unreachable-requires c =
    some_port_free c.args.blocks.now c.args.last c.args.local
    (omega (arith, c.len-few.ensures.value, c.len-few.ensures.few))
    (λ k lt. c.loop-turns.invariant k (omega (arith, c.loop-turns-test.false)))
