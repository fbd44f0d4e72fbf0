-- The law of the output queue, for the three calls.
use Rattle.std.proofs.Common.{arith}
use Rattle.net_stack.specs.Stack.{state_of}
use Rattle.callers.proofs.Calls.{are_bytes}
use Rattle.callers.proofs.RunCalls.{first_two}
use Rattle.callers.proofs.laws_on_a_wire.take_two.Goals as goal

pub returns : goal.returns
returns c =
    first_two c.queue_law.ensures (state_of c.args.stack.now) (state_of c.tx-first.new.self) (state_of c.rx.new.self)
    (state_of c.tx-second.new.self) c.args.packet.now _ _ c.laws.ensures.stack.consistent.short
    (are_bytes c.args.packet.now (λ k. omega (arith, c.type_inv.packet k)), c.requires.packet) c.tx-first.ensures.step
    c.rx.ensures c.tx-second.ensures.step
