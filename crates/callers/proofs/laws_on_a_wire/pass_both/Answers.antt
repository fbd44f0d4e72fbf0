-- The law of progress, for the two arrivals.
use Rattle.std.proofs.Common.{arith}
use Rattle.net_stack.specs.Stack.{state_of}
use Rattle.callers.proofs.Calls.{are_bytes}
use Rattle.callers.proofs.RunCalls.{completed}
use Rattle.callers.proofs.laws_on_a_wire.pass_both.Goals as goal

pub returns : goal.returns
returns c parts reclaims buffers reclaims_count buffers_count =
    completed (state_of c.args.stack.now) c.args.first.now c.args.second.now parts c.progress_law.ensures
    (state_of c.rx.new.self) (state_of c.rx-2.new.self)
    (are_bytes c.args.second.now (λ k. omega (arith, c.type_inv.second k)), c.requires.second)
    (are_bytes c.args.first.now (λ k. omega (arith, c.type_inv.first k)), c.requires.first) c.rx.ensures
    c.rx-2.ensures reclaims buffers reclaims_count buffers_count
