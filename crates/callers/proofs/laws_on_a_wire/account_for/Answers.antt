-- The law of conservation, for the three calls.
use Rattle.std.proofs.Common.{ap, arith, subst, sym}
use Rattle.flat_model.specs.Machine.State.{State}
use Rattle.flat_model.specs.Runs.Consistent.{IsConsistent}
use Rattle.net_stack.specs.Stack.{state_of}
use Rattle.callers.specs.declared.laws_on_a_wire.TheConstants.{FIRST, PORT}
use Rattle.callers.proofs.Calls.{are_bytes, counted}
use Rattle.callers.proofs.RunCalls.{accounted}
use Rattle.callers.proofs.laws_on_a_wire.account_for.Goals as goal

pub returns : goal.returns
returns c =
    accounted (state_of c.in_ok-stack.stack) (state_of c.socket.new.self) (state_of c.bind.new.self)
    (state_of c.rx_told-fate.new.self) (record { ip = 0; port = PORT }) _ _ c.args.packet.now c.rx_told-fate.result
    c.conservation_law.ensures
    (subst IsConsistent (sym c.in_ok-stack.ensures.booted.1)
    (c.states_are_consistent.ensures.start FIRST c.in_ok-stack.ensures.booted.0))
    (ap (λ (s : State). s.counters) c.in_ok-stack.ensures.booted.1) (record { ip = omega arith; port = omega arith })
    (are_bytes c.args.packet.now (λ k. omega (arith, c.type_inv.packet k)), c.requires) c.socket.ensures c.bind.ensures
    c.rx_told-fate.ensures.fate _ (counted _ _ c.counters-counters.ensures.0)
