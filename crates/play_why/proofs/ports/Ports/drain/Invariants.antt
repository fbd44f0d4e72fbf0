use Rattle.std.proofs.Common.{◌≡◌, length}
use Rattle.params.specs.declared.TheConstants.{IP_MAX_PACKET}
use Rattle.flat_model.specs.Machine.State.{State}
use Rattle.net_stack.specs.Stack.{state_of}
use Rattle.play_why.specs.Sockets.{Drains}
use Rattle.play_why.proofs.ports.Ports.drain.Given as goal

abbrev pub invariant-bound : goal.invariant-bound
invariant-bound l =
    (length l.buffer ≡ IP_MAX_PACKET)
    × ((end : State) → Drains l.rest (state_of l.machine) end
    → Drains l.self.bound.items (state_of l.fn.machine) end)

abbrev pub decreases-bound : goal.decreases-bound
decreases-bound l = length l.rest
