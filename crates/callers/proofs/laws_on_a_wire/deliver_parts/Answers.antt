use Rattle.std.proofs.Common.{◌≡◌, false, true, sym, ◌∙◌}
use Rattle.net_stack.specs.Stack.{state_of}
use Rattle.callers.specs.declared.laws_on_a_wire.TheConstants.{SOCKET, PORT}
use Rattle.callers.proofs.Parts.{bound, opened}
use Rattle.callers.proofs.laws_on_a_wire.deliver_parts.Goals as goal
use Rattle.callers.proofs.laws_on_a_wire.deliver_parts.Goals.{in-Ok-socket, in-Err}

no : false ≡ true → ⊥
no e = cc

pub pass_parts-done-requires-clause-second : goal.pass_parts-done-requires-clause-second
pass_parts-done-requires-clause-second c =
    bound SOCKET (record { ip = 0; port = PORT }) (state_of c.socket.new.self) (state_of c.bind.new.self) _
    (opened (state_of c.in-Ok.second) (state_of c.socket.new.self) _ c.in-Ok.ensures.booted.1 c.socket.ensures)
    c.bind.ensures

pub returns : goal.returns
returns c = λ e. elim c.match-socket.branch [
  | in-Ok-socket w ↦ w.pass_parts-done.ensures (sym w.done-is ∙ e)
  | in-Err w ↦ absurd (no (sym w.done-is ∙ e))
]
