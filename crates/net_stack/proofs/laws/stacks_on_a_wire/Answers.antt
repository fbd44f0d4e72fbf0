-- The laws of two machines, of the machines that the stacks show.
use Rattle.net_stack.proofs.OneWire.{wired}
use Rattle.net_stack.specs.Stack.{state_of}
use Rattle.net_stack.proofs.laws.stacks_on_a_wire.Goals as goal

pub returns-clause-received : goal.returns-clause-received
returns-clause-received c first second sent before after s t fd most sender bytes w from =
    c.received_law.ensures first second sent before after (state_of s) (state_of t) fd most sender bytes
    (wired first second sent _ s t w) from

pub returns-clause-waits : goal.returns-clause-waits
returns-clause-waits c first second sent came s t socket d w in_sockets in_queue from =
    c.wire_law.ensures first second sent came (state_of s) (state_of t) (wired first second sent came s t w) socket d
    in_sockets in_queue from
