-- The laws of two machines without end, of the machines that the stacks show.
use Rattle.std.proofs.Common.{List, subst}
use Rattle.flat_model.specs.Machine.Ledger.{exact_ledger}
use Rattle.flat_model.specs.Runs.Run.{Turn}
use Rattle.flat_wire.specs.Ever.{AreAllSent}
use Rattle.flat_wire.specs.Wire.{WasSent}
use Rattle.net_stack.proofs.OneWire.{turns_are, wired_for_ever, wired_whole}
use Rattle.net_stack.specs.Runs.{steps_of}
use Rattle.net_stack.specs.Stack.{state_of}
use Rattle.net_stack.proofs.laws.stacks_on_a_wire_for_ever.Goals as goal

pub returns-clause-whole : goal.returns-clause-whole
returns-clause-whole c first second sent before after s t fd most sender bytes w from =
    c.wire_law_of_whole.ensures.received first second sent before after (state_of s) (state_of t) fd most sender bytes
    (wired_whole first second sent _ s t w) from

pub returns-clause-whole_waits : goal.returns-clause-whole_waits
returns-clause-whole_waits c first second sent came s t w =
    c.wire_law_of_whole.ensures.waits first second sent came (state_of s) (state_of t)
    (wired_whole first second sent came s t w)

pub returns-clause-received : goal.returns-clause-received
returns-clause-received c first second sent before after s t born fd most sender bytes w from =
    subst (λ (turns : List Turn).
    WasSent exact_ledger exact_ledger first second turns before (state_of s) fd most sender bytes) (turns_are sent)
    (c.wire_law_for_ever.ensures.received first second (steps_of sent) before after (state_of s) (state_of t) born fd
    most sender bytes (wired_for_ever first second sent _ s t born w) from)

pub returns-clause-waits : goal.returns-clause-waits
returns-clause-waits c first second sent came s t born w =
    subst (λ (turns : List Turn). AreAllSent exact_ledger first second turns (state_of s) (state_of t)) (turns_are sent)
    (c.wire_law_for_ever.ensures.waits first second (steps_of sent) came (state_of s) (state_of t) born
    (wired_for_ever first second sent came s t born w))
