-- The laws of two stacks without end, of the stacks of the hosts.
use Rattle.std.proofs.Common.{List, subst}
use Rattle.flat_model.specs.Machine.Ledger.{exact_ledger}
use Rattle.flat_model.specs.Runs.Run.{Turn}
use Rattle.flat_wire.specs.Ever.{AreAllSent}
use Rattle.flat_wire.specs.Wire.{WasSent}
use Rattle.net_stack.specs.Stack.{state_of}
use Rattle.net_stack.specs.Wire.{AreOnOneWireForEver, AreOnOneWireWhole}
use Rattle.segment.specs.Law.{turns_of}
use Rattle.segment.proofs.OneWire.{endless, on_one_wire_whole}
use Rattle.segment.proofs.laws.hosts_on_a_segment_for_ever.Goals as goal

pub returns-clause-whole : goal.returns-clause-whole
returns-clause-whole c room i j first second s t acts last before after fd most sender bytes w is from =
    c.stacks_on_a_wire_for_ever.ensures.whole first second (turns_of i acts) before after s t fd most sender bytes
    (subst (λ (turns : List Turn). AreOnOneWireWhole first second (turns_of i acts) turns s t) is
    (on_one_wire_whole room i j first second s t acts last w)) from

pub returns-clause-whole_waits : goal.returns-clause-whole_waits
returns-clause-whole_waits c room i j first second s t acts last w =
    c.stacks_on_a_wire_for_ever.ensures.whole_waits first second (turns_of i acts) (turns_of j acts) s t
    (on_one_wire_whole room i j first second s t acts last w)

pub returns-clause-received : goal.returns-clause-received
returns-clause-received c room i j first second s t acts last delay before after fd most sender bytes w is from =
    let e = endless room i j first second s t acts last delay w in
    subst (λ (turns : List Turn).
    WasSent exact_ledger exact_ledger first second turns before (state_of s) fd most sender bytes) e.turns_are
    (c.stacks_on_a_wire_for_ever.ensures.received first second e.sent before after s t e.born fd most sender bytes
    (subst (λ (turns : List Turn). AreOnOneWireForEver first second e.sent turns s t e.born) is e.wired) from)

pub returns-clause-waits : goal.returns-clause-waits
returns-clause-waits c room i j first second s t acts last delay w =
    let e = endless room i j first second s t acts last delay w in
    subst (λ (turns : List Turn). AreAllSent exact_ledger first second turns (state_of s) (state_of t)) e.turns_are
    (c.stacks_on_a_wire_for_ever.ensures.waits first second e.sent (turns_of j acts) s t e.born e.wired)
