-- The law of two stacks, of the stacks of the hosts.
use Rattle.std.proofs.Common.{List, subst}
use Rattle.flat_model.specs.Runs.Run.{Turn}
use Rattle.net_stack.specs.Wire.{AreOnOneWire}
use Rattle.segment.specs.Law.{turns_of}
use Rattle.segment.proofs.OneWire.{on_one_wire}
use Rattle.segment.proofs.laws.hosts_on_a_segment.Goals as goal

pub returns : goal.returns
returns c room i j first second s t acts last before after fd most sender bytes w is from =
    c.stacks_on_a_wire.ensures.received first second (turns_of i acts) before after s t fd most sender bytes
    (subst (λ (turns : List Turn). AreOnOneWire first second (turns_of i acts) turns s t) is
    (on_one_wire room i j first second s t acts last w)) from
