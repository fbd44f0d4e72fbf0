use Rattle.std.proofs.Common.{ℕ, List, subst}
use Rattle.flat_model.specs.Machine.Fate.{Fated}
use Rattle.flat_ether.specs.Options.{plain}
use Rattle.net_stack.specs.Stack.{state_of}
use Rattle.ether_host.proofs.packets.take_packet.Goals as goal

pub returns-then-is-clause-fate : goal.returns-then-is-clause-fate
returns-then-is-clause-fate c =
    subst (λ (p : List ℕ). Fated (state_of c.args.stack.now) (plain p) c.pass-fate.result
    (state_of c.pass-fate.new.stack)) c.body_of-packet.ensures c.pass-fate.ensures.fate

pub returns-else-is-clause-fate : goal.returns-else-is-clause-fate
returns-else-is-clause-fate c =
    subst (λ (p : List ℕ). Fated (state_of c.args.stack.now) (plain p) c.pass-fate.result
    (state_of c.pass-fate.new.stack)) c.body_of-packet.ensures c.pass-fate.ensures.fate
