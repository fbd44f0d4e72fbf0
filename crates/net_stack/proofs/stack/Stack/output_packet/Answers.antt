use Rattle.std.proofs.Common.{◌≡◌, ◌≤◌, length, take, subst, sym}
use Rattle.std.specs.Prelude.{option_map}
use Rattle.ip_out.specs.Packets.{train_packets}
use Rattle.ip_out.specs.Questions.{nth_packet}
use Rattle.net_stack.specs.Stack.{StackView, state_of}
use Rattle.net_stack.proofs.CallLemmas.{are_within, lent, lent_inside, lent_shows}
use Rattle.net_stack.proofs.Tx.{nth_within}
use Rattle.net_stack.proofs.stack.Stack.output_packet.Goals as goal

pub packet-requires-clause-queue : goal.packet-requires-clause-queue
packet-requires-clause-queue c = (lent_inside c.self.inside c.as_ref-host.result.now c.as_ref-host.ensures
    c.self.invariant).stack.output

pub packet-requires-clause-fits : goal.packet-requires-clause-fits
packet-requires-clause-fits c =
    nth_within c.args.i (length c.args.buffer.now)
    (train_packets c.as_ref-host.result.now.pool c.as_ref-host.result.now.net.out)
    (are_within (lent c.self.inside c.as_ref-host.result.now) (length c.args.buffer.now)
    (lent_inside c.self.inside c.as_ref-host.result.now c.as_ref-host.ensures c.self.invariant)
    (subst (λ (s : StackView). s.config.mtu ≤ length c.args.buffer.now)
    (sym (lent_shows c.self.inside c.as_ref-host.result.now c.args.self.now c.as_ref-host.ensures c.self.view_is))
    c.requires))

pub returns-clause-packet : goal.returns-clause-packet
returns-clause-packet c =
    subst (λ (v : StackView). option_map (λ n. take n c.packet.new.buffer) c.packet.result
    ≡ nth_packet c.args.i (state_of v).output)
    (lent_shows c.self.inside c.as_ref-host.result.now c.args.self.now c.as_ref-host.ensures c.self.view_is)
    c.packet.ensures.packet
