use Rattle.std.proofs.Common.{sym, ◌∙◌, subst}
use Rattle.flat_ether.specs.Hosts.{ReceivesKind}
use Rattle.flat_ether.specs.declared.link.FrameKind.{FrameKind}
use Rattle.ether_host.specs.Inside.{link_seen}
use Rattle.ether_host.specs.View.{halves}
use Rattle.ether_host.proofs.layer.LinkLayer.receive.Goals as goal

pub returns-in-Packet-clause-takes : goal.returns-in-Packet-clause-takes
returns-in-Packet-clause-takes c =
    subst (λ (k : FrameKind). ReceivesKind k c.args.frame.now (halves c.args.stack.now (link_seen c.args.self.now))
    (halves c.take_packet.new.stack (link_seen c.take_packet.new.layer)))
    (sym (sym c.kind_of.ensures ∙ c.in-Packet.is))
    (record {
      fate = c.take_packet.result;
      machine = c.take_packet.ensures.fate;
      link = c.take_packet.ensures.link;
    })
