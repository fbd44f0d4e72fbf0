use Rattle.play_pcap.proofs.WireTraces.{head_kept}
use Rattle.play_pcap.proofs.wire_trace.WireTrace.head.Goals as goal

pub returns-clause-kept : goal.returns-clause-kept
returns-clause-kept g c =
    head_kept c.self.inside.trace c.head.new.self c.self.inside.link c.self.inside.headed c.args.self.now
    c.self.view_is c.if-self.false c.head.ensures.kept
