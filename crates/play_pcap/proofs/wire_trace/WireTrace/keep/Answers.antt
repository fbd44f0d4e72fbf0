use Rattle.play_pcap.proofs.WireTraces.{record_kept}
use Rattle.play_pcap.proofs.wire_trace.WireTrace.keep.Goals as goal

pub returns-clause-kept : goal.returns-clause-kept
returns-clause-kept g c =
    record_kept c.args.self.now c.head.new.self c.self.inside.trace c.keep.new.self c.self.inside.link
    c.self.inside.headed c.args.line c.args.bytes.now c.self.view_is c.head.ensures.kept c.head.ensures.ticks
    c.keep.ensures.kept
