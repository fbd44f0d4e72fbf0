use Rattle.play_pcap.specs.Traces.{pass_at}
use Rattle.play_script.proofs.CaptureLemmas.{Keeps-one}
use Rattle.play_script.proofs.capture_out.Capture.keep.Goals as goal

pub returns-clause-logs : goal.returns-clause-logs
returns-clause-logs g c = (
  Keeps-one c.args.self.now.trace c.keep.new.self
      (pass_at c.args.self.now.trace.ticks c.args.self.now.line c.args.packet.now) c.keep.ensures.kept,
  c.keep.ensures.ticks,
)
