use Rattle.request.specs.Replies.{packet_behind}
use Rattle.play_script.proofs.CaptureLemmas.{Logs-ticks}
use Rattle.play_script.proofs.capture_out.Capture.keep_action.Goals as goal

pub returns-clause-logs : goal.returns-clause-logs
returns-clause-logs g c =
    Logs-ticks c.args.self.now.line c.args.ticks c.args.self.now.trace c.keep_moved.new.self.trace
    c.tick.new.self.trace (packet_behind c.args.moved) c.keep_moved.ensures.logs c.tick.ensures.trace
