use Rattle.std.proofs.Common.{refl}
use Rattle.play_script.proofs.CaptureLemmas.{Keeps-none}
use Rattle.play_script.proofs.capture_out.Capture.keep_moved.Goals as goal

pub returns-in-Some-clause-logs : goal.returns-in-Some-clause-logs
returns-in-Some-clause-logs g c = rw c.in-Some.is c.keep.ensures.logs

pub returns-in_default-clause-logs : goal.returns-in_default-clause-logs
returns-in_default-clause-logs g c = rw c.in_default.is (Keeps-none c.args.self.now.trace, refl)
