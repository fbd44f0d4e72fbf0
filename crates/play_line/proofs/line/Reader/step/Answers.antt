use Rattle.std.proofs.Common.{rules}
use Rattle.play_line.specs.Line.{step}
use Rattle.play_line.proofs.line.Reader.step.Goals as goal

pub returns : goal.returns
unfolding step
returns c = search rules
