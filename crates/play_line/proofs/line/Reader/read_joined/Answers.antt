use Rattle.std.proofs.Common.{rules}
use Rattle.play_line.specs.Line.{joined_part}
use Rattle.play_line.proofs.line.Reader.read_joined.Goals as goal

pub returns : goal.returns
unfolding joined_part
returns c = search rules
