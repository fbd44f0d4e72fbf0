use Rattle.std.proofs.Common.{◌≡◌}
use Rattle.play_line.specs.Line.{line_after, reader_front, line_read}
use Rattle.play_line.proofs.line.Reader.read.Given as goal

abbrev pub invariant-loop-rounds : goal.invariant-loop-rounds
invariant-loop-rounds l = line_after l.rounds l.goal (reader_front l.self l.left) ≡ line_read l.goal l.line

abbrev pub decreases-loop-rounds : goal.decreases-loop-rounds
decreases-loop-rounds l = l.rounds
