use Rattle.std.proofs.Common.{length}
use Rattle.script_loop.specs.Left.{left}
use Rattle.play_wire.proofs.link.link_of.Given as goal

abbrev pub decreases-words : goal.decreases-words
decreases-words l = length (left l.rest)
