use Rattle.std.proofs.Common.{length}
use Rattle.script_loop.specs.Left.{left}
use Rattle.play_wire.proofs.hosts.addr_in.Given as goal

abbrev pub decreases-words : goal.decreases-words
decreases-words l = length (left l.rest)
