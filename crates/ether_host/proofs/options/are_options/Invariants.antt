use Rattle.std.proofs.Common.{◌≡◌, length}
use Rattle.flat_ether.specs.Options.{are_options}
use Rattle.ether_host.proofs.options.are_options.Given as goal

abbrev pub invariant-loop-rest : goal.invariant-loop-rest
invariant-loop-rest l = are_options l.left l.rest ≡ are_options 0 l.fn.options

abbrev pub decreases-loop-rest : goal.decreases-loop-rest
decreases-loop-rest l = length l.rest
