use Rattle.std.proofs.Common.{◌≡◌, length}
use Rattle.play_why.specs.Sockets.{is_bound}
use Rattle.play_why.proofs.ports.Ports.has.Given as goal

abbrev pub invariant-bound : goal.invariant-bound
invariant-bound l = is_bound l.port l.rest ≡ is_bound l.port l.self.bound.items

abbrev pub decreases-bound : goal.decreases-bound
decreases-bound l = length l.rest
