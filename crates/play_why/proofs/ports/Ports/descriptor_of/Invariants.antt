use Rattle.std.proofs.Common.{◌≡◌, length}
use Rattle.play_why.specs.Sockets.{descriptor_of}
use Rattle.play_why.proofs.ports.Ports.descriptor_of.Given as goal

abbrev pub invariant-bound : goal.invariant-bound
invariant-bound l = descriptor_of l.port l.rest ≡ descriptor_of l.port l.self.bound.items

abbrev pub decreases-bound : goal.decreases-bound
decreases-bound l = length l.rest
