use Rattle.std.proofs.Common.{◌≡◌, None, length}
use Rattle.play_why.specs.Shares.{busiest_after}
use Rattle.play_why.proofs.addresses.Addresses.busiest.Given as goal

abbrev pub invariant-shares : goal.invariant-shares
invariant-shares l =
    busiest_after l.self.all l.most l.rest ≡ busiest_after l.self.all None l.self.shares.items

abbrev pub decreases-shares : goal.decreases-shares
decreases-shares l = length l.rest
