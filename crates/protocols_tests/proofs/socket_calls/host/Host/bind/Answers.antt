use Rattle.protocols_tests.proofs.Hosted.{after_call}
use Rattle.protocols_tests.proofs.socket_calls.host.Host.bind.Goals as goal

pub invariant_of-self : goal.invariant_of-self
invariant_of-self c =
    after_call c.self.inside.net c.self.invariant (c.bind.ensures c.self.inside.pool c.self.invariant.0)
