use Rattle.protocols_tests.proofs.Hosted.{after_socks}
use Rattle.protocols_tests.proofs.socket_calls.host.Host.close.Goals as goal

pub invariant_of-self : goal.invariant_of-self
invariant_of-self c = after_socks c.self.inside.net c.self.invariant c.close.ensures.ready c.close.ensures.moves
