use Rattle.protocols_tests.proofs.Hosted.{queue_left}
use Rattle.protocols_tests.proofs.socket_calls.host.Host.end.Goals as goal

pub end-requires-2-clause-out : goal.end-requires-2-clause-out
end-requires-2-clause-out c = queue_left c.self.inside.net c.self.invariant c.end.ensures
