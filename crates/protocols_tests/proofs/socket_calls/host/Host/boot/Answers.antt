use Rattle.protocols_tests.proofs.Hosted.{starts}
use Rattle.protocols_tests.proofs.socket_calls.host.Host.boot.Goals as goal

pub invariant_of-result : goal.invariant_of-result
invariant_of-result g c =
    let ready = rw c.expect-socks.ensures at c.boot-2.ensures.ready in
    starts c.over.result c.expect-socks.result c.new.result (ready c.over.result) (c.new.ensures.out c.over.result)
    c.new.ensures.waits c.new.ensures.looped
