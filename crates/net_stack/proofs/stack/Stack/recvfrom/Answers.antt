use Rattle.std.proofs.Common.{length}
use Rattle.flat_model.specs.Machine.Event.{Receive}
use Rattle.flat_model.specs.Machine.Replies.{received_reply}
use Rattle.net_stack.proofs.CallLemmas.{Called, socks_called, with_socks, lent, lent_inside, lent_shows}
use Rattle.net_stack.proofs.stack.Stack.recvfrom.Goals as goal

all : (c : goal.After-slice_known-2-1) → Called c.args.self.now (Receive c.args.fd (length c.args.buffer.now))
    (received_reply c.recvfrom.result c.recvfrom.new.buffer)
    (with_socks (lent c.self.inside c.as_mut-host.result.now) c.recvfrom.new.pool c.recvfrom.new.self)
all c = socks_called (lent c.self.inside c.as_mut-host.result.now) c.args.self.now c.recvfrom.new.pool
    c.recvfrom.new.self (Receive c.args.fd (length c.args.buffer.now))
    (received_reply c.recvfrom.result c.recvfrom.new.buffer)
    (lent_inside c.self.inside c.as_mut-host.result.now c.as_mut-host.ensures.value c.self.invariant)
    (lent_shows c.self.inside c.as_mut-host.result.now c.args.self.now c.as_mut-host.ensures.value c.self.view_is) tt
    c.recvfrom.ensures.step c.recvfrom.ensures.ready c.recvfrom.ensures.moves

pub invariant_of-self : goal.invariant_of-self
invariant_of-self c = (all c).inside

pub returns-clause-step : goal.returns-clause-step
returns-clause-step c = (all c).step
