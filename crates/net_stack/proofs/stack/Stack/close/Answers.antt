use Rattle.flat_model.specs.Machine.Event.{Close}
use Rattle.flat_model.specs.Machine.Replies.{done_reply}
use Rattle.net_stack.proofs.CallLemmas.{Called, socks_called, with_socks, lent, lent_inside, lent_shows}
use Rattle.net_stack.proofs.stack.Stack.close.Goals.{After-close}
use Rattle.net_stack.proofs.stack.Stack.close.Goals as goal

all : (c : After-close) → Called c.args.self.now (Close c.args.fd) (done_reply c.close.result)
    (with_socks (lent c.self.inside c.as_mut-host.result.now) c.close.new.pool c.close.new.self)
all c = socks_called (lent c.self.inside c.as_mut-host.result.now) c.args.self.now c.close.new.pool c.close.new.self
    (Close c.args.fd) (done_reply c.close.result)
    (lent_inside c.self.inside c.as_mut-host.result.now c.as_mut-host.ensures.value c.self.invariant)
    (lent_shows c.self.inside c.as_mut-host.result.now c.args.self.now c.as_mut-host.ensures.value c.self.view_is) tt
    c.close.ensures.step c.close.ensures.ready c.close.ensures.moves

pub invariant_of-self : goal.invariant_of-self
invariant_of-self c = (all c.before).inside

pub returns : goal.returns
returns c = (all c.before).step
