use Rattle.flat_model.specs.Machine.Event.{Open}
use Rattle.flat_model.specs.Machine.Replies.{opened_reply}
use Rattle.net_stack.proofs.CallLemmas.{Called, blocks_called, with_socks, lent, lent_inside, lent_shows}
use Rattle.net_stack.proofs.stack.Stack.socket.Goals.{After-socket}
use Rattle.net_stack.proofs.stack.Stack.socket.Goals as goal

all : (c : After-socket) → Called c.args.self.now Open (opened_reply c.socket.result)
    (with_socks (lent c.self.inside c.deref_mut.result.now) c.deref_mut.result.now.pool c.socket.new.self)
all c = blocks_called (lent c.self.inside c.deref_mut.result.now) c.args.self.now c.socket.new.self Open
    (opened_reply c.socket.result) (lent_inside c.self.inside c.deref_mut.result.now c.deref_mut.ensures.value
    c.self.invariant) (lent_shows c.self.inside c.deref_mut.result.now c.args.self.now c.deref_mut.ensures.value
    c.self.view_is) tt c.socket.ensures

pub invariant_of-self : goal.invariant_of-self
invariant_of-self c = (all c.before).inside

pub returns : goal.returns
returns c = (all c.before).step
