use Rattle.std.proofs.Common.{arith}
use Rattle.flat_model.specs.Machine.Event.{Bind}
use Rattle.flat_model.specs.Machine.Replies.{done_reply}
use Rattle.net_stack.proofs.CallLemmas.{Called, blocks_called, with_socks, lent, lent_inside, lent_shows}
use Rattle.net_stack.proofs.stack.Stack.bind.Goals.{After-bind}
use Rattle.net_stack.proofs.stack.Stack.bind.Goals as goal

all : (c : After-bind) → Called c.args.self.now (Bind c.args.fd c.args.local) (done_reply c.bind.result)
    (with_socks (lent c.self.inside c.deref_mut.result.now) c.deref_mut.result.now.pool c.bind.new.self)
all c = blocks_called (lent c.self.inside c.deref_mut.result.now) c.args.self.now c.bind.new.self
    (Bind c.args.fd c.args.local) (done_reply c.bind.result)
    (lent_inside c.self.inside c.deref_mut.result.now c.deref_mut.ensures.value c.self.invariant)
    (lent_shows c.self.inside c.deref_mut.result.now c.args.self.now c.deref_mut.ensures.value c.self.view_is)
    (record { ip = omega arith; port = omega arith }) c.bind.ensures

pub invariant_of-self : goal.invariant_of-self
invariant_of-self c = (all c.before).inside

pub returns : goal.returns
returns c = (all c.before).step
