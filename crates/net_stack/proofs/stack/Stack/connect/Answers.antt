use Rattle.std.proofs.Common.{arith}
use Rattle.flat_model.specs.Machine.Event.{Connect}
use Rattle.flat_model.specs.Machine.Replies.{done_reply}
use Rattle.net_stack.proofs.CallLemmas.{Called, blocks_called, with_socks, lent, lent_inside, lent_shows}
use Rattle.net_stack.proofs.stack.Stack.connect.Goals.{After-connect}
use Rattle.net_stack.proofs.stack.Stack.connect.Goals as goal

all : (c : After-connect) → Called c.args.self.now (Connect c.args.fd c.args.to) (done_reply c.connect.result)
    (with_socks (lent c.self.inside c.deref_mut.result.now) c.deref_mut.result.now.pool c.connect.new.self)
all c = blocks_called (lent c.self.inside c.deref_mut.result.now) c.args.self.now c.connect.new.self
    (Connect c.args.fd c.args.to) (done_reply c.connect.result)
    (lent_inside c.self.inside c.deref_mut.result.now c.deref_mut.ensures.value c.self.invariant)
    (lent_shows c.self.inside c.deref_mut.result.now c.args.self.now c.deref_mut.ensures.value c.self.view_is)
    (record { ip = omega arith; port = omega arith }) c.connect.ensures

pub invariant_of-self : goal.invariant_of-self
invariant_of-self c = (all c.before).inside

pub returns : goal.returns
returns c = (all c.before).step
