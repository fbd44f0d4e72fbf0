use Rattle.std.proofs.Common.{arith}
use Rattle.flat_model.specs.Machine.Event.{Set_limit}
use Rattle.flat_model.specs.Machine.Replies.{done_reply}
use Rattle.net_stack.proofs.CallLemmas.{Called, blocks_called, with_socks, lent, lent_inside, lent_shows}
use Rattle.net_stack.proofs.stack.Stack.set_receive_limit.Goals.{After-set_limit}
use Rattle.net_stack.proofs.stack.Stack.set_receive_limit.Goals as goal

all : (c : After-set_limit) → Called c.args.self.now (Set_limit c.args.fd c.args.limit)
    (done_reply c.set_limit.result) (with_socks (lent c.self.inside c.deref_mut.result.now) c.deref_mut.result.now.pool
    c.set_limit.new.self)
all c = blocks_called (lent c.self.inside c.deref_mut.result.now) c.args.self.now c.set_limit.new.self
    (Set_limit c.args.fd c.args.limit) (done_reply c.set_limit.result)
    (lent_inside c.self.inside c.deref_mut.result.now c.deref_mut.ensures.value c.self.invariant)
    (lent_shows c.self.inside c.deref_mut.result.now c.args.self.now c.deref_mut.ensures.value c.self.view_is)
    (omega (arith, c.ranges.limit.fits)) c.set_limit.ensures

pub invariant_of-self : goal.invariant_of-self
invariant_of-self c = (all c.before).inside

pub returns : goal.returns
returns c = (all c.before).step
