use Rattle.flat_model.specs.Machine.Event.{Set_option}
use Rattle.flat_model.specs.Machine.Replies.{done_reply}
use Rattle.net_stack.proofs.CallLemmas.{Called, blocks_called, with_socks, lent, lent_inside, lent_shows}
use Rattle.net_stack.proofs.stack.Stack.setsockopt.Goals.{After-setsockopt}
use Rattle.net_stack.proofs.stack.Stack.setsockopt.Goals as goal

all : (c : After-setsockopt) → Called c.args.self.now (Set_option c.args.fd c.args.option c.args.on)
    (done_reply c.setsockopt.result) (with_socks (lent c.self.inside c.deref_mut.result.now) c.deref_mut.result.now.pool
    c.setsockopt.new.self)
all c = blocks_called (lent c.self.inside c.deref_mut.result.now) c.args.self.now c.setsockopt.new.self
    (Set_option c.args.fd c.args.option c.args.on) (done_reply c.setsockopt.result)
    (lent_inside c.self.inside c.deref_mut.result.now c.deref_mut.ensures.value c.self.invariant)
    (lent_shows c.self.inside c.deref_mut.result.now c.args.self.now c.deref_mut.ensures.value c.self.view_is) tt
    c.setsockopt.ensures

pub invariant_of-self : goal.invariant_of-self
invariant_of-self c = (all c.before).inside

pub returns : goal.returns
returns c = (all c.before).step
