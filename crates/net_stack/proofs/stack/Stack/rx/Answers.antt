use Rattle.flat_model.specs.Machine.Event.{Comes, Done}
use Rattle.net_stack.specs.Inside.Arrivals.{fate_by}
use Rattle.net_stack.specs.Inside.Fields.{stack_of}
use Rattle.net_stack.proofs.CallLemmas.{Called, lent, lent_inside, lent_shows}
use Rattle.net_stack.proofs.TrafficLemmas.{are_bytes, come_owned, come_called}
use Rattle.net_stack.proofs.stack.Stack.rx.Goals as goal

pub receive-requires-clause-fit : goal.receive-requires-clause-fit
receive-requires-clause-fit c =
    let stack = (lent_inside c.self.inside c.deref_mut.result.now c.deref_mut.ensures.value c.self.invariant).stack in
    record {
      socks = stack.socks;
      reass = stack.reass;
      owned = come_owned (stack_of (lent c.self.inside c.deref_mut.result.now)) stack;
    }

all : (c : goal.After-self-1)
    → Called c.args.self.now (Comes c.args.packet.now) Done
    (record (lent c.self.inside c.deref_mut.result.now) { host = c.receive.new.self })
all c =
    come_called (lent c.self.inside c.deref_mut.result.now) c.args.self.now c.receive.new.self c.args.packet.now
    (fate_by c.receive.result c.receive.new.self.reached)
    (lent_inside c.self.inside c.deref_mut.result.now c.deref_mut.ensures.value c.self.invariant)
    (lent_shows c.self.inside c.deref_mut.result.now c.args.self.now c.deref_mut.ensures.value c.self.view_is)
    (are_bytes c.args.packet.now c.type_inv.packet, c.requires) c.receive.ensures.does c.receive.ensures.reass
    c.receive.ensures.output

pub invariant_of-self : goal.invariant_of-self
invariant_of-self c = (all c).inside

pub returns : goal.returns
returns c = (all c).step
