use Rattle.std.proofs.Common.{sym, subst}
use Rattle.flat_model.specs.Machine.Event.{Comes, Done}
use Rattle.flat_model.specs.Machine.Fate.{Fated}
use Rattle.flat_model.specs.declared.fate.Fate.{Fate}
use Rattle.net_stack.specs.Stack.{state_of}
use Rattle.net_stack.specs.Inside.Arrivals.{fate_by}
use Rattle.net_stack.specs.Inside.Fields.{stack_of}
use Rattle.net_stack.proofs.CallLemmas.{Called, lent, lent_inside, lent_shows}
use Rattle.net_stack.proofs.TrafficLemmas.{are_bytes, come_owned, come_called, come_fated}
use Rattle.net_stack.proofs.stack.Stack.rx_told.Goals as goal
use Rattle.net_stack.proofs.stack.Stack.rx_told.Goals.{After-receive-ending}

pub receive-ending-requires-clause-fit : goal.receive-ending-requires-clause-fit
receive-ending-requires-clause-fit c =
    let stack =
    (lent_inside c.self.inside c.as_mut-host.result.now c.as_mut-host.ensures.value c.self.invariant).stack in
    record {
      socks = stack.socks;
      reass = stack.reass;
      owned = come_owned (stack_of (lent c.self.inside c.as_mut-host.result.now)) stack;
    }

all : (c : After-receive-ending)
    → Called c.args.self.now (Comes c.args.packet.now) Done
    (record (lent c.self.inside c.as_mut-host.result.now) { host = c.receive-ending.new.self })
all c =
    come_called (lent c.self.inside c.as_mut-host.result.now) c.args.self.now c.receive-ending.new.self
    c.args.packet.now (fate_by c.receive-ending.result c.receive-ending.new.self.reached)
    (lent_inside c.self.inside c.as_mut-host.result.now c.as_mut-host.ensures.value c.self.invariant)
    (lent_shows c.self.inside c.as_mut-host.result.now c.args.self.now c.as_mut-host.ensures.value c.self.view_is)
    (are_bytes c.args.packet.now c.type_inv.packet, c.requires) c.receive-ending.ensures.does
    c.receive-ending.ensures.reass c.receive-ending.ensures.output

pub invariant_of-self : goal.invariant_of-self
invariant_of-self c = (all (goal.at.invariant_of-self c).After-receive-ending).inside

pub returns-clause-step : goal.returns-clause-step
returns-clause-step c = (all (goal.at.returns-clause-step c).After-receive-ending).step

pub returns-clause-fate : goal.returns-clause-fate
returns-clause-fate c =
    let n = record (lent c.self.inside c.as_mut-host.result.now) { host = c.receive-ending.new.self } in
    subst (λ (fate : Fate). Fated (state_of c.args.self.now) c.args.packet.now fate (state_of (stack_of n)))
    (sym c.fate.ensures)
    (come_fated (lent c.self.inside c.as_mut-host.result.now) c.args.self.now c.receive-ending.new.self
    c.args.packet.now (fate_by c.receive-ending.result c.receive-ending.new.self.reached)
    (lent_inside c.self.inside c.as_mut-host.result.now c.as_mut-host.ensures.value c.self.invariant)
    (lent_shows c.self.inside c.as_mut-host.result.now c.args.self.now c.as_mut-host.ensures.value c.self.view_is)
    c.receive-ending.ensures.does c.receive-ending.ensures.output)
