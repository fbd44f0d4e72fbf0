use Rattle.std.proofs.Common.{ℕ, ap, ◌∙◌}
use Rattle.flat_model.specs.Machine.Event.{Tick, Done}
use Rattle.flat_model.specs.Machine.Count.{counts_more}
use Rattle.flat_model.specs.declared.counter.Counter.TheVariants.{IpFragtimeout}
use Rattle.net_stack.proofs.CallLemmas.{Called, reass_called, with_reass, lent, lent_inside, lent_shows}
use Rattle.net_stack.proofs.stack.Stack.tick.Goals.{After-count_more}
use Rattle.net_stack.proofs.stack.Stack.tick.Goals as goal

all : (c : After-count_more) → Called c.args.self.now Tick Done
    (with_reass (lent c.self.inside c.as_mut-host.result.now) c.tick-ended.new.pool c.tick-ended.new.self
    c.count_more.new.self)
all c = reass_called (lent c.self.inside c.as_mut-host.result.now) c.args.self.now c.tick-ended.new.pool
    c.tick-ended.new.self c.tick-ended.result c.count_more.new.self
    (lent_inside c.self.inside c.as_mut-host.result.now c.as_mut-host.ensures.value c.self.invariant)
    (lent_shows c.self.inside c.as_mut-host.result.now c.args.self.now c.as_mut-host.ensures.value c.self.view_is)
    c.tick-ended.ensures.step c.tick-ended.ensures.ready c.tick-ended.ensures.moves
    (c.count_more.ensures ∙ ap (λ (n : ℕ). counts_more IpFragtimeout n c.as_mut-host.result.now.net.counters)
    c.from.ensures)

pub invariant_of-self : goal.invariant_of-self
invariant_of-self c = (all c.before).inside

pub returns : goal.returns
returns c = (all c.before).step
