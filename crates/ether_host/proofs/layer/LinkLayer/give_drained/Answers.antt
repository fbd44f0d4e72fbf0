use Rattle.flat_ether.specs.Hosts.{Host, drained}
use Rattle.flat_ether.specs.Links.{gives_own}
use Rattle.net_stack.specs.Stack.{state_of}
use Rattle.ether_host.specs.Inside.{link_seen}
use Rattle.ether_host.specs.View.{halves}
use Rattle.ether_host.proofs.Giving.{after_none}
use Rattle.ether_host.proofs.layer.LinkLayer.give_drained.Goals as goal

pub returns-clause-step : goal.returns-clause-step
returns-clause-step c =
    let h : Host = halves c.args.stack.now (link_seen c.args.self.now) in
    after_none gives_own h (drained h.machine.output h.link) (state_of c.drain.new.stack) (link_seen c.drain.new.layer)
    (link_seen c.give_own.new.self) _ c.in_default.ensures.frame c.in_default.ensures.link c.in_default.ensures.stack
    c.give_own.ensures.frame c.give_own.ensures.link
