use Rattle.net_stack.proofs.CallLemmas.{lent_inside}
use Rattle.net_stack.proofs.stack.Stack.heads.Goals as goal

pub heads-requires : goal.heads-requires
heads-requires c = (lent_inside c.self.inside c.as_ref-host.result.now c.as_ref-host.ensures c.self.invariant).stack.socks

pub heads-requires-in-Output : goal.heads-requires-in-Output
heads-requires-in-Output c =
    (lent_inside c.self.inside c.as_ref-host.result.now c.as_ref-host.ensures c.self.invariant).stack.output

pub heads-requires-in-Unfinished : goal.heads-requires-in-Unfinished
heads-requires-in-Unfinished c =
    (lent_inside c.self.inside c.as_ref-host.result.now c.as_ref-host.ensures c.self.invariant).stack.reass.table
