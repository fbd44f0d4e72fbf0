use Rattle.std.proofs.Common.{arith}
use Rattle.net_stack.proofs.CallLemmas.{lent_inside}
use Rattle.net_stack.proofs.stack.Stack.references.Goals as goal

pub count-requires : goal.count-requires
count-requires c =
    omega (
      arith,
      c.if-cluster-self.true,
      (lent_inside c.self.inside c.deref.result.now c.deref.ensures c.self.invariant).stack.clusters,
    )
