use Rattle.flat_plain.proofs.Weighing.{AreCounted}
use Rattle.flat_plain.proofs.pools.usage.Given as goal

abbrev pub invariant-loop-c : goal.invariant-loop-c
invariant-loop-c l = AreCounted l.bag l.c l.free_clusters l.refs l.most
