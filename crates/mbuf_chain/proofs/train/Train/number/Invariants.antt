use Rattle.std.proofs.Common.{Some, drop}
use Rattle.mbuf_chain.specs.Train.{numbers}
use Rattle.mbuf_chain.proofs.Runs.{IsRun}
use Rattle.mbuf_chain.proofs.train.Train.number.Given as goal

-- the chains that the loop hasn't passed are linked from here on
abbrev pub invariant-chains : goal.invariant-chains
invariant-chains l = IsRun l.pool (Some l.at) (drop l._passed (numbers l.pool l.self))
