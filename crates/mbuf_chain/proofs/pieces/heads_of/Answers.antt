use Rattle.mbuf_chain.proofs.Reading.{readable}
use Rattle.mbuf_chain.proofs.Reported.{reported_are}
use Rattle.mbuf_chain.proofs.pieces.heads_of.Goals as goal

pub invariant_of-result : goal.invariant_of-result
invariant_of-result c = readable _ _ c.requires.pool c.requires.live

pub returns : goal.returns
returns c = reported_are c.args.store.now c.args.first c.requires.pool c.requires.live
