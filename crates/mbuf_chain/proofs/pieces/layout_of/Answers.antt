use Rattle.std.proofs.Common.{ap}
use Rattle.mbuf_chain.specs.Chain.{layout_of}
use Rattle.mbuf_chain.proofs.Reading.{readable, entries_are}
use Rattle.mbuf_chain.proofs.pieces.layout_of.Goals as goal

pub invariant_of-result : goal.invariant_of-result
invariant_of-result c = readable _ _ c.requires.pool c.requires.live

pub returns : goal.returns
returns c = ap layout_of (entries_are c.args.store.now c.args.first c.requires.pool c.requires.live)
