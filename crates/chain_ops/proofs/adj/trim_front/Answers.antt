use Rattle.std.proofs.Common.{ap}
use Rattle.mbuf_chain.specs.declared.place.Segment.{Segment}
use Rattle.chain_ops.proofs.Trims.{trim_first}
use Rattle.chain_ops.proofs.adj.trim_front.Goals as goal

pub returns-then-n-len : goal.returns-then-n-len
returns-then-n-len c =
    trim_first _ _ _ c.first-first.result c.args.n c.segment-len.result.len c.requires c.first-first.ensures.place
    c.first-first.ensures.index (ap (λ (x : Segment). x.len) c.segment-len.ensures.value) c.if-n-len.true
    c.narrow.ensures
