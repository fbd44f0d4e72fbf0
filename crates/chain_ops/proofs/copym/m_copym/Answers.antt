use Rattle.std.proofs.Common.{ap, sym, ◌∙◌}
use Rattle.std.proofs.lemmas.Result.{IfOk-weaker}
use Rattle.mbuf_chain.specs.Chain.{ChainView, chain_of, flat_bytes, string}
use Rattle.chain_ops.specs.Rooms.{room_low}
use Rattle.chain_ops.specs.Copies.{copy_header}
use Rattle.chain_ops.specs.Extents.{extent_bytes}
use Rattle.chain_ops.proofs.Laws.Strings.{copied_bytes, copied_all_bytes}
use Rattle.chain_ops.specs.declared.copym.Extent.{Extent}
use Rattle.chain_ops.proofs.copym.m_copym.Goals as goal

pub returns-in-All-clause-string : goal.returns-in-All-clause-string
returns-in-All-clause-string c =
    let v : ChainView = chain_of c.args.pool.now c.args.chain.now in
    IfOk-weaker c.copy_all.result _ _
    (λ d m. ap flat_bytes m.entries ∙ copied_all_bytes (room_low v.front.header) v.entries
    ∙ ap (λ (r : Extent). extent_bytes r (string v)) (sym c.in-All.is))
    c.copy_all.ensures.ok

pub returns-in-Part-clause-string : goal.returns-in-Part-clause-string
returns-in-Part-clause-string c =
    let v : ChainView = chain_of c.args.pool.now c.args.chain.now in
    IfOk-weaker c.copy_range.result _ _
    (λ d m. ap flat_bytes m.entries
    ∙ copied_bytes (copy_header v.front.header c.in-Part.off) v.entries c.in-Part.off c.in-Part.len
    ∙ ap (λ (r : Extent). extent_bytes r (string v)) (sym c.in-Part.is))
    c.copy_range.ensures.ok
