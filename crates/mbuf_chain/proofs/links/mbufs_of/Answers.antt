use Rattle.std.proofs.Common.{sym, ap, ◌∙◌}
use Rattle.mbuf_chain.specs.Inside.Cells.{weigh, one}
use Rattle.mbuf_chain.proofs.Focused.{open_on, whole_of, count_cells}
use Rattle.mbuf_chain.proofs.links.mbufs_of.Goals as goal

pub count_from-requires-clause-whole : goal.count_from-requires-clause-whole
count_from-requires-clause-whole c = whole_of _ _ (open_on _ _ c.requires.pool c.requires.live).at

pub returns : goal.returns
returns c =
    let o = open_on c.args.store.now c.args.first c.requires.pool c.requires.live in
    c.count_from.ensures ∙ ap (weigh one) o.at.walks ∙ sym (count_cells _ _ o.at)
