use Rattle.std.proofs.Common.{sym, ap, ◌∙◌}
use Rattle.mbuf_pool.specs.Cells.{Head}
use Rattle.mbuf_chain.proofs.Focused.{open_on, first_out, whole_of}
use Rattle.mbuf_chain.proofs.Joins.{total_is, sum_is}
use Rattle.mbuf_chain.proofs.links.bytes_of.Goals as goal

pub head-requires : goal.head-requires
head-requires c = first_out _ _ (open_on _ _ c.requires.pool c.requires.live).at

pub bytes_from-requires-clause-whole : goal.bytes_from-requires-clause-whole
bytes_from-requires-clause-whole c = whole_of _ _ (open_on _ _ c.requires.pool c.requires.live).at

pub returns-in-Some : goal.returns-in-Some
returns-in-Some c =
    total_is _ _ c.in-Some.packet c.requires.pool c.requires.live
    (ap (λ (h : Head). h.packet) (sym c.head.ensures.value) ∙ c.in-Some.is)

pub returns-in-None : goal.returns-in-None
returns-in-None c = c.bytes_from.ensures ∙ sum_is _ _ c.requires.pool c.requires.live
