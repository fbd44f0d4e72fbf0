use Rattle.std.proofs.Common.{ap, ◌∙◌, is_some}
use Rattle.mbuf_pool.specs.Cells.{Head}
use Rattle.mbuf_chain.proofs.Focused.{open_on, first_out}
use Rattle.mbuf_chain.proofs.Places.{header_is}
use Rattle.mbuf_chain.proofs.links.has_header.Goals as goal

pub head-requires : goal.head-requires
head-requires c = first_out _ _ (open_on _ _ c.requires.pool c.requires.live).at

pub returns : goal.returns
returns c =
    c.is_some.ensures ∙ ap (λ (h : Head). is_some h.packet) c.head.ensures.value
    ∙ header_is _ _ c.requires.pool c.requires.live
