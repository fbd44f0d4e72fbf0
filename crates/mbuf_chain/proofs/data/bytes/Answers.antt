use Rattle.std.proofs.Common.{ap, ◌∙◌}
use Rattle.mbuf_pool.specs.Cells.{Head}
use Rattle.mbuf_chain.proofs.Writes.{lent_room, lent_bytes}
use Rattle.mbuf_chain.proofs.Heads.{shown_at}
use Rattle.mbuf_chain.proofs.data.bytes.Goals as goal

pub head-head-requires : goal.head-head-requires
head-head-requires c = (shown_at c.requires).out

pub bytes-requires : goal.bytes-requires
bytes-requires c =
    lent_room c.requires c.head-head.ensures.value c.buffer_of.ensures

pub returns-clause-value : goal.returns-clause-value
returns-clause-value c =
    c.bytes.ensures.value ∙ lent_bytes c.requires c.head-head.ensures.value c.buffer_of.ensures

pub returns-clause-len : goal.returns-clause-len
returns-clause-len c =
    c.bytes.ensures.len ∙ ap (λ (h : Head). h.len) c.head-head.ensures.value
    ∙ (shown_at c.requires).long
