use Rattle.std.proofs.Common.{arith, ap}
use Rattle.mbuf_pool.specs.Cells.{Head}
use Rattle.mbuf_chain.proofs.Writes.{source_room, target_room, copied}
use Rattle.mbuf_chain.proofs.Heads.{shown_at}
use Rattle.mbuf_chain.proofs.data.copy_in.Goals as goal

pub head-head-requires : goal.head-head-requires
head-head-requires c = (shown_at c.requires.can.place).out

pub head-source-requires : goal.head-source-requires
head-source-requires c = (shown_at c.requires.from).out

pub overflow_add-read : goal.overflow_add-read
overflow_add-read c =
    let source = shown_at c.requires.from in
    omega (arith, source.small, source.long, c.requires.within, ap (λ (h : Head). h.start) c.head-source.ensures.value)

pub copy-requires-clause-from : goal.copy-requires-clause-from
copy-requires-clause-from c =
    source_room c.args.skip c.args.count c.requires.from c.head-source.ensures.value
    c.buffer_of.ensures c.requires.within

pub copy-requires-clause-to : goal.copy-requires-clause-to
copy-requires-clause-to c =
    target_room c.args.start c.args.count c.requires.can.place c.head-head.ensures.value
    c.buffer_of-2.ensures c.requires.low c.requires.high

pub returns : goal.returns
returns c =
    copied c.args.first c.args.other c.args.skip c.args.count c.requires.can c.requires.from c.requires.within c.head-head.ensures.value
    c.head-source.ensures.value c.buffer_of-2.ensures c.buffer_of.ensures c.copy.ensures.change
    c.copy.ensures.store
