use Rattle.std.proofs.Common.{arith, ap, ◌∙◌}
use Rattle.mbuf_pool.specs.Cells.{Head}
use Rattle.mbuf_chain.specs.Chain.{Entry, with_chain, chain_of}
use Rattle.mbuf_chain.specs.Steps.{with_entry}
use Rattle.mbuf_chain.specs.Inside.Cells.{pool_of, entry_over}
use Rattle.mbuf_chain.proofs.Writes.{overwritten_is}
use Rattle.std.proofs.Common.{◌+◌}
use Rattle.mbuf_chain.proofs.Heads.{shown_at}
use Rattle.mbuf_chain.proofs.data.overwrite.Goals as goal

pub head-head-requires : goal.head-head-requires
head-head-requires c = (shown_at c.requires.can.place).out

pub overflow_add-head : goal.overflow_add-head
overflow_add-head c =
    let place = shown_at c.requires.can.place in
    omega (arith, place.small, place.long, c.requires.within, ap (λ (h : Head). h.start) c.head-head.ensures.value)

pub write_in-requires-clause-low : goal.write_in-requires-clause-low
write_in-requires-clause-low c =
    omega (
      arith,
      (shown_at c.requires.can.place).fit.low,
      ap (λ (h : Head). h.start) c.head-head.ensures.value,
    )

pub write_in-requires-clause-high : goal.write_in-requires-clause-high
write_in-requires-clause-high c =
    let place = shown_at c.requires.can.place in
    omega (arith, place.fit.high, place.long, c.requires.within, ap (λ (h : Head). h.start) c.head-head.ensures.value)

pub returns : goal.returns
returns c =
    let s = c.args.store.now in
    let at = c.args.at in
    let place = shown_at c.requires.can.place in
    record {
      pool = c.write_in.ensures.pool;
      change =
          c.write_in.ensures.writes.map_is
          ∙ ap (λ (h : Head). with_chain (pool_of s) c.args.first
          (with_entry (chain_of (pool_of s) c.args.first) at.index
          (entry_over s at.cell (h.start + c.args.offset) c.args.bytes.now))) c.head-head.ensures.value
          ∙ ap (λ (e : Entry). with_chain (pool_of s) c.args.first
          (with_entry (chain_of (pool_of s) c.args.first) at.index e))
          (overwritten_is s c.args.first c.args.offset c.args.bytes.now at place
          (omega (arith, place.long, c.requires.within)));
    }
