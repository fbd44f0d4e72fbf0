use Rattle.std.proofs.Common.{◌+◌, arith, ap, ◌∙◌}
use Rattle.mbuf_pool.specs.Cells.{Head}
use Rattle.mbuf_chain.specs.Chain.{Entry, with_chain, chain_of}
use Rattle.mbuf_chain.specs.Steps.{with_entry}
use Rattle.mbuf_chain.specs.Inside.Cells.{pool_of, entry_from, with_segment}
use Rattle.mbuf_chain.proofs.Heads.{shown_at, narrowed_is}
use Rattle.mbuf_chain.proofs.data.narrow.Goals as goal

pub head-head-requires : goal.head-head-requires
head-head-requires c = (shown_at c.requires.place).out

pub overflow_add-head : goal.overflow_add-head
overflow_add-head c =
    let k = shown_at c.requires.place in
    omega (arith, k.small, k.long, c.requires.within, ap (λ (h : Head). h.start) c.head-head.ensures.value)

pub resize-requires-clause-low : goal.resize-requires-clause-low
resize-requires-clause-low c =
    omega (arith, (shown_at c.requires.place).fit.low, ap (λ (h : Head). h.start) c.head-head.ensures.value)

pub resize-requires-clause-high : goal.resize-requires-clause-high
resize-requires-clause-high c =
    let k = shown_at c.requires.place in
    omega (arith, k.fit.high, k.long, c.requires.within, ap (λ (h : Head). h.start) c.head-head.ensures.value)

pub returns : goal.returns
returns c =
    let s = c.args.store.now in
    let at = c.args.at in
    let k = shown_at c.requires.place in
    record {
      pool = c.resize.ensures.pool;
      change =
          c.resize.ensures.change ∙ ap (λ (h : Head). with_chain (pool_of s) c.args.first
          (with_entry (chain_of (pool_of s) c.args.first) at.index
          (entry_from s at.cell (with_segment (Rattle.mbuf_pool.specs.Store.mbuf_head s at.cell) (h.start + c.args.skip)
          c.args.keep)))) c.head-head.ensures.value ∙ ap (λ (e : Entry). with_chain (pool_of s) c.args.first
          (with_entry (chain_of (pool_of s) c.args.first) at.index e)) (narrowed_is s c.args.first c.args.skip c.args.keep
          at k (omega (arith, k.long, c.requires.within)));
    }
