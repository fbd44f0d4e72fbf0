use Rattle.std.proofs.Common.{ℕ, ap, sym, ◌∙◌, arith}
use Rattle.mbuf_chain.specs.declared.place.Segment.{Segment}
use Rattle.mbuf_chain.specs.Chain.{Entry, PoolView, chain_of, entry_of, with_chain}
use Rattle.mbuf_chain.specs.Steps.{with_entry}
use Rattle.chain_ops.proofs.Trims.{changed_none}
use Rattle.chain_ops.proofs.Writes.{unshared_at, overwritten-past, with_entry-same}
use Rattle.chain_ops.proofs.copyback.overlay_mbuf.Goals as goal

pub overwrite-requires-clause-unshared : goal.overwrite-requires-clause-unshared
overwrite-requires-clause-unshared c =
    unshared_at c.args.pool.now c.args.chain.now c.args.at.index c.requires.live c.requires.place.within
    (c.requires.unshared (omega (arith, c.if-skip-len.true, ap (λ (x : Segment). x.len) c.segment-len.ensures.value)))

pub returns-else-skip-len : goal.returns-else-skip-len
returns-else-skip-len c =
    let p : PoolView = c.args.pool.now in
    let k : ℕ = c.args.chain.now in
    let i : ℕ = c.args.at.index in
    let e : Entry = entry_of (chain_of p k) i in
    changed_none p k c.requires.live
    ∙ ap (with_chain p k) (sym (ap (with_entry (chain_of p k) i)
    (overwritten-past e c.args.skip c.args.bytes.now
    (omega (
      arith,
      c.if-skip-len.false,
      ap (λ (x : Segment). x.len) c.segment-len.ensures.value,
    ))) ∙ with_entry-same (chain_of p k) i))
