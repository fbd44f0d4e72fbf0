use Rattle.std.proofs.Common.{◌≡◌, List, drop, ap, sym, ◌∙◌, arith}
use Rattle.mbuf_chain.specs.Chain.{Entry, chain_of, references}
use Rattle.chain_ops.specs.Writes.{is_writable}
use Rattle.chain_ops.proofs.Writes.{writable-none}
use Rattle.chain_ops.proofs.copyback.is_writable.Goals as goal

pub returns : goal.returns
returns c =
    let es : List Entry = drop c.mbufs.at.index (chain_of c.args.pool.now c.args.chain.now).entries in
    let none : c.mbufs.left ≡ 0 = omega arith in
    sym (c.mbufs.invariant.same ∙ ap (is_writable (references c.args.pool.now) es c.mbufs.skip) none
    ∙ writable-none (references c.args.pool.now) es c.mbufs.skip)
