use Rattle.std.proofs.Common.{◌≡◌, ℕ, ◌+◌, ◌-◌, ◌++◌, List, length, take, drop, ap, ◌∙◌, arith}
use Rattle.mbuf_chain.specs.Chain.{ChainView, chain_of, entry_of, string}
use Rattle.in_cksum.specs.Partial.{sum_of}
use Rattle.in_cksum.proofs.Ranges.{first_range}
use Rattle.in_cksum.proofs.chain.cksum_chain.Goals as goal

pub returns : goal.returns
returns c before known =
    let v : ChainView = chain_of c.args.pool.now c.args.chain.now in
    let range : take (c.args.off + c.args.len - c.args.off) (drop c.args.off c.bytes-first.result.now)
    ≡ take c.args.len (drop c.args.off (string v)) =
    ap (λ (xs : List ℕ). take (c.args.off + c.args.len - c.args.off) (drop c.args.off xs))
    (c.bytes-first.ensures.value ∙ ap (λ (i : ℕ). (entry_of v i).bytes) c.first.ensures.index)
    ∙ first_range c.args.off c.args.len v
    (omega (arith, c.bytes-first.ensures.len, ap (λ (i : ℕ). length (entry_of v i).bytes) c.first.ensures.index)) in
    c.finish.ensures (before ++ take c.args.len (drop c.args.off (string v)))
    (c.add.ensures before known ∙ ap (λ (xs : List ℕ). sum_of (before ++ xs)) range)
