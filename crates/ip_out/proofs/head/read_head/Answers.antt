use Rattle.std.proofs.Common.{◌≡◌, ℕ, ◌≤◌, length, take, arith, ap, sym, ◌∙◌}
use Rattle.mbuf_chain.specs.Chain.{ChainView, chain_of, entry_of, string}
use Rattle.mbuf_chain.proofs.Laws.Lists.{first_bytes}
use Rattle.ip_out.proofs.head.read_head.Goals as goal

-- the bytes that are read in place
in_place : (c : goal.After-head_or_fault)
    → c.in-Some.bytes.now ≡ take 20 (string (chain_of c.args.pool.now c.args.chain.now))
in_place c =
    let v : ChainView = chain_of c.args.pool.now c.args.chain.now in
    let at = c.first.ensures.index in
    let long : 20 ≤ length (entry_of v 0).bytes =
    omega (
      arith,
      c.in-Some.ensures.cases.2,
      c.bytes-first.ensures.len,
      ap (λ (i : ℕ). length (entry_of v i).bytes) at,
    ) in
    c.in-Some.ensures.cases.0 ∙ ap (take 20) (c.bytes-first.ensures.value ∙ ap (λ (i : ℕ). (entry_of v i).bytes) at)
    ∙ first_bytes 20 v long

pub returns-in-Some-clause-ok : goal.returns-in-Some-clause-ok
returns-in-Some-clause-ok c =
    c.head_or_fault.ensures.ok (string (chain_of c.args.pool.now c.args.chain.now)) (sym c.len-len.ensures) (in_place c)

pub returns-in-Some-clause-err : goal.returns-in-Some-clause-err
returns-in-Some-clause-err c =
    c.head_or_fault.ensures.err (string (chain_of c.args.pool.now c.args.chain.now)) (sym c.len-len.ensures)
    (in_place c)
