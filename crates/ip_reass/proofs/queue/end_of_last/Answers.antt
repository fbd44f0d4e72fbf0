use Rattle.std.proofs.Common.{◌≡◌, ◌≢◌, ◌-◌, ◌+◌, ◌∙◌, sym, arith}
use Rattle.std.proofs.lemmas.Bool.{eq-eqb, false≢true}
use Rattle.ip_reass.specs.Fragments.{fragments}
use Rattle.ip_reass.specs.Inside.Walks.{reach}
use Rattle.ip_reass.proofs.Walks.{length-fragments, ends_at, reach_last}
use Rattle.ip_reass.proofs.Whole.{ends_within}
use Rattle.ip_reass.proofs.queue.end_of_last.Goals as goal

ended : (c : goal.After-chain_len)
    → c.offset.result + c.chain_len.result ≡ reach 0 (fragments c.args.pool.now c.args.train.now)
ended c =
    let some : c.args.train.now.len ≢ 0 =
    λ e. false≢true (sym c.if-is_empty.false ∙ (c.is_empty.ensures ∙ eq-eqb c.args.train.now.len 0 e)) in
    let l = length-fragments c.args.pool.now c.args.train.now c.requires.held in
    omega (
      arith,
      c.offset.ensures,
      ends_at c.args.pool.now c.args.train.now (c.len-last.result - 1) c.tag_of.result.bits c.chain_len.result
          c.requires.held (omega (arith, c.len-last.ensures, some)) c.tag_of.ensures c.chain_len.ensures,
      reach_last 0 (c.len-last.result - 1) (fragments c.args.pool.now c.args.train.now)
          (omega (arith, l, c.len-last.ensures, some)),
    )

pub overflow_add-result : goal.overflow_add-result
overflow_add-result c =
    omega (arith, ended c, ends_within (fragments c.args.pool.now c.args.train.now) c.requires.small)

pub returns : goal.returns
returns c = ended c
