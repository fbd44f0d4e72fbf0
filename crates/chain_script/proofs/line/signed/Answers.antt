use Rattle.chain_script.proofs.Signs.{signed_none, no_minus_zero}
use Rattle.chain_script.proofs.line.signed.Goals as goal

pub returns-then-n-eq0 : goal.returns-then-n-eq0
returns-then-n-eq0 c =
    signed_none c.args.word.now c.in_default.ensures
    (no_minus_zero c.args.word.now c.in_ok-sign.digits.now _ c.in_ok-n.n c.in_ok-sign.ensures.cases.0
    c.in_ok-n.ensures.1 c.if-n-eq0.true)
