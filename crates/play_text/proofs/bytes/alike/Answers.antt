use Rattle.std.proofs.Common.{◌+◌, ◌≤◌, ℕ, length, sym, ap, ◌∙◌, arith}
use Rattle.std.specs.Prelude.{min}
use Rattle.play_text.proofs.ByteLemmas.{alike_ends}
use Rattle.play_text.proofs.bytes.alike.Goals as goal

pub returns-clause-is : goal.returns-clause-is
returns-clause-is c =
    let a = c.args.first.now in
    let b = c.args.second.now in
    let at = c.loop-at.at in
    let h : min (length a) (length b) ≤ at = omega (arith, c.loop-at-test.false, c.min-len.ensures) in
    sym (c.loop-at.invariant.is ∙ ap (λ (n : ℕ). at + n) (alike_ends a b at h) ∙ omega arith)
