use Rattle.std.proofs.Common.{◌≡◌, List, ℕ, sym, ◌∙◌, subst}
use Rattle.flat_model.specs.Scripts.Grammar.{IsHex}
use Rattle.chain_script.proofs.Forms.{Write_over-only}
use Rattle.chain_script.proofs.line.copyback_of.Goals as goal

pub returns-in_err-len : goal.returns-in_err-len
returns-in_err-len c = rw c.from_residual-in_err-len.ensures (Write_over-only _ (λ slot off bytes h.
    let word : h.2 ≡ c.in_ok-slot.word.now = cc (sym h.3 ∙ c.in_ok-slot.ensures) in
    c.in_err-len.ensures.bytes bytes (subst (λ (t : List ℕ). IsHex t bytes) word h.6)))
