use Rattle.std.proofs.Common.{◌≡◌, List, ℕ, sym, ◌∙◌, subst}
use Rattle.flat_model.specs.Scripts.Grammar.{IsHex}
use Rattle.chain_script.proofs.Forms.{Wire-only}
use Rattle.chain_script.proofs.line.wire_of.Goals as goal

pub returns-in_err-len : goal.returns-in_err-len
returns-in_err-len c = rw c.from_residual-in_err-len.ensures (Wire-only _ (λ slot bytes h.
    let word : h.1 ≡ c.in_ok-slot.word.now = cc (sym h.2 ∙ c.in_ok-slot.ensures) in
    c.in_err-len.ensures.bytes bytes (subst (λ (t : List ℕ). IsHex t bytes) word h.4)))
