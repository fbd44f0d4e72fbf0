use Rattle.std.proofs.Common.{◌≡◌, List, ℕ, sym, ◌∙◌, subst}
use Rattle.flat_model.specs.Scripts.Grammar.{IsHex}
use Rattle.request.proofs.FormLemmas.{Comes-only}
use Rattle.request.proofs.read.packet_of.Goals as goal

pub returns-in_err-len : goal.returns-in_err-len
returns-in_err-len c = rw c.from_residual-in_err-len.ensures (Comes-only _ (λ bytes h.
    let word : h.0 ≡ c.in_ok-word.word.now = cc (sym h.1 ∙ c.in_ok-word.ensures) in
    c.in_err-len.ensures.bytes bytes (subst (λ (t : List ℕ). IsHex t bytes) word h.2)))
