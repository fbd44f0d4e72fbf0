use Rattle.std.proofs.Common.{◌≡◌, List, ℕ, sym, ◌∙◌, subst}
use Rattle.flat_model.specs.Scripts.Grammar.{IsHex}
use Rattle.request.proofs.FormLemmas.{Send-only}
use Rattle.request.proofs.read.send_of.Goals as goal

pub returns-in_err-len : goal.returns-in_err-len
returns-in_err-len c = rw c.from_residual-in_err-len.ensures (Send-only _ (λ fd bytes h.
    let word : h.1 ≡ c.in_ok-fd.data.now = cc (sym h.2 ∙ c.in_ok-fd.ensures) in
    c.in_err-len.ensures.bytes bytes (subst (λ (t : List ℕ). IsHex t bytes) word h.4)))
