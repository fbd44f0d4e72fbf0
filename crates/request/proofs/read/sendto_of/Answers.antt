use Rattle.std.proofs.Common.{◌≡◌, ◌∷◌, List, ℕ, sym, ap, ◌∙◌, subst}
use Rattle.flat_model.specs.Scripts.Grammar.{IsHex}
use Rattle.script_loop.specs.Left.{left}
use Rattle.request.proofs.FormLemmas.{SendTo-only}
use Rattle.request.proofs.read.sendto_of.Goals as goal

pub returns-in_err-len : goal.returns-in_err-len
returns-in_err-len c = rw c.from_residual-in_err-len.ensures (SendTo-only _ (λ fd to bytes h.
    let cut =
    ap left c.in_ok-rest.was ∙ c.first_word.ensures
    ∙ ap (λ (ws : List (List ℕ)). c.first_word.result.0.now ∷ ws) c.in_ok-ip.ensures in
    let word : h.3 ≡ c.in_ok-ip.data.now = cc (sym h.4 ∙ cut) in
    c.in_err-len.ensures.bytes bytes (subst (λ (t : List ℕ). IsHex t bytes) word h.7)))
