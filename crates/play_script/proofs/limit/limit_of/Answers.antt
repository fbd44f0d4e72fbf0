use Rattle.std.proofs.Common.{◌≡◌, ◌<◌, ◌^◌, List, ℕ, [], ◌∷◌, codes, sym, ap, ◌∙◌, arith}
use Rattle.std.specs.Fmt.{decimal}
use Rattle.std.proofs.lemmas.Fmt.{decimal_injective}
use Rattle.play_script.proofs.limit.limit_of.Goals as goal

pub returns-then-size-eq0 : goal.returns-then-size-eq0
returns-then-size-eq0 c = λ fd limit h.
    let all : codes "setsockopt" ∷ h.0 ∷ codes "rcvbuf" ∷ h.1 ∷ []
    ≡ c.first_word.result.0.now ∷ c.in_ok-fd.fd.now ∷ c.in_ok-fd.option.now ∷ c.in_ok-fd.size.now ∷ [] =
    sym h.2 ∙ c.first_word.ensures ∙ ap (λ (t : List (List ℕ)). c.first_word.result.0.now ∷ t) c.in_ok-fd.ensures in
    let word : h.1 ≡ c.in_ok-fd.size.now = cc all in
    let same : decimal limit ≡ decimal c.in_ok-size.size = sym h.4.1 ∙ word ∙ c.in_ok-size.ensures.1 in
    let small : limit < 2 ^ 64 = omega (arith, h.4.0) in
    let zero : limit ≡ c.in_ok-size.size = decimal_injective limit c.in_ok-size.size small (omega arith) same in
    omega (arith, zero, h.5)
