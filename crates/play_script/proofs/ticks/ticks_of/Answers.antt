use Rattle.std.proofs.Common.{◌≡◌, ◌<◌, ◌^◌, List, ℕ, [], ◌∷◌, codes, sym, ap, ◌∙◌, arith}
use Rattle.std.specs.Fmt.{decimal}
use Rattle.std.proofs.lemmas.Fmt.{decimal_injective}
use Rattle.play_script.proofs.ticks.ticks_of.Goals as goal

pub returns-then-count-eq0 : goal.returns-then-count-eq0
returns-then-count-eq0 c = λ n h.
    let all : codes "tick" ∷ h.0 ∷ [] ≡ c.first_word.result.0.now ∷ c.in_ok-one.field-0.now ∷ [] =
    sym h.1 ∙ c.first_word.ensures ∙ ap (λ (t : List (List ℕ)). c.first_word.result.0.now ∷ t) c.in_ok-one.ensures in
    let word : h.0 ≡ c.in_ok-one.field-0.now = cc all in
    let same : decimal n ≡ decimal c.in_ok-count.count = sym h.2.1 ∙ word ∙ c.in_ok-count.ensures.1 in
    let small : n < 2 ^ 64 = omega (arith, h.2.0) in
    let zero : n ≡ c.in_ok-count.count = decimal_injective n c.in_ok-count.count small (omega arith) same in
    omega (arith, zero, h.3)
