use Rattle.std.proofs.Common.{◌≡◌, [], ◌∷◌, sym, ap, ◌∙◌}
use Rattle.flat_model.specs.Scripts.Grammar.{words}
use Rattle.script_loop.specs.Left.{left}
use Rattle.script_loop.proofs.WordLemmas.{words-some}
use Rattle.script_loop.proofs.words.one.Goals as goal

pub returns-in-Some : goal.returns-in-Some
returns-in-Some c = λ a h.
    let was = c.in_ok-rest.was in
    let all : c.first_word.result.0.now ∷ left c.first_word.result.1 ≡ a ∷ [] =
    sym c.first_word.ensures ∙ (sym (ap left was) ∙ h) in
    let more : c.first_word.result.0.now ∷ words c.in-Some.field-0.now ≡ a ∷ [] =
    ap (λ r. c.first_word.result.0.now ∷ left r) (sym c.in-Some.is) ∙ all in
    words-some c.in-Some.field-0.now (cc more)
