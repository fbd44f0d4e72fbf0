use Rattle.std.proofs.Common.{◌≡◌, List, ℕ, ◌∷◌, sym, ap, ◌∙◌}
use Rattle.flat_model.specs.Scripts.Grammar.{words}
use Rattle.script_loop.specs.Left.{left}
use Rattle.play_script.proofs.FitLemmas.{words-some, rest-longer}
use Rattle.play_script.proofs.fits.is_rest.Goals as goal

pub returns-in-Some : goal.returns-in-Some
returns-in-Some c =
    let word : List ℕ = c.first_word.result.0.now in
    let wanted : words c.args.wanted.now ≡ word ∷ words c.in-Some.field-0.now =
    c.first_word.ensures ∙ ap (λ r. word ∷ left r) c.in-Some.is in
    sym (rest-longer _ _ word wanted (words-some c.in-Some.field-0.now))
