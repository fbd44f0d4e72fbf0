use Rattle.std.proofs.Common.{◌≡◌, List, ℕ, [], ◌∷◌, false, sym, ap, ◌∙◌}
use Rattle.flat_model.specs.Scripts.Grammar.{words}
use Rattle.script_loop.specs.Left.{left}
use Rattle.play_script.specs.Outcomes as outcomes
use Rattle.play_script.proofs.FitLemmas.{words-some, fits-longer, fits-shorter}
use Rattle.play_script.proofs.fits.fits.Goals as goal

pub returns-in-Some-None : goal.returns-in-Some-None
returns-in-Some-None c =
    let word : List ℕ = c.first_word.result.0.now in
    let got : List ℕ = c.first_word-in-words.result.0.now in
    let wanted : words c.words.left.now ≡ word ∷ words c.in-Some-None.more.now =
    c.first_word.ensures ∙ ap (λ r. word ∷ left r) c.in-Some-None.is-0 in
    let reply_line : words c.words.got_left.now ≡ got ∷ [] =
    c.first_word-in-words.ensures ∙ ap (λ r. got ∷ left r) c.in-Some-None.is-1 in
    let none : outcomes.is_rest (words c.words.left.now) ≡ false = sym c.is_rest.ensures ∙ c.if-is_rest.false in
    c.is_rest-in-Some-None.ensures
    ∙ sym
    (c.words.invariant
    ∙ fits-longer _ _ _ word got wanted reply_line (words-some c.in-Some-None.more.now) none
    (sym c.is_same_word.ensures ∙ c.if-is_same_word.true))

pub returns-in-None-Some : goal.returns-in-None-Some
returns-in-None-Some c =
    let word : List ℕ = c.first_word.result.0.now in
    let got : List ℕ = c.first_word-in-words.result.0.now in
    let wanted : words c.words.left.now ≡ word ∷ [] =
    c.first_word.ensures ∙ ap (λ r. word ∷ left r) c.in-None-Some.is-0 in
    let reply_line : words c.words.got_left.now ≡ got ∷ words c.in-None-Some.field-0-1.now =
    c.first_word-in-words.ensures ∙ ap (λ r. got ∷ left r) c.in-None-Some.is-1 in
    let none : outcomes.is_rest (words c.words.left.now) ≡ false = sym c.is_rest.ensures ∙ c.if-is_rest.false in
    sym
    (c.words.invariant
    ∙ fits-shorter _ _ _ word got wanted reply_line (words-some c.in-None-Some.field-0-1.now) none)
