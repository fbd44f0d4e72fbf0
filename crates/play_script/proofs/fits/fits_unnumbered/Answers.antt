use Rattle.std.proofs.Common.{◌≡◌, ◌&&◌, Bool, List, ℕ, [], ◌∷◌, bytes_eq, codes, sym, ap, ◌∙◌}
use Rattle.flat_model.specs.Scripts.Grammar.{words}
use Rattle.script_loop.specs.Left.{left}
use Rattle.play_script.proofs.FitLemmas.{words-some, unnumbered-longer, unnumbered-shorter}
use Rattle.play_script.proofs.fits.fits_unnumbered.Goals as goal

pub returns-in-Some-None : goal.returns-in-Some-None
returns-in-Some-None c =
    let word : List ℕ = c.first_word.result.0.now in
    let got : List ℕ = c.first_word-2.result.0.now in
    let number : List ℕ = c.first_word-3.result.0.now in
    let wanted : words c.args.wanted.now ≡ word ∷ words c.in-Some-None.more.now =
    c.first_word.ensures ∙ ap (λ r. word ∷ left r) c.in-Some-None.is-0 in
    let rest : words c.in-Some.rest.now ≡ number ∷ [] =
    c.first_word-3.ensures ∙ ap (λ r. number ∷ left r) c.in-Some-None.is-1 in
    let reply_line : words c.args.reply_line.now ≡ got ∷ number ∷ [] =
    c.first_word-2.ensures ∙ ap (λ r. got ∷ left r) c.in-Some.is ∙ ap (λ (t : List (List ℕ)). got ∷ t) rest in
    c.if_errors.ensures
    ∙ ap (λ (so : Bool). bytes_eq word (codes "error") && (bytes_eq got (codes "error") && so)) c.is_rest.ensures
    ∙ sym (unnumbered-longer _ _ _ word got number wanted reply_line (words-some c.in-Some-None.more.now))

pub returns-in-None-Some : goal.returns-in-None-Some
returns-in-None-Some c =
    let word : List ℕ = c.first_word.result.0.now in
    let got : List ℕ = c.first_word-2.result.0.now in
    let number : List ℕ = c.first_word-3.result.0.now in
    let wanted : words c.args.wanted.now ≡ word ∷ [] =
    c.first_word.ensures ∙ ap (λ r. word ∷ left r) c.in-None-Some.is-0 in
    let rest : words c.in-Some.rest.now ≡ number ∷ words c.in-None-Some.field-0-1.now =
    c.first_word-3.ensures ∙ ap (λ r. number ∷ left r) c.in-None-Some.is-1 in
    let reply_line : words c.args.reply_line.now ≡ got ∷ number ∷ words c.in-None-Some.field-0-1.now =
    c.first_word-2.ensures ∙ ap (λ r. got ∷ left r) c.in-Some.is ∙ ap (λ (t : List (List ℕ)). got ∷ t) rest in
    sym (unnumbered-shorter _ _ _ word got number wanted reply_line (words-some c.in-None-Some.field-0-1.now))
