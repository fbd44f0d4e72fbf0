use Rattle.std.proofs.Common.{◌≡◌, ℕ, List, [], ◌∷◌, Result, Ok, Err, inl, inr, refl, sym, ap, ◌∙◌, subst}
use Rattle.std.proofs.lemmas.Result.{err_from_is_err_and}
use Rattle.flat_model.specs.Scripts.Grammar.{words}
use Rattle.flat_model.specs.declared.config.Config.{Config}
use Rattle.script_loop.specs.Left.{left}
use Rattle.play_script.specs.Settings.{SetsAll, SetsNamed, setting_named}
use Rattle.play_script.specs.declared.draft.Draft.{Draft}
use Rattle.play_script.specs.declared.fault.SettingFault.{SettingFault}
use Rattle.play_script.proofs.settings.settings_of.Goals as goal
use Rattle.play_script.proofs.settings.settings_of.Goals.{In-Some}

-- a name and a value before other words
pub set-one : (old mid : Draft) (name value : List ℕ) (more ws : List (List ℕ)) (outcome : Result Config SettingFault)
    → ws ≡ name ∷ value ∷ more → SetsNamed (setting_named name) old value (Ok mid) → SetsAll mid more outcome
    → SetsAll old ws outcome
set-one old mid name value more ws outcome is one rest =
    subst (λ (v : List (List ℕ)). SetsAll old v outcome) (sym is) (inl (mid, one, rest))

pub set-none : (old : Draft) (name value : List ℕ) (more ws : List (List ℕ)) (fault : SettingFault)
    → ws ≡ name ∷ value ∷ more → SetsNamed (setting_named name) old value (Err fault) → SetsAll old ws (Err fault)
set-none old name value more ws fault is one =
    subst (λ (v : List (List ℕ)). SetsAll old v (Err fault)) (sym is) (inr (fault, one, refl))

-- the words from a name on
named : (c : In-Some) → words c.pairs.text.now ≡ c.first_word.result.0.now ∷ words c.in-Some.more.now
named c = c.first_word.ensures ∙ ap (λ r. c.first_word.result.0.now ∷ left r) c.in-Some.is

pub returns-in_default : goal.returns-in_default
returns-in_default c =
    let name : List ℕ = c.first_word.result.0.now in
    let at : words c.pairs.text.now ≡ name ∷ [] = c.first_word.ensures ∙ ap (λ r. name ∷ left r) c.in_default.is in
    c.pairs.invariant (Err c.fault_alone.result)
    (subst (λ (v : List (List ℕ)). SetsAll c.pairs.draft v (Err c.fault_alone.result)) (sym at)
    (ap Err c.fault_alone.ensures))

pub returns-in_err-draft : goal.returns-in_err-draft
returns-in_err-draft c =
    let name : List ℕ = c.first_word.result.0.now in
    let two : words c.pairs.text.now ≡ name ∷ c.first_word-in-pairs.result.0.now ∷ left c.first_word-in-pairs.result.1 =
    named (goal.at.returns-in_err-draft c).In-Some
    ∙ ap (λ (v : List (List ℕ)). name ∷ v) c.first_word-in-pairs.ensures in
    let p = err_from_is_err_and c.from_residual.result c.from_residual.ensures.1 in
    rw (p.1, p.2) (c.pairs.invariant (Err c.in_err-draft.field-0.0)
    (set-none c.pairs.draft name c.first_word-in-pairs.result.0.now (left c.first_word-in-pairs.result.1)
    (words c.pairs.text.now) c.in_err-draft.field-0.0 two c.in_err-draft.ensures))

pub returns-in-None : goal.returns-in-None
returns-in-None c =
    let value : List ℕ = c.first_word-in-pairs.result.0.now in
    let last : words c.in-Some.more.now ≡ value ∷ [] =
    c.first_word-in-pairs.ensures ∙ ap (λ r. value ∷ left r) c.in-None.is in
    let two =
    named (goal.at.returns-in-None c).In-Some ∙ ap (λ (v : List (List ℕ)). c.first_word.result.0.now ∷ v) last in
    c.pairs.invariant c.finish.result
    (set-one c.pairs.draft c.in_ok-draft.draft _ value [] (words c.pairs.text.now) c.finish.result two
    c.in_ok-draft.ensures c.finish.ensures)

pub pairs-preserved : goal.pairs-preserved
pairs-preserved c = λ outcome rest.
    let more =
    c.first_word-in-pairs.ensures ∙ ap (λ r. c.first_word-in-pairs.result.0.now ∷ left r) c.in-Some-after.is in
    let two =
    named (goal.at.pairs-preserved c).In-Some ∙ ap (λ (v : List (List ℕ)). c.first_word.result.0.now ∷ v) more in
    c.pairs.invariant outcome
    (set-one c.pairs.draft c.in_ok-draft.draft _ _ (words c.in-Some-after.next.now) (words c.pairs.text.now)
    outcome two c.in_ok-draft.ensures rest)
