use Rattle.std.proofs.Common.{◌≡◌, ◌≤◌, ℕ, List, [], ◌∷◌, length, refl, sym, ap, ◌∙◌, subst, inr, arith}
use Rattle.script_loop.specs.Left.{left}
use Rattle.std.specs.List.{slice_index_or}
use Rattle.play_forms.specs.Advice as advice
use Rattle.play_forms.specs.Advice.{AdvisesAfter}
use Rattle.play_forms.specs.Table.{Takes}
use Rattle.play_forms.specs.declared.argument.Argument.{Argument}
use Rattle.play_forms.specs.declared.command.Command.{Command}
use Rattle.play_forms.proofs.advice.+advice_by.Goals as goal

-- a word that isn't the first argument
wrong-one : (asked : Command) (wanted : List Argument) (d : Argument) (word : List ℕ) (ws rest : List (List ℕ))
    → 1 ≤ length wanted → rest ≡ word ∷ ws → ¬ Takes (slice_index_or wanted 0 d) word
    → AdvisesAfter asked wanted rest (advice.Wrong word (slice_index_or wanted 0 d) asked)
wrong-one asked [] d word ws rest some is none = absurd (omega (arith, some))
wrong-one asked (wanted ∷ more) d word ws rest some is none =
    subst (λ (v : List (List ℕ)). AdvisesAfter asked (wanted ∷ more) v (advice.Wrong word wanted asked)) (sym is)
    (inr (none, refl))

pub returns-else-takes : goal.returns-else-takes
returns-else-takes t c =
    wrong-one c.args.asked c.args.wanted.now _ c.first_word-in-len1-up-Some.result.0.now
    (left c.first_word-in-len1-up-Some.result.1)
    (left c.args.rest) c.in-len1-up-Some.len_at_least
    (ap left c.in-len1-up-Some.is-1 ∙ c.first_word-in-len1-up-Some.ensures) c.if-takes.ensures
