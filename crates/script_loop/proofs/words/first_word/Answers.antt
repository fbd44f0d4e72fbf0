use Rattle.std.proofs.Common.{◌==◌, ◌∙◌, sym, arith}
use Rattle.std.proofs.lemmas.Grind.{common_steps}
use Rattle.script_loop.proofs.Laws.{split-cut, split-one}
use Rattle.script_loop.proofs.words.first_word.Goals as goal

pub returns-in-Some : goal.returns-in-Some
returns-in-Some c =
    let cut = split-cut (λ b. b == 32) c.args.text.now c.in-Some.at (sym c.space_at.ensures ∙ c.in-Some.is) in
    grind (arith, common_steps, cut)

pub returns-in-None : goal.returns-in-None
returns-in-None c = split-one (λ b. b == 32) c.args.text.now (sym c.space_at.ensures ∙ c.in-None.is)
