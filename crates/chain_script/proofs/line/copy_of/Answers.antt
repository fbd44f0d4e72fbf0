use Rattle.std.proofs.Common.{◌∷◌, ap, refl, ◌∙◌, arith}
use Rattle.script_loop.specs.Left.{left}
use Rattle.chain_script.proofs.line.copy_of.Goals as goal

pub returns : goal.returns
returns c = λ room. (
  (
    refl,
    (
      c.first_word.result.0.now,
      c.first_word-2.result.0.now,
      left c.first_word-2.result.1,
      ap left c.in_ok-rest.was ∙ c.first_word.ensures
          ∙ ap (λ r. c.first_word.result.0.now ∷ left r) c.in_ok-rest-2.was
          ∙ ap (λ ws. c.first_word.result.0.now ∷ ws) c.first_word-2.ensures,
      c.in_ok-to.ensures,
      c.in_ok-slot.ensures,
      c.in_ok-extent.ensures,
    ),
  ),
  (omega (arith, c.in_ok-to.ensures), omega (arith, c.in_ok-slot.ensures)),
)
