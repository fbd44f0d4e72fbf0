use Rattle.std.proofs.Common.{◌≡◌, length}
use Rattle.flat_model.specs.Scripts.Grammar.{words}
use Rattle.play_grade.specs.Answers.{all_open}
use Rattle.play_grade.proofs.answers.is_open.Given as goal

abbrev pub invariant-words : goal.invariant-words
invariant-words l = all_open (words l.text) ≡ all_open (words l.left)

abbrev pub decreases-words : goal.decreases-words
decreases-words l = length (words l.left)
