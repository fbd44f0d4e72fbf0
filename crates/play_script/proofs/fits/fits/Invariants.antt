use Rattle.std.proofs.Common.{◌≡◌, length}
use Rattle.flat_model.specs.Scripts.Grammar.{words}
use Rattle.play_script.specs.Outcomes as outcomes
use Rattle.play_script.proofs.fits.fits.Given as goal

abbrev pub invariant-words : goal.invariant-words
invariant-words l =
    outcomes.fits_words (words l.wanted) (words l.reply_line) ≡ outcomes.fits_words (words l.left) (words l.got_left)

abbrev pub decreases-words : goal.decreases-words
decreases-words l = length (words l.left)
