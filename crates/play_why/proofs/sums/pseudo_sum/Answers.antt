use Rattle.std.proofs.Common.{refl}
use Rattle.play_why.specs.Values.{pseudo_sum}
use Rattle.play_why.proofs.sums.pseudo_sum.Goals as goal

pub returns : goal.returns
unfolding pseudo_sum
returns c = rw (c.fold.ensures, c.pseudo_of-covered.ensures) refl
