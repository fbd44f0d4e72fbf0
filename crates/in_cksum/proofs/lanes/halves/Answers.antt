use Rattle.std.proofs.Common.{bit_and}
use Rattle.std.proofs.lemmas.Nat.{and_mask}
use Rattle.in_cksum.proofs.Numbers.{half_folded}
use Rattle.in_cksum.proofs.lanes.halves.Goals as goal

pub returns-clause-folded : goal.returns-clause-folded
returns-clause-folded c = half_folded c.args.sum (bit_and c.args.sum 4294967295) (and_mask c.args.sum 32)
