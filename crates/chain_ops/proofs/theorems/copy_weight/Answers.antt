use Rattle.chain_ops.proofs.Laws.Weights.{copied_weight}
use Rattle.chain_ops.proofs.theorems.copy_weight.Goals as goal

pub returns : goal.returns
returns c = copied_weight
