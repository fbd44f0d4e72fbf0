use Rattle.chain_ops.proofs.Laws.Makes.{makes_new}
use Rattle.chain_ops.proofs.cat.drop_first.Goals as goal

pub returns : goal.returns
returns c = makes_new c.free_first.ensures
