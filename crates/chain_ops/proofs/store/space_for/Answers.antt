use Rattle.std.proofs.Common.{arith}
use Rattle.chain_ops.proofs.Laws.Rooms.{one_cluster, one_plain}
use Rattle.chain_ops.proofs.store.space_for.Goals as goal

pub returns-then-n-le-MHLEN : goal.returns-then-n-le-MHLEN
returns-then-n-le-MHLEN c = (omega arith, one_plain c.args.large c.args.n c.requires (omega arith))

pub returns : goal.returns
returns c = (
  omega arith,
  omega arith,
  one_cluster c.args.large c.args.n c.requires (omega arith) (omega arith),
)
