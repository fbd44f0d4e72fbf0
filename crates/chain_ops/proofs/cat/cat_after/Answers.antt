use Rattle.std.proofs.Common.{ap, ◌∙◌}
use Rattle.mbuf_chain.specs.Chain.{chain_of, flat_bytes}
use Rattle.chain_ops.proofs.Laws.Strings.{cat_bytes}
use Rattle.chain_ops.proofs.cat.cat_after.Goals as goal

pub returns-clause-string : goal.returns-clause-string
returns-clause-string c =
    ap flat_bytes c.join-from.ensures.makes.entries
    ∙ cat_bytes (chain_of c.args.pool.now c.args.chain.now).entries (chain_of c.args.pool.now c.args.second).entries
