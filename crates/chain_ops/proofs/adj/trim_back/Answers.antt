use Rattle.std.proofs.Common.{arith, ap, sym, ◌∙◌}
use Rattle.mbuf_chain.specs.Chain.{chain_of}
use Rattle.mbuf_chain.specs.Steps.{with_entries_in}
use Rattle.chain_ops.proofs.Laws.Strings.{keep_enough}
use Rattle.chain_ops.proofs.Trims.{changed_none}
use Rattle.chain_ops.proofs.adj.trim_back.Goals as goal

pub returns-else-keep-len : goal.returns-else-keep-len
returns-else-keep-len c =
    changed_none _ _ c.requires
    ∙ ap (with_entries_in c.args.pool.now c.args.chain.now)
    (sym (keep_enough c.args.keep (chain_of c.args.pool.now c.args.chain.now).entries (omega arith)))
