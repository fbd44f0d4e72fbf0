use Rattle.std.proofs.Common.{false, length, arith, ap, ◌∙◌}
use Rattle.std.proofs.lemmas.Result.{IfOk-weaker}
use Rattle.mbuf_chain.specs.Chain.{flat_bytes}
use Rattle.flat_model.specs.Amounts.Layout.{wire}
use Rattle.chain_ops.proofs.Stored.{first_bytes, rooms_sum}
use Rattle.chain_ops.proofs.store.from_wire.Goals as goal

pub returns-clause-string : goal.returns-clause-string
returns-clause-string c =
    IfOk-weaker c.store.result _ _
    (λ d t. ap flat_bytes t.3.entries
    ∙ first_bytes 0 false t.0 (wire (length c.args.bytes.now)) c.args.bytes.now t.2
    (rooms_sum 0 (length c.args.bytes.now) (omega arith)))
    c.store.ensures.ok
