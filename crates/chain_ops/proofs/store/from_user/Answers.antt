use Rattle.std.proofs.Common.{true, length, arith, ap, ◌∙◌}
use Rattle.std.proofs.lemmas.Result.{IfOk-weaker}
use Rattle.mbuf_chain.specs.Chain.{flat_bytes}
use Rattle.flat_model.specs.Amounts.Layout.{user}
use Rattle.chain_ops.proofs.Stored.{first_bytes, rooms_sum}
use Rattle.chain_ops.proofs.store.from_user.Goals as goal

pub returns-clause-string : goal.returns-clause-string
returns-clause-string c =
    IfOk-weaker c.store.result _ _
    (λ d t. ap flat_bytes t.3.entries
    ∙ first_bytes 56 true t.0 (user (length c.args.bytes.now)) c.args.bytes.now t.2
    (rooms_sum 56 (length c.args.bytes.now) (omega arith)))
    c.store.ensures.ok
