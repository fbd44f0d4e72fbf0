use Rattle.libbsdudp.specs.Queries.{ReportsLimit}
use Rattle.libbsdudp.proofs.Answered.{questioned}
use Rattle.libbsdudp.proofs.questions.bsdudp_core_receive_limit.Goals as goal

pub returns-then-is_live : goal.returns-then-is_live
returns-then-is_live c =
    questioned c.args.handle.now c.value_mut-held.result.now c.receive_limit.result _ (λ z. ReportsLimit c.args.fd z)
    (record { sfits = c.receive_limit.type_inv }) c.if-is_live.true c.is_live.ensures
    c.value_mut-held.ensures.value c.receive_limit.ensures
