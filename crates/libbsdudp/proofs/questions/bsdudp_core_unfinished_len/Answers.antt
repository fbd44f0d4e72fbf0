use Rattle.libbsdudp.specs.Queries.{ReportsWaiting}
use Rattle.libbsdudp.proofs.Answered.{questioned}
use Rattle.libbsdudp.proofs.questions.bsdudp_core_unfinished_len.Goals as goal

pub returns-then-is_live : goal.returns-then-is_live
returns-then-is_live c =
    questioned c.args.handle.now c.value_mut-held.result.now c.unfinished_len.result _ (λ z. ReportsWaiting z)
    (record { sfits = c.unfinished_len.type_inv }) c.if-is_live.true c.is_live.ensures
    c.value_mut-held.ensures.value c.unfinished_len.ensures
