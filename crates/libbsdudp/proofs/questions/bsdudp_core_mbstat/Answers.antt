use Rattle.libbsdudp.specs.Queries.{ReportsUsage}
use Rattle.libbsdudp.proofs.Answered.{questioned}
use Rattle.libbsdudp.proofs.questions.bsdudp_core_mbstat.Goals as goal

pub returns-then-is_live : goal.returns-then-is_live
returns-then-is_live c =
    questioned c.args.handle.now c.value_mut-held.result.now c.mbstat.result _ (λ z. ReportsUsage z c.mbstat.new.usage)
    (record { sfits = c.mbstat.type_inv }) c.if-is_live.true c.is_live.ensures
    c.value_mut-held.ensures.value c.mbstat.ensures
