use Rattle.libbsdudp.specs.Calls.{AnswersArrival}
use Rattle.libbsdudp.proofs.Answered.{called}
use Rattle.libbsdudp.proofs.bsdudp_core_rx.Goals as goal

pub returns-then-is_live : goal.returns-then-is_live
returns-then-is_live c =
    called c.args.handle.now (record { stack = c.rx.new.stack }) c.rx.result _ (λ z. AnswersArrival c.args.packet.now z)
    c.value_mut-held.result.now.stack (record { sfits = c.rx.type_inv }) c.if-is_live.true c.is_live.ensures
    c.value_mut-held.ensures.value c.rx.ensures
