use Rattle.libbsdudp.specs.Calls.{AnswersFate}
use Rattle.libbsdudp.proofs.Answered.{called}
use Rattle.libbsdudp.proofs.bsdudp_core_rx_fate.Goals as goal

pub returns-then-is_live : goal.returns-then-is_live
returns-then-is_live c =
    called c.args.handle.now (record { stack = c.rx_fate.new.stack }) c.rx_fate.result _
    (λ z. AnswersFate c.args.packet.now z c.args.fate.now c.rx_fate.new.fate)
    c.value_mut-held.result.now.stack (record { sfits = c.rx_fate.type_inv }) c.if-is_live.true c.is_live.ensures
    c.value_mut-held.ensures.value c.rx_fate.ensures
