use Rattle.libbsdudp.specs.Calls.{AnswersTransmit}
use Rattle.libbsdudp.proofs.Answered.{called}
use Rattle.libbsdudp.proofs.bsdudp_core_tx.Goals as goal

pub returns-then-is_live : goal.returns-then-is_live
returns-then-is_live c =
    called c.args.handle.now (record { stack = c.tx.new.stack }) c.tx.result _
    (λ z. AnswersTransmit c.args.buffer.now c.tx.new.buffer z)
    c.value_mut-held.result.now.stack (record { sfits = c.tx.type_inv }) c.if-is_live.true c.is_live.ensures
    c.value_mut-held.ensures.value c.tx.ensures
