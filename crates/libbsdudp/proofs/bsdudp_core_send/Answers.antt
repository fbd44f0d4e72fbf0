use Rattle.std.proofs.Common.{None}
use Rattle.flat_model.specs.Machine.Event.{Send}
use Rattle.libbsdudp.specs.Calls.{AnswersSend}
use Rattle.libbsdudp.proofs.Answered.{called}
use Rattle.libbsdudp.proofs.bsdudp_core_send.Goals as goal

pub returns-then-is_live : goal.returns-then-is_live
returns-then-is_live c =
    called c.args.handle.now (record { stack = c.send.new.stack }) c.send.result _
    (λ z. AnswersSend (Send c.args.fd None c.args.bytes.now) z)
    c.value_mut-held.result.now.stack (record { sfits = c.send.type_inv }) c.if-is_live.true c.is_live.ensures
    c.value_mut-held.ensures.value c.send.ensures
