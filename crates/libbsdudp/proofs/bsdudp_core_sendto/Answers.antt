use Rattle.std.proofs.Common.{subst, Some}
use Rattle.flat_model.specs.Machine.Event.{Send}
use Rattle.libbsdudp.specs.Calls.{AnswersSend}
use Rattle.flat_model.specs.declared.address.Addr.{Addr}
use Rattle.libbsdudp.specs.Plain.{addr_of}
use Rattle.libbsdudp.proofs.Answered.{called}
use Rattle.libbsdudp.proofs.bsdudp_core_sendto.Goals as goal

pub returns-then-is_live : goal.returns-then-is_live
returns-then-is_live c =
    called c.args.handle.now (record { stack = c.send.new.stack }) c.send.result _
    (λ z. AnswersSend (Send c.args.fd (Some (addr_of c.args.to.now)) c.args.bytes.now) z)
    c.value_mut-held.result.now.stack (record { sfits = c.send.type_inv }) c.if-is_live.true c.is_live.ensures
    c.value_mut-held.ensures.value
    (subst (λ (a : Addr). (AnswersSend (Send c.args.fd (Some a) c.args.bytes.now) c.send.result)
    c.value_mut-held.result.now.stack c.send.new.stack)
    c.addr.ensures c.send.ensures)
