use Rattle.std.proofs.Common.{subst}
use Rattle.flat_model.specs.Machine.Event.{Connect}
use Rattle.libbsdudp.specs.Calls.{AnswersCall}
use Rattle.flat_model.specs.declared.address.Addr.{Addr}
use Rattle.libbsdudp.specs.Plain.{addr_of}
use Rattle.libbsdudp.proofs.Answered.{called}
use Rattle.libbsdudp.proofs.bsdudp_core_connect.Goals as goal

pub returns-then-is_live : goal.returns-then-is_live
returns-then-is_live c =
    called c.args.handle.now (record { stack = c.connect.new.stack }) c.connect.result _
    (λ z. AnswersCall (Connect c.args.fd (addr_of c.args.to.now)) z)
    c.value_mut-held.result.now.stack (record { sfits = c.connect.type_inv }) c.if-is_live.true c.is_live.ensures
    c.value_mut-held.ensures.value
    (subst (λ (a : Addr). (AnswersCall (Connect c.args.fd a) c.connect.result)
    c.value_mut-held.result.now.stack c.connect.new.stack)
    c.addr.ensures c.connect.ensures)
