use Rattle.std.proofs.Common.{subst}
use Rattle.flat_model.specs.Machine.Event.{Bind}
use Rattle.libbsdudp.specs.Calls.{AnswersCall}
use Rattle.flat_model.specs.declared.address.Addr.{Addr}
use Rattle.libbsdudp.specs.Plain.{addr_of}
use Rattle.libbsdudp.proofs.Answered.{called}
use Rattle.libbsdudp.proofs.bsdudp_core_bind.Goals as goal

pub returns-then-is_live : goal.returns-then-is_live
returns-then-is_live c =
    called c.args.handle.now (record { stack = c.bind.new.stack }) c.bind.result _
    (λ z. AnswersCall (Bind c.args.fd (addr_of c.args.local.now)) z)
    c.value_mut-held.result.now.stack (record { sfits = c.bind.type_inv }) c.if-is_live.true c.is_live.ensures
    c.value_mut-held.ensures.value
    (subst (λ (a : Addr). (AnswersCall (Bind c.args.fd a) c.bind.result)
    c.value_mut-held.result.now.stack c.bind.new.stack)
    c.addr.ensures c.bind.ensures)
