use Rattle.flat_model.specs.Machine.Event.{Close}
use Rattle.libbsdudp.specs.Calls.{AnswersCall}
use Rattle.libbsdudp.proofs.Answered.{called}
use Rattle.libbsdudp.proofs.bsdudp_core_close.Goals as goal

pub returns-then-is_live : goal.returns-then-is_live
returns-then-is_live c =
    called c.args.handle.now (record { stack = c.close.new.stack }) c.close.result _
    (λ z. AnswersCall (Close c.args.fd) z)
    c.value_mut-held.result.now.stack (record { sfits = c.close.type_inv }) c.if-is_live.true c.is_live.ensures
    c.value_mut-held.ensures.value c.close.ensures
