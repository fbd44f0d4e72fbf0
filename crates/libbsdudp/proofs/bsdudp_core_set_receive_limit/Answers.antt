use Rattle.flat_model.specs.Machine.Event.{Set_limit}
use Rattle.libbsdudp.specs.Calls.{AnswersCall}
use Rattle.libbsdudp.proofs.Answered.{called}
use Rattle.libbsdudp.proofs.bsdudp_core_set_receive_limit.Goals as goal

pub returns-then-is_live : goal.returns-then-is_live
returns-then-is_live c =
    called c.args.handle.now (record { stack = c.limit.new.stack }) c.limit.result _
    (λ z. AnswersCall (Set_limit c.args.fd c.args.limit) z)
    c.value_mut-held.result.now.stack (record { sfits = c.limit.type_inv }) c.if-is_live.true c.is_live.ensures
    c.value_mut-held.ensures.value c.limit.ensures
