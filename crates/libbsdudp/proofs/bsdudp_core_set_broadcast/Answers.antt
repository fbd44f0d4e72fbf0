use Rattle.flat_model.specs.Machine.Event.{Set_option}
use Rattle.flat_model.specs.declared.option.Opt.TheVariants.{Broadcast}
use Rattle.libbsdudp.specs.Calls.{AnswersCall}
use Rattle.libbsdudp.proofs.Answered.{called}
use Rattle.libbsdudp.proofs.bsdudp_core_set_broadcast.Goals as goal

pub returns-then-is_live : goal.returns-then-is_live
returns-then-is_live c =
    called c.args.handle.now (record { stack = c.set.new.stack }) c.set.result _
    (λ z. AnswersCall (Set_option c.args.fd Broadcast c.args.on) z)
    c.value_mut-held.result.now.stack (record { sfits = c.set.type_inv }) c.if-is_live.true c.is_live.ensures
    c.value_mut-held.ensures.value c.set.ensures
