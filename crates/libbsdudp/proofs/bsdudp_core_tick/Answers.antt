use Rattle.flat_model.specs.Machine.Event.{Tick}
use Rattle.libbsdudp.specs.Calls.{HasTicked}
use Rattle.libbsdudp.proofs.Answered.{called}
use Rattle.libbsdudp.proofs.bsdudp_core_tick.Goals as goal

pub returns-then-is_live : goal.returns-then-is_live
returns-then-is_live c =
    called c.args.handle.now (record { stack = c.tick.new.stack }) c.tick.result _ (λ z. HasTicked z Tick)
    c.value_mut-held.result.now.stack (record { sfits = c.tick.type_inv }) c.if-is_live.true c.is_live.ensures
    c.value_mut-held.ensures.value c.tick.ensures
