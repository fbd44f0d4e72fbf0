use Rattle.libbsdudp.specs.Calls.{IsOpened}
use Rattle.libbsdudp.proofs.Answered.{called}
use Rattle.libbsdudp.proofs.bsdudp_core_socket.Goals as goal

pub returns-then-is_live : goal.returns-then-is_live
returns-then-is_live c =
    called c.args.handle.now (record { stack = c.socket.new.stack }) c.socket.result _ (λ z. IsOpened z)
    c.value_mut-held.result.now.stack (record { sfits = c.socket.type_inv }) c.if-is_live.true c.is_live.ensures
    c.value_mut-held.ensures.value c.socket.ensures
