use Rattle.libbsdudp.specs.Calls.{IsReceived}
use Rattle.libbsdudp.proofs.Answered.{called}
use Rattle.libbsdudp.proofs.bsdudp_core_recvfrom.Goals as goal

pub returns-then-is_live : goal.returns-then-is_live
returns-then-is_live c =
    called c.args.handle.now (record { stack = c.receive.new.stack }) c.receive.result _
    (λ z. IsReceived c.args.fd z c.args.buffer.now c.receive.new.buffer c.args.from.now c.receive.new.from)
    c.value_mut-held.result.now.stack (record { sfits = c.receive.type_inv }) c.if-is_live.true c.is_live.ensures
    c.value_mut-held.ensures.value c.receive.ensures
