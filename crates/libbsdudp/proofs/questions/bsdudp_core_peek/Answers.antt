use Rattle.libbsdudp.specs.Queries.{ReportsOldest}
use Rattle.libbsdudp.proofs.Answered.{questioned}
use Rattle.libbsdudp.proofs.questions.bsdudp_core_peek.Goals as goal

pub returns-then-is_live : goal.returns-then-is_live
returns-then-is_live c =
    questioned c.args.handle.now c.value_mut-held.result.now c.peek.result _
    (λ z. ReportsOldest c.args.fd z c.args.buffer.now c.peek.new.buffer c.args.from.now c.peek.new.from)
    (record { sfits = c.peek.type_inv }) c.if-is_live.true c.is_live.ensures c.value_mut-held.ensures.value
    c.peek.ensures
