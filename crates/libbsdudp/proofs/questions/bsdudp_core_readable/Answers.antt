use Rattle.libbsdudp.specs.Queries.{ReportsReadable}
use Rattle.libbsdudp.proofs.Answered.{questioned}
use Rattle.libbsdudp.proofs.questions.bsdudp_core_readable.Goals as goal

pub returns-then-is_live : goal.returns-then-is_live
returns-then-is_live c =
    questioned c.args.handle.now c.value_mut-held.result.now c.readable.result _
    (λ z. ReportsReadable z c.readable.new.set)
    (record { sfits = c.readable.type_inv }) c.if-is_live.true c.is_live.ensures
    c.value_mut-held.ensures.value c.readable.ensures
