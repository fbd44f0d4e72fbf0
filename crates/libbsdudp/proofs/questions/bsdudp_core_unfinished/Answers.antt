use Rattle.libbsdudp.specs.Queries.{ReportsUnfinished}
use Rattle.libbsdudp.proofs.Answered.{questioned}
use Rattle.libbsdudp.proofs.questions.bsdudp_core_unfinished.Goals as goal

pub returns-then-is_live : goal.returns-then-is_live
returns-then-is_live c =
    questioned c.args.handle.now c.value_mut-held.result.now c.unfinished.result _
    (λ z. ReportsUnfinished c.args.i z c.args.datagram.now c.unfinished.new.datagram)
    (record { sfits = c.unfinished.type_inv }) c.if-is_live.true c.is_live.ensures
    c.value_mut-held.ensures.value c.unfinished.ensures
