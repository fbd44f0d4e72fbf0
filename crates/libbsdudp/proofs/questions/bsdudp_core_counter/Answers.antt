use Rattle.libbsdudp.specs.Queries.{ReportsCounter}
use Rattle.libbsdudp.proofs.Answered.{questioned}
use Rattle.libbsdudp.proofs.questions.bsdudp_core_counter.Goals as goal

pub returns-then-is_live : goal.returns-then-is_live
returns-then-is_live c =
    questioned c.args.handle.now c.value_mut-held.result.now c.counter.result _
    (λ z. ReportsCounter c.args.which z c.args.value.now c.counter.new.value)
    (record { sfits = c.counter.type_inv }) c.if-is_live.true c.is_live.ensures
    c.value_mut-held.ensures.value c.counter.ensures
