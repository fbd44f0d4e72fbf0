use Rattle.libbsdudp.specs.Queries.{ReportsNext}
use Rattle.libbsdudp.proofs.Answered.{questioned}
use Rattle.libbsdudp.proofs.questions.bsdudp_core_next.Goals as goal

pub returns-then-is_live : goal.returns-then-is_live
returns-then-is_live c =
    questioned c.args.handle.now c.value_mut-held.result.now c.next.result _
    (λ z. ReportsNext c.args.fd z c.args.next.now c.next.new.next)
    (record { sfits = c.next.type_inv }) c.if-is_live.true c.is_live.ensures
    c.value_mut-held.ensures.value c.next.ensures
