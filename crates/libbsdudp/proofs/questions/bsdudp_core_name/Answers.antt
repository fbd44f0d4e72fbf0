use Rattle.libbsdudp.specs.Queries.{ReportsName}
use Rattle.libbsdudp.proofs.Answered.{questioned}
use Rattle.libbsdudp.proofs.questions.bsdudp_core_name.Goals as goal

pub returns-then-is_live : goal.returns-then-is_live
returns-then-is_live c =
    questioned c.args.handle.now c.value_mut-held.result.now c.name.result _
    (λ z. ReportsName c.args.fd z c.args.name.now c.name.new.name)
    (record { sfits = c.name.type_inv }) c.if-is_live.true c.is_live.ensures
    c.value_mut-held.ensures.value c.name.ensures
