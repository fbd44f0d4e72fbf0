use Rattle.libbsdudp.specs.Queries.{ReportsRange}
use Rattle.libbsdudp.proofs.Answered.{questioned}
use Rattle.libbsdudp.proofs.questions.bsdudp_core_unfinished_range.Goals as goal

pub returns-then-is_live : goal.returns-then-is_live
returns-then-is_live c =
    questioned c.args.handle.now c.value_mut-held.result.now c.unfinished_range.result _
    (λ z. ReportsRange c.args.i c.args.k z c.args.range.now c.unfinished_range.new.range)
    (record { sfits = c.unfinished_range.type_inv }) c.if-is_live.true c.is_live.ensures
    c.value_mut-held.ensures.value c.unfinished_range.ensures
