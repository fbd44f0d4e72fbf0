use Rattle.libbsdudp.specs.Queries.{ReportsPacket}
use Rattle.libbsdudp.proofs.Answered.{questioned}
use Rattle.libbsdudp.proofs.questions.bsdudp_core_next_packet.Goals as goal

pub returns-then-is_live : goal.returns-then-is_live
returns-then-is_live c =
    questioned c.args.handle.now c.value_mut-held.result.now c.next_packet.result _ (λ z. ReportsPacket z)
    (record { sfits = c.next_packet.type_inv }) c.if-is_live.true c.is_live.ensures
    c.value_mut-held.ensures.value c.next_packet.ensures
